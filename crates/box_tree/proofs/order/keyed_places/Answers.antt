use Rattle.std.proofs.Common.{◌≡◌, ℕ, ◌+◌, [], ◌∷◌, ◌++◌, sym, ◌∙◌, ap, map-id, arith}
use Rattle.std.proofs.lemmas.List.{map-append}
use Rattle.std.proofs.lemmas.List.FromFn.{map-range_with_len_more}
use Rattle.sky_units.specs.Pairs.{below}
use Rattle.box_tree.proofs.order.keyed_places.Goals as goal

below_more : (n : ℕ) → below (n + 1) ≡ below n ++ n ∷ []
below_more n = sym (map-id (below (n + 1))) ∙ map-range_with_len_more (λ (k : ℕ). k) 0 n n (omega arith) ∙ ap (λ ns. ns ++ n ∷ []) (map-id (below n))

pub loop-place-preserved : goal.loop-place-preserved
loop-place-preserved g c =
    let pushed = c.in_ok-push.ensures.items in
    rw (below_more c.loop-place.place, pushed, map-append, c.loop-place.invariant)
