use Rattle.std.proofs.Common.{◌≡◌, ℕ, ◌-◌, ◌<◌, ◌≤◌, Vec, Global, List, length, map, refl, sym, subst, ap, ◌∙◌}
use Rattle.std.proofs.lemmas.Bool.{false≢true}
use Rattle.std.proofs.lemmas.List.{length-map}
use Rattle.sky_units.specs.Tracks.{AreAmong}
use Rattle.kept_sets.specs.Lists.{less}
use Rattle.kept_sets.specs.Stored.{at}
use Rattle.kept_sets.proofs.Basics.{not_false, not_true}
use Rattle.kept_sets.proofs.Remaining.{allows_added, allows_old}
use Rattle.kept_sets.proofs.rests.allows.Goals as goal

abbrev items_of : Vec ℕ Global → List ℕ
items_of set = set.items

pub returns-then-not-are_among : goal.returns-then-not-are_among
returns-then-not-are_among c =
    let inside : c.args.place < length (map items_of c.args.sets.now) = simp length-map c.if-place-sets.true in (
      λ t. (allows_old (map items_of c.args.sets.now) (map items_of c.args.added.now) c.args.went.now c.args.rest.now c.args.place inside).1 (λ a. absurd (false≢true (c.if-not-are_among.ensures.1 (subst (AreAmong c.args.rest.now) (sym c.set_at-set.ensures) a)))),
      λ h. refl,
    )

pub returns-then-place-sets : goal.returns-then-place-sets
returns-then-place-sets c =
    let inside : c.args.place < length (map items_of c.args.sets.now) = simp length-map c.if-place-sets.true in
    let both = allows_old (map items_of c.args.sets.now) (map items_of c.args.added.now) c.args.went.now c.args.rest.now c.args.place inside in
    let among : AreAmong c.args.rest.now (at (map items_of c.args.sets.now) c.args.place) = subst (AreAmong c.args.rest.now) c.set_at-set.ensures (c.if-not-are_among.ensures.0 refl) in (
      λ t. both.1 (λ a. subst (λ s. AreAmong (less c.args.went.now s) c.args.rest.now) c.set_at-set.ensures (c.rest_is_among.ensures.0 t)),
      λ h. c.rest_is_among.ensures.1 (subst (λ s. AreAmong (less c.args.went.now s) c.args.rest.now) (sym c.set_at-set.ensures) (both.0 h among)),
    )

pub returns : goal.returns
returns c =
    let behind : length (map items_of c.args.sets.now) ≤ c.args.place = simp length-map c.if-place-sets.false in
    let both = allows_added (map items_of c.args.sets.now) (map items_of c.args.added.now) c.args.went.now c.args.rest.now c.args.place behind in
    let there : c.set_at.result.now ≡ at (map items_of c.args.added.now) (c.args.place - length (map items_of c.args.sets.now)) = c.set_at.ensures ∙ ap (λ n. at (map items_of c.args.added.now) (c.args.place - n)) (sym (length-map c.args.sets.now items_of)) in (
      λ t. both.1 (λ a. not_true c.are_among-2.result t (c.are_among-2.ensures.1 (subst (AreAmong c.args.rest.now) (sym there) a))),
      λ h. not_false c.are_among-2.result (λ t. both.0 h (subst (AreAmong c.args.rest.now) there (c.are_among-2.ensures.0 t))),
    )
