use Rattle.std.proofs.Common.{◌≡◌, ℕ, Vec, Global, List, map, take, sym, subst, ap, ◌∙◌}
use Rattle.std.specs.List.{Contains}
use Rattle.kept_sets.specs.declared.finding.Holders.{Holders}
use Rattle.kept_sets.specs.Stored.{IsFound, filled, is_filled}
use Rattle.kept_sets.proofs.Compacted.{indexed_none, indexed_with, indexed_without}
use Rattle.kept_sets.proofs.Places.{taken_map, took_map}
use Rattle.kept_sets.proofs.compacting.index_of.Goals as goal
use Rattle.kept_sets.proofs.compacting.index_of.Goals.{then-has_items+in_ok-enter, else-has_items}

abbrev items_of : Vec ℕ Global → List ℕ
items_of set = set.items

abbrev places_of : Holders → List ℕ
places_of holders = holders.places.items

pub loop-set-init : goal.loop-set-init
loop-set-init c = rw c.new-index.ensures.items indexed_none

pub loop-set-preserved : goal.loop-set-preserved
loop-set-preserved c =
    let set = c.set-item.result.items in
    let sets = take c.loop-set.set-index (map items_of c.args.sets.now) in
    let next = taken_map items_of c.args.sets.now c.loop-set.set-index c.set-item.result c.loop-set-test.true c.set-item.is in
    let tests : c.has_items.result ≡ is_filled c.set-item.result.items = c.has_items.ensures ∙ ap is_filled c.as_slice.ensures.value in
    rw next (elim c.if-has_items.branch [
      | then-has_items+in_ok-enter w ↦
          rw (w.index-is, w.place-is) (indexed_with sets set c.loop-set.place c.loop-set.set-index (map places_of c.loop-set.index.items) (map places_of w.enter.new.index.items) (sym tests ∙ w.if-has_items.true) c.loop-set.invariant w.enter.ensures.wider (λ item d. w.in_ok-enter.ensures.entered item (subst (λ l. Contains l item) (sym w.as_slice-then-has_items.ensures.value) d)))
      | else-has_items w ↦
          rw (w.index-is, w.place-is) (indexed_without sets set c.loop-set.place c.loop-set.set-index (map places_of c.loop-set.index.items) (sym tests ∙ w.if-has_items.false) c.loop-set.invariant)
    ])

pub returns : goal.returns
returns c =
    let all = took_map items_of c.args.sets.now c.loop-set.set-index c.loop-set-test.false in
    subst (λ l. IsFound (filled l) (map places_of c.loop-set.index.items)) all c.loop-set.invariant.found
