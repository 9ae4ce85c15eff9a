use Rattle.std.proofs.Common.{◌≡◌, ℕ, ◌<◌, ◌≤◌, Vec, Global, List, [], length, map, take, get_or, ap, ◌∙◌, rules}
use Rattle.std.proofs.lemmas.List.{length-map, take_all, take_more}
use Rattle.kept_sets.specs.declared.finding.Holders.{Holders}
use Rattle.kept_sets.proofs.Emptied.{HasTakenOut, taken_none, taken_out, taken_past}
use Rattle.kept_sets.proofs.emptying.take_out.Goals as goal
use Rattle.kept_sets.proofs.emptying.take_out.Goals.{then-place-len, else-place-len}

abbrev items_of : Vec ℕ Global → List ℕ
items_of set = set.items

abbrev places_of : Holders → List ℕ
places_of holders = holders.places.items

pub loop-place-init : goal.loop-place-init
loop-place-init c = taken_none (map items_of c.args.sets.now.items) (map places_of c.args.index.now.items) c.requires

pub loop-place-preserved : goal.loop-place-preserved
loop-place-preserved c =
    let before = map items_of c.args.sets.now.items in
    let place = get_or c.args.places.now c.loop-place.place-index 0 in
    let places = take c.loop-place.place-index c.args.places.now in
    let next = take_more c.args.places.now c.loop-place.place-index 0 c.loop-place-test.true in
    rw next (elim c.if-place-len.branch [
      | then-place-len w ↦
          let inside : place < length c.loop-place.sets.items = search rules in
          let none : items_of w.replace-set.new.dest ≡ [] = ap items_of w.replace-set.ensures.after ∙ w.new.ensures.items in
          let keeps = rw w.as_slice.ensures.value at w.leave.ensures in
          rw (w.sets-is, w.index-is) (taken_out items_of before places place c.loop-place.sets.items (map places_of c.loop-place.index.items) (map places_of w.leave.new.index.items) w.replace-set.new.dest c.loop-place.invariant inside none keeps)
      | else-place-len w ↦
          let past : length c.loop-place.sets.items ≤ place = search rules in
          let behind : length (map items_of c.loop-place.sets.items) ≤ place = simp length-map past in
          rw (w.sets-is, w.index-is) (taken_past before places place (map items_of c.loop-place.sets.items) (map places_of c.loop-place.index.items) c.loop-place.invariant behind)
    ])

pub returns : goal.returns
returns c =
    let all = take_all c.loop-place.place-index c.args.places.now c.loop-place-test.false in
    let has : HasTakenOut (map items_of c.args.sets.now.items) c.args.places.now (map items_of c.loop-place.sets.items) (map places_of c.loop-place.index.items) = rw all at c.loop-place.invariant in
    record { found = has.found; emptied = has.emptied.emptied; left = has.emptied.left }
