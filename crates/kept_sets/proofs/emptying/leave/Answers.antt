use Rattle.std.proofs.Common.{ℕ, Vec, Global, ◌<◌, List, length, map, get_or, rules}
use Rattle.kept_sets.specs.declared.finding.Holders.{Holders}
use Rattle.kept_sets.proofs.Emptied.{keeps_itself, keeps_set, keeps_then}
use Rattle.kept_sets.proofs.emptying.leave.Goals as goal
use Rattle.kept_sets.proofs.emptying.leave.Goals.{then-item-len, else-item-len}

abbrev items_of : Vec ℕ Global → List ℕ
items_of set = set.items

abbrev places_of : Holders → List ℕ
places_of holders = holders.places.items

pub loop-item-init : goal.loop-item-init
loop-item-init c = keeps_itself (map items_of c.args.sets.now) (map places_of c.args.index.now.items)

pub loop-item-preserved : goal.loop-item-preserved
loop-item-preserved c =
    let sets = map items_of c.args.sets.now in
    let item = get_or c.args.items.now c.loop-item.item-index 0 in
    elim c.if-item-len.branch [
      | then-item-len w ↦
          let inside : item < length c.loop-item.index.items = search rules in
          rw w.index-is (keeps_then sets (map places_of c.args.index.now.items) (map places_of c.loop-item.index.items) _ c.loop-item.invariant
          (keeps_set places_of sets c.loop-item.index.items item w.index_mut.result.now w.lose_one.new.holders inside w.index_mut.ensures.value w.lose_one.ensures))
      | else-item-len w ↦ rw w.index-is c.loop-item.invariant
    ]

pub returns : goal.returns
returns c = c.loop-item.invariant
