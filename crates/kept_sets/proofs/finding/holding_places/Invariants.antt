use Rattle.std.proofs.Common.{map, take}
use Rattle.kept_sets.proofs.Places.{HasHoldingOne}
use Rattle.kept_sets.proofs.finding.holding_places.Given as goal

abbrev pub invariant-loop-item : goal.invariant-loop-item
invariant-loop-item l = HasHoldingOne (map (λ set. set.items) l.sets) (take l.item-index l.items) l.places.items
