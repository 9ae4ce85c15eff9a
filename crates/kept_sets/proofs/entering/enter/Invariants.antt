use Rattle.std.proofs.Common.{map, take}
use Rattle.kept_sets.proofs.Entered.{HasEntered}
use Rattle.kept_sets.proofs.entering.enter.Given as goal

abbrev pub invariant-loop-item : goal.invariant-loop-item
invariant-loop-item l = HasEntered (map (λ holders. holders.places.items) l.initial.index.items) (map (λ holders. holders.places.items) l.index.items) (take l.item-index l.set) l.place
