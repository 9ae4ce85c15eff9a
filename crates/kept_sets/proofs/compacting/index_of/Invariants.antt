use Rattle.std.proofs.Common.{map, take}
use Rattle.kept_sets.proofs.Compacted.{HasIndexed}
use Rattle.kept_sets.proofs.compacting.index_of.Given as goal

abbrev pub invariant-loop-set : goal.invariant-loop-set
invariant-loop-set l = HasIndexed (take l.set-index (map (λ set. set.items) l.sets)) l.place l.set-index (map (λ holders. holders.places.items) l.index.items)
