use Rattle.std.proofs.Common.{map, take}
use Rattle.kept_sets.proofs.Places.{HasExtended}
use Rattle.kept_sets.proofs.finding.extended_places.Given as goal

abbrev pub invariant-loop-set : goal.invariant-loop-set
invariant-loop-set l = HasExtended (map (λ set. set.items) l.sets) l.came (take l.set-index (map (λ set. set.items) l.grown)) l.places.items
