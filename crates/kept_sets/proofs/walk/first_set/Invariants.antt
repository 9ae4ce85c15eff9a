use Rattle.std.proofs.Common.{◌≡◌, map, length}
use Rattle.kept_sets.specs.Stored.{filled}
use Rattle.kept_sets.proofs.walk.first_set.Given as goal

abbrev pub invariant-loop-set : goal.invariant-loop-set
invariant-loop-set l = filled (map (λ set. set.items) l.left) ≡ filled (map (λ set. set.items) l.fn.places)

abbrev pub decreases-loop-set : goal.decreases-loop-set
decreases-loop-set l = length l.left
