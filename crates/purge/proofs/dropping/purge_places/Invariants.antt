use Rattle.std.specs.Prelude.{length}
use Rattle.purge.specs.Purging.{purge_of}
use Rattle.purge.proofs.Left.{IsLeft}
use Rattle.purge.proofs.dropping.purge_places.Given as goal

-- the rest has the result of the whole
abbrev pub invariant-loop-settings : goal.invariant-loop-settings
invariant-loop-settings l = IsLeft l.settings l.spots (purge_of l.settings l.spots l.fn.group) l.left.items l.together.items

abbrev pub decreases-loop-settings : goal.decreases-loop-settings
decreases-loop-settings l = length l.left.items
