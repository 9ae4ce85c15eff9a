use Rattle.std.proofs.Common.{length}
use Rattle.made_sky.proofs.tests.count.Given as goal

abbrev pub decreases-loop-sightings : goal.decreases-loop-sightings
decreases-loop-sightings l = length l.sightings.left
