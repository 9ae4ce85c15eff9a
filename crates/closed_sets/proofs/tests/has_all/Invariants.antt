use Rattle.std.proofs.Common.{take}
use Rattle.sky_units.specs.Tracks.{AreAmong}
use Rattle.closed_sets.proofs.tests.has_all.Given as goal

abbrev pub invariant-loop-number : goal.invariant-loop-number
invariant-loop-number l = AreAmong (take l.number-index l.numbers) l.object
