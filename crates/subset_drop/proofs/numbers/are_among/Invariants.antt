use Rattle.std.proofs.Common.{take}
use Rattle.sky_units.specs.Tracks.{AreAmong}
use Rattle.subset_drop.proofs.numbers.are_among.Given as goal

abbrev pub invariant-loop-number : goal.invariant-loop-number
invariant-loop-number l = AreAmong (take l.number-index l.one) l.other
