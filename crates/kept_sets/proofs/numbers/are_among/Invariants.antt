use Rattle.std.proofs.Common.{take}
use Rattle.sky_units.specs.Tracks.{AreAmong}
use Rattle.kept_sets.proofs.numbers.are_among.Given as goal

abbrev pub invariant-loop-item : goal.invariant-loop-item
invariant-loop-item l = AreAmong (take l.item-index l.one) l.other
