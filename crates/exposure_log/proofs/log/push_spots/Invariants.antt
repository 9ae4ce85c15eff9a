use Rattle.std.proofs.Common.{◌≡◌, ◌++◌, map, take}
use Rattle.exposure_log.specs.Held.{spot_of}
use Rattle.exposure_log.specs.Numbered.{entries_of}
use Rattle.exposure_log.proofs.log.push_spots.Given as goal

abbrev pub invariant-loop-number : goal.invariant-loop-number
invariant-loop-number l = l.spots.items ≡ l.initial.spots.items ++ map spot_of (entries_of l.register (take l.number-index l.numbers))
