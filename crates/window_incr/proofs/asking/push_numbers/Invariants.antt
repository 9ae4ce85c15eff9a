use Rattle.std.proofs.Common.{◌≡◌, ◌++◌, map, take}
use Rattle.sky_units.specs.SpotData.{SpotData}
use Rattle.window_incr.proofs.asking.push_numbers.Given as goal

abbrev pub invariant-loop-spot : goal.invariant-loop-spot
invariant-loop-spot l = l.numbers.items ≡ l.initial.numbers.items ++ map (λ (spot : SpotData). spot.num) (take l.spot-index l.spots)
