use Rattle.std.proofs.Common.{◌≡◌, map, take}
use Rattle.window_incr.specs.Asked.{placed_spot}
use Rattle.window_incr.proofs.asking.placed.Given as goal

abbrev pub invariant-loop-spot : goal.invariant-loop-spot
invariant-loop-spot l = l.placed.items ≡ map (placed_spot l.log l.ids) (take l.spot-index l.spots)
