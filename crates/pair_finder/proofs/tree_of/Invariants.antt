use Rattle.std.proofs.Common.{◌≡◌, take}
use Rattle.pair_finder.proofs.tree_of.Given as goal

abbrev pub invariant-loop-spot : goal.invariant-loop-spot
invariant-loop-spot l = l.placed.items ≡ take l.spot-index l.spots
