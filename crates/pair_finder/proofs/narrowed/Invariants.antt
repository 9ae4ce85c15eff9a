use Rattle.std.proofs.Common.{◌≡◌, take}
use Rattle.pair_finder.proofs.narrowed.Given as goal

abbrev pub invariant-loop-pair : goal.invariant-loop-pair
invariant-loop-pair l = l.narrow.items ≡ take l.pair-index l.places
