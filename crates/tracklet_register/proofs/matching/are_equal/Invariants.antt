use Rattle.std.proofs.Common.{◌≡◌, take}
use Rattle.tracklet_register.proofs.matching.are_equal.Given as goal

abbrev pub invariant-loop-place : goal.invariant-loop-place
invariant-loop-place l = take l.place l.spots ≡ take l.place l.others
