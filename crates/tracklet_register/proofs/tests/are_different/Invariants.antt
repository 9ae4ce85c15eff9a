use Rattle.std.proofs.Common.{take}
use Rattle.tracklet_register.specs.Replacing.{AreDifferent}
use Rattle.tracklet_register.proofs.tests.are_different.Given as goal

abbrev pub invariant-loop-place : goal.invariant-loop-place
invariant-loop-place l = AreDifferent (take l.place l.tracklets)
