use Rattle.std.specs.Prelude.{take}
use Rattle.quad_fit.specs.NearStart.{AreNearInTime}
use Rattle.quad_fit.proofs.reporting_tests.are_near.Given as goal

abbrev pub invariant-loop-place : goal.invariant-loop-place
invariant-loop-place l = AreNearInTime l.epoch (take l.place l.spots)
