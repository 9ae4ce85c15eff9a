use Rattle.std.proofs.Common.{◌≤◌, ◌+◌, length}
use Rattle.std.specs.Vec.{vec_capacity}
use Rattle.exposure_log.proofs.Delivered.{HoldsSoFar}
use Rattle.exposure_log.proofs.outcomes.hold_all.Given as goal

-- those before are held, and there is room for the outcomes of those that are left
abbrev pub invariant-loop-exposure : goal.invariant-loop-exposure
invariant-loop-exposure l =
    HoldsSoFar l.initial.log l.fn.exposures.items l.outcomes.items l.log l.exposure-iterator.rest.items
    × (length l.outcomes.items + length l.exposure-iterator.rest.items ≤ vec_capacity l.outcomes)
