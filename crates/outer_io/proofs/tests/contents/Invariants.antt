use Rattle.std.proofs.Common.{◌≡◌, ◌-◌, ◌^◌, ◌+◌, true, false, cond}
use Rattle.outer_io.specs.Reading.{used}
use Rattle.outer_io.proofs.tests.contents.Given as goal

abbrev pub invariant-loop-going : goal.invariant-loop-going
invariant-loop-going g l = l.going ≡ true → l.reader.stopped ≡ false

abbrev pub decreases-loop-going : goal.decreases-loop-going
decreases-loop-going g l = 2 ^ 32 - used l.reader + cond l.going 1 0
