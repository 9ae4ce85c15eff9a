use Rattle.quad_fit.proofs.Farthest.{SoFar}
use Rattle.quad_fit.proofs.exchange.farthest.Given as goal

-- what was found among the marks seen
abbrev pub invariant-loop-place : goal.invariant-loop-place
invariant-loop-place l = SoFar l.fn.tol l.curve l.marks l.place l.found
