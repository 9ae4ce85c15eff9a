use Rattle.line_fit.specs.Slopes.{AreSuited}
use Rattle.line_fit.proofs.lines.are_near.Given as goal

-- the slope suits the spots seen
abbrev pub invariant-loop-at : goal.invariant-loop-at
invariant-loop-at l = AreSuited l.fn.axis l.fn.tol l.fn.along.num l.fn.along.den l.spots l.at
