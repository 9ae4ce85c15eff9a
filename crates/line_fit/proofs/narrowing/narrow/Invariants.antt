use Rattle.std.specs.Prelude.{Some}
use Rattle.line_fit.specs.Slopes.{IsNarrowed}
use Rattle.line_fit.proofs.Steps.{SuitsBelow}
use Rattle.line_fit.proofs.narrowing.narrow.Given as goal

-- what is left suits each two of the spots seen
abbrev pub invariant-loop-last : goal.invariant-loop-last
invariant-loop-last l = IsNarrowed l.fn.slopes (SuitsBelow l.fn.axis l.fn.tol l.spots l.last) (Some l.left)
