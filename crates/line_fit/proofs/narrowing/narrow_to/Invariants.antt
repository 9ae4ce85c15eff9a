use Rattle.std.specs.Prelude.{Some}
use Rattle.line_fit.specs.Slopes.{IsNarrowed}
use Rattle.line_fit.proofs.Steps.{SuitsUpTo}
use Rattle.line_fit.proofs.narrowing.narrow_to.Given as goal

-- what is left suits the last spot and those seen
abbrev pub invariant-loop-i : goal.invariant-loop-i
invariant-loop-i l = IsNarrowed l.fn.slopes (SuitsUpTo l.fn.axis l.fn.tol l.spots l.last l.i) (Some l.left)
