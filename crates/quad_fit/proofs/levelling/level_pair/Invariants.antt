use Rattle.quad_fit.specs.Curves.{IsCurveData}
use Rattle.quad_fit.specs.References.{IsPairOf, IsLevelLine}
use Rattle.quad_fit.proofs.Heights.{headroom}
use Rattle.quad_fit.proofs.levelling.level_pair.Given as goal

-- the line is level on two of the marks
abbrev pub invariant-loop-outside : goal.invariant-loop-outside
invariant-loop-outside l = record { pair : IsPairOf l.marks l.pair; level : IsLevelLine l.fn.tol l.pair l.line; range : IsCurveData l.line }

abbrev pub decreases-loop-outside : goal.decreases-loop-outside
decreases-loop-outside l = headroom l.line.slope l.line.den
