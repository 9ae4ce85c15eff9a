use Rattle.quad_fit.proofs.LevelSteps.{IsState, bend_left}
use Rattle.quad_fit.proofs.levelling.extreme.Given as goal

-- the curve is levelled on three of the marks
abbrev pub invariant-loop-outside : goal.invariant-loop-outside
invariant-loop-outside l = IsState l.fn.tol l.up l.marks l.triple l.curve

abbrev pub decreases-loop-outside : goal.decreases-loop-outside
decreases-loop-outside l = bend_left l.up l.curve
