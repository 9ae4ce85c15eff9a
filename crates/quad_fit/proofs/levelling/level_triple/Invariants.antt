use Rattle.quad_fit.specs.Levels.{IsBent}
use Rattle.quad_fit.proofs.LevelSteps.{IsState, bend_left}
use Rattle.quad_fit.proofs.levelling.level_triple.Given as goal

-- the curve is levelled on three of the marks that no line passes
abbrev pub invariant-loop-triple : goal.invariant-loop-triple
invariant-loop-triple l = IsState l.fn.tol l.up l.marks l.triple l.curve × IsBent l.fn.tol l.up l.triple

abbrev pub decreases-loop-triple : goal.decreases-loop-triple
decreases-loop-triple l = bend_left l.up l.curve
