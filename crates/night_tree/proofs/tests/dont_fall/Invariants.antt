use Rattle.line_fit.proofs.OneDay.{NoneFallsBelow}
use Rattle.night_tree.proofs.tests.dont_fall.Given as goal

abbrev pub invariant-loop-i : goal.invariant-loop-i
invariant-loop-i l = NoneFallsBelow l.spots l.i
