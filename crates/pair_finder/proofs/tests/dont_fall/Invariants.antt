use Rattle.pair_finder.proofs.NoneFalls.{StepsBelow}
use Rattle.pair_finder.proofs.tests.dont_fall.Given as goal

abbrev pub invariant-loop-later : goal.invariant-loop-later
invariant-loop-later l = StepsBelow l.spots l.later
