use Rattle.exposure_log.proofs.Cutting.{EndsWithOne}
use Rattle.exposure_log.proofs.exposures.start_of_last.Given as goal

abbrev pub invariant-loop-start : goal.invariant-loop-start
invariant-loop-start l = EndsWithOne l.fn.list l.start

abbrev pub decreases-loop-start : goal.decreases-loop-start
decreases-loop-start l = l.start
