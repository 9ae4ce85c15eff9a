use Rattle.std.proofs.Common.{vec_len}
use Rattle.exposure_log.proofs.Cutting.{Cut}
use Rattle.exposure_log.proofs.exposures.cut.Given as goal

abbrev pub invariant-loop-alloc : goal.invariant-loop-alloc
invariant-loop-alloc l = Cut l.fn.sorted.items l.rest.items l.exposures.items

abbrev pub decreases-loop-alloc : goal.decreases-loop-alloc
decreases-loop-alloc l = vec_len l.rest
