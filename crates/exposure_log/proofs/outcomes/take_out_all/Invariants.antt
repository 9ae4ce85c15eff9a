use Rattle.std.proofs.Common.{◌≡◌, take}
use Rattle.exposure_log.proofs.Delivered.{without}
use Rattle.exposure_log.proofs.outcomes.take_out_all.Given as goal

abbrev pub invariant-loop-outcome : goal.invariant-loop-outcome
invariant-loop-outcome l = l.log ≡ without (take l.outcome-index l.outcomes) l.initial.log
