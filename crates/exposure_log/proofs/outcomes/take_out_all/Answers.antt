use Rattle.exposure_log.proofs.Delivered.{none_is_out, one_more_out}
use Rattle.exposure_log.proofs.outcomes.take_out_all.Goals as goal

pub loop-outcome-init : goal.loop-outcome-init
loop-outcome-init c = none_is_out c.args.log.now

pub loop-outcome-preserved : goal.loop-outcome-preserved
loop-outcome-preserved c =
    one_more_out c.args.log.now c.loop-outcome.log c.take_out.new.log c.args.outcomes.now c.loop-outcome.outcome-index c.outcome-item.result c.loop-outcome-test.true c.outcome-item.is c.loop-outcome.invariant c.take_out.ensures
