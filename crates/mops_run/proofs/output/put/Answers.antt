use Rattle.mops_run.proofs.Receipts.{WroteFront-more}
use Rattle.mops_run.proofs.output.put.Goals as goal

pub loop-rest-preserved : goal.loop-rest-preserved
loop-rest-preserved g c = WroteFront-more _ _ _ _ _ _ c.loop-rest.invariant c.in_ok-count.ensures.wrote
