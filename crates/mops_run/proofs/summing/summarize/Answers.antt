use Rattle.std.proofs.Common.{◌∙◌, subst}
use Rattle.mops_run.specs.Output.{WritesText, FailsIn}
use Rattle.mops_run.proofs.Summaries.{Summarizes-done, Summarizes-failed}
use Rattle.mops_run.proofs.summing.summarize.Goals as goal

pub returns-in-Ok-put-clause-summary : goal.returns-in-Ok-put-clause-summary
returns-in-Ok-put-clause-summary g c =
    Summarizes-done c.args.plan c.in-Ok.ensures.text.0 _ _ c.in-Ok.ensures.text.1
    (subst (WritesText (g.O.Sink.receipt c.args.sink.now) (g.O.Sink.receipt c.put.new.sink)) (c.as_slice.ensures.value ∙ c.in-Ok.ensures.text.2) c.in-Ok-put.ensures.ok)

pub returns-clause-summary : goal.returns-clause-summary
returns-clause-summary g c =
    Summarizes-failed c.args.plan c.in-Ok.ensures.text.0 _ _ c.in-Ok.ensures.text.1
    (subst (FailsIn (g.O.Sink.receipt c.args.sink.now) (g.O.Sink.receipt c.put.new.sink)) (c.as_slice.ensures.value ∙ c.in-Ok.ensures.text.2) c.in-Err.ensures.err)
