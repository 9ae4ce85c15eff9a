use Rattle.std.proofs.lemmas.Result.{IfOk-weaker}
use Rattle.made_sky.specs.MadeSky.{made_detections}
use Rattle.mops_run.proofs.Summaries.{few_detections}
use Rattle.mops_run.specs.Forms.{sky_of}
use Rattle.mops_run.specs.Linking.{Links}
use Rattle.mops_run.specs.State.{start}
use Rattle.mops_run.specs.Summing.{IsSummary}
use Rattle.window_incr.specs.Answers.{AreStats}
use Rattle.mops_run.proofs.summing.stats_of.Goals as goal

pub link_all-requires : goal.link_all-requires
link_all-requires c = record { few = rw (c.in_ok-detections.ensures, c.in_ok-sky.ensures) (few_detections c.args.plan c.requires) }

pub returns-clause-summary : goal.returns-clause-summary
returns-clause-summary c =
    let links : Links start.linker (made_detections (sky_of c.args.plan)) c.in_ok-link_all.field-0.items c.link_all.new.linker.state =
    rw (c.in_ok-linker.ensures.empty, c.standard.ensures, c.in_ok-detections.ensures, c.in_ok-sky.ensures) at c.in_ok-link_all.ensures.replies in
    IfOk-weaker c.stats.result (AreStats c.link_all.new.linker.state) (IsSummary (sky_of c.args.plan)) (λ stats is. record { given = c.in_ok-link_all.field-0.items; linker = c.link_all.new.linker.state; links = links; stats_are = is }) c.stats.ensures
