-- What the summary of a made sky is.
use Rattle.std.specs.Prelude.{List, ℕ}
use Rattle.sky_units.specs.declared.statistics.Stats.{Stats}
use Rattle.made_sky.specs.MadeSky.{MadeSky, made_detections}
use Rattle.window_incr.specs.LinkerState.{LinkerState}
use Rattle.window_incr.specs.Answers.{AreStats}
use Rattle.track_report.specs.Texts.{text_of}
use Rattle.track_report.specs.declared.replies.Reply.{Reply}
use Rattle.track_report.specs.declared.replies.Reply.TheVariants as replies
use Rattle.mops_run.specs.declared.forms.SkyPlan.{SkyPlan}
use Rattle.mops_run.specs.Linking.{Links}
use Rattle.mops_run.specs.State.{start}

-- the statistics that stand after the detections of a made sky are linked at once
pub record IsSummary (sky : MadeSky) (stats : Stats) : Type 0 where
  pub given : List Reply
  pub linker : LinkerState
  pub links : Links start.linker (made_detections sky) given linker
  pub stats_are : AreStats linker stats

-- the text of the summary
abbrev pub summary_text : SkyPlan → Stats → List ℕ
summary_text plan stats = text_of (replies.Summary plan.number plan.nights plan.objects stats)
