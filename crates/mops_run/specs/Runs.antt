-- How a run ended, by the form of the words.
use Rattle.std.specs.Prelude.{◌≡◌, ◌⊎◌, ◌≢◌, ℕ, Bool, false, List, Option, IfSome}
use Rattle.sky_units.specs.declared.statistics.Stats.{Stats}
use Rattle.made_sky.specs.MadeSky.{made_text}
use Rattle.outer_io.specs.Supply.{Supply}
use Rattle.outer_io.specs.Receipt.{Receipt, IsFlushed}
use Rattle.mops_run.specs.declared.forms.Form.{Form}
use Rattle.mops_run.specs.declared.forms.Form.TheVariants.{Watch, Link, Generate, Summary}
use Rattle.mops_run.specs.declared.forms.SkyPlan.{SkyPlan}
use Rattle.mops_run.specs.declared.inputs.Input.TheVariants.{Script, Plain}
use Rattle.mops_run.specs.declared.top.Status.{Status}
use Rattle.mops_run.specs.declared.top.Status.TheVariants.{Usage}
use Rattle.mops_run.specs.Forms.{sky_of}
use Rattle.mops_run.specs.Output.{WritesText, WritesTextFront}
use Rattle.mops_run.specs.Part.{StopsReading, WritesTaken}
use Rattle.mops_run.specs.Promise.{WritesAll, WritesFront, IsSpent, IsShort, NoneFailed, SourceFaults, SinkFaults, Takes, EndsByReading, EndsUnread, refused_by}
use Rattle.mops_run.specs.Summing.{IsSummary, summary_text}

-- the text of a summary was added
abbrev pub WritesSummary : SkyPlan → Receipt → Receipt → Type 0
WritesSummary plan old new = (stats : Stats) × IsSummary (sky_of plan) stats × WritesText old new (summary_text plan stats)

-- a front of the text of the summary was added
abbrev pub WritesSummaryFront : SkyPlan → Receipt → Receipt → Type 0
WritesSummaryFront plan old new = (stats : Stats) → IsSummary (sky_of plan) stats → WritesTextFront old new (summary_text plan stats)

-- the whole text was added: the replies to the lines of the bytes that are told, the lines of the made sky, or its summary
abbrev pub WritesWhole : Form → Option (List ℕ) → Receipt → Receipt → Bool → Type 0
WritesWhole Watch told old new refused = IfSome told (λ bytes. WritesAll Script bytes old new refused)
WritesWhole Link told old new refused = IfSome told (λ bytes. WritesAll Plain bytes old new refused)
WritesWhole (Generate plan) told old new refused = (refused ≡ false) × WritesText old new (made_text (sky_of plan))
WritesWhole (Summary plan) told old new refused = (refused ≡ false) × WritesSummary plan old new

-- a front of it was added
abbrev pub WritesPart : Form → Option (List ℕ) → Receipt → Receipt → Type 0
WritesPart Watch told old new = IfSome told (λ bytes. WritesFront Script bytes old new)
WritesPart Link told old new = IfSome told (λ bytes. WritesFront Plain bytes old new)
WritesPart (Generate plan) told old new = WritesTextFront old new (made_text (sky_of plan))
WritesPart (Summary plan) told old new = WritesSummaryFront plan old new

-- the replies to the lines of the bytes taken that a line feed ends were added, where the source tells its bytes; only a form that reads stops reading
abbrev pub WritesTakenPart : Form → Status → Supply → Supply → Receipt → Receipt → Type 0
WritesTakenPart Watch status source_old source_new old new = IfSome source_old.left (λ bytes. WritesTaken Script status source_old source_new old new)
WritesTakenPart Link status source_old source_new old new = IfSome source_old.left (λ bytes. WritesTaken Plain status source_old source_new old new)
WritesTakenPart (Generate plan) status source_old source_new old new = ⊥
WritesTakenPart (Summary plan) status source_old source_new old new = ⊥

-- how a run that writes a summary and reads nothing ended, by its status
pub record Summarizes (plan : SkyPlan) (status : Status) (old new : Receipt) : Type 0 where
  pub whole : IfSome (refused_by status) (λ _. WritesSummary plan old new)
  pub front : WritesSummaryFront plan old new
  pub faults : SinkFaults status old.faults new.faults
  pub ends : EndsUnread status

-- the form reads an input
abbrev pub ReadsInput : Form → Type 0
ReadsInput Watch = Unit {0}
ReadsInput Link = Unit {0}
ReadsInput (Generate plan) = ⊥
ReadsInput (Summary plan) = ⊥

-- an input that is read is told and short, and no read of it failed
pub record IsReadable (form : Form) (old new : Supply) : Type 0 where
  pub short : ReadsInput form → IsShort old.left
  pub none_failed : ReadsInput form → NoneFailed old.faults new.faults

-- how a run of a form ended, by its status
pub record Runs (form : Form) (status : Status) (source_old source_new : Supply) (sink_old sink_new : Receipt) : Type 0 where
  pub whole : IfSome (refused_by status) (WritesWhole form source_old.left sink_old sink_new)
  pub front : WritesPart form source_old.left sink_old sink_new
  pub part : StopsReading status → WritesTakenPart form status source_old source_new sink_old sink_new
  pub spent : IfSome (refused_by status) (λ _. ReadsInput form → IsSpent source_new)
  pub flushed : EndsByReading status → (sink_new ≡ sink_old) ⊎ IsFlushed sink_new
  pub source_faults : SourceFaults status source_old.faults source_new.faults
  pub sink_faults : SinkFaults status sink_old.faults sink_new.faults
  pub taken : Takes status source_old source_new
  pub used : status ≢ Usage
