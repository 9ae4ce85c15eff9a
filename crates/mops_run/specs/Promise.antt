-- What a run of the program promises of the bytes that it reads and writes.
use Rattle.std.specs.Prelude.{◌≡◌, ◌≢◌, ◌⊎◌, ◌^◌, ◌≤◌, ◌<◌, ◌↔◌, ℕ, Bool, true, false, List, length, Option, Some, None, IfSome, IsSomeAnd}
use Rattle.std.specs.List.{list_any}
use Rattle.std.specs.Str.Lines.{lines}
use Rattle.std.specs.Io.KnownBytes.{Consumes, IsAtEnd}
use Rattle.outer_io.specs.Supply.{Supply, Rises, risen, last_count}
use Rattle.outer_io.specs.Receipt.{Receipt, IsFlushed}
use Rattle.track_report.specs.Refusals.{is_refusal}
use Rattle.mops_run.specs.Output.{text_of_all}
use Rattle.mops_run.specs.Output.{WritesText, WritesTextFront}
use Rattle.mops_run.specs.declared.inputs.Input.{Input}
use Rattle.mops_run.specs.Part.{StopsReading, WritesTaken}
use Rattle.mops_run.specs.Watch.{AnswersAll}
use Rattle.track_report.specs.declared.replies.Reply.{Reply}
use Rattle.mops_run.specs.declared.top.Status.{Status}
use Rattle.mops_run.specs.declared.top.Status.TheVariants.{Done, DoneWithRefusals, Usage, ReadFault, WriteFault, NoMemory, InputTooLong}

-- whether something was refused, where a status says that the run is done
abbrev pub refused_by : Status → Option Bool
refused_by Done = Some false
refused_by DoneWithRefusals = Some true
refused_by Usage = None
refused_by ReadFault = None
refused_by WriteFault = None
refused_by NoMemory = None
refused_by InputTooLong = None

-- how a run ends that is done: with refusals or without
abbrev pub done_status : Bool → Status
done_status true = DoneWithRefusals
done_status false = Done

-- the texts of the replies to all lines of the input were added, and one of these is a refusal or none is
abbrev pub WritesAll : Input → List ℕ → Receipt → Receipt → Bool → Type 0
WritesAll input bytes old new refused =
    (replies : List Reply) × AnswersAll input (lines bytes) replies × WritesText old new (text_of_all replies) × (refused ≡ list_any is_refusal replies)

-- a front of the texts of the replies to all lines of the input was added
abbrev pub WritesFront : Input → List ℕ → Receipt → Receipt → Type 0
WritesFront input bytes old new = (replies : List Reply) → AnswersAll input (lines bytes) replies → WritesTextFront old new (text_of_all replies)

-- the end of the input was marked, and nothing is left
abbrev pub IsSpent : Supply → Type 0
IsSpent source = (source.ended ≡ true) × IsAtEnd source.left

-- the source counted a fault exactly where the run ended by it
abbrev pub SourceFaults : Status → ℕ → ℕ → Type 0
SourceFaults ReadFault old new = Rises old new
SourceFaults Done old new = new ≡ old
SourceFaults DoneWithRefusals old new = new ≡ old
SourceFaults Usage old new = new ≡ old
SourceFaults WriteFault old new = new ≡ old
SourceFaults NoMemory old new = new ≡ old
SourceFaults InputTooLong old new = new ≡ old

-- the sink counted a fault exactly where the run ended by it
abbrev pub SinkFaults : Status → ℕ → ℕ → Type 0
SinkFaults WriteFault old new = Rises old new
SinkFaults Done old new = new ≡ old
SinkFaults DoneWithRefusals old new = new ≡ old
SinkFaults Usage old new = new ≡ old
SinkFaults ReadFault old new = new ≡ old
SinkFaults NoMemory old new = new ≡ old
SinkFaults InputTooLong old new = new ≡ old

-- these bytes were taken from the source, its next ones, and the run found the input too long exactly where they are 2^32
pub record Takes (status : Status) (old new : Supply) : Type 0 where
  pub given : List ℕ
  pub bytes : Consumes old.left new.left given
  pub counted : new.taken ≡ risen old.taken (length given)
  pub within : length given ≤ 2 ^ 32
  pub too_long : (status ≡ InputTooLong) ↔ (length given ≡ 2 ^ 32)

-- all was read and answered
abbrev pub IsDone : Status → Type 0
IsDone status = (refused : Bool) × (status ≡ done_status refused)

-- the input is told, and has fewer than 2^32 bytes
abbrev pub IsShort : Option (List ℕ) → Type 0
IsShort left = IsSomeAnd left (λ input. length input < 2 ^ 32)

-- a count of faults did not rise, and could have
abbrev pub NoneFailed : ℕ → ℕ → Type 0
NoneFailed old new = (new ≡ old) × (old < last_count)

-- the run neither failed to write nor wanted memory
abbrev pub EndsByReading : Status → Type 0
EndsByReading Done = Unit {0}
EndsByReading DoneWithRefusals = Unit {0}
EndsByReading ReadFault = Unit {0}
EndsByReading InputTooLong = Unit {0}
EndsByReading Usage = ⊥
EndsByReading WriteFault = ⊥
EndsByReading NoMemory = ⊥

-- how answering the lines of a source on a sink ended, by its status
pub record Reads (input : Input) (status : Status) (source_old source_new : Supply) (sink_old sink_new : Receipt) : Type 0 where
  -- where the bytes of the input are told: all replies are written, or a front of them
  pub whole : IfSome (refused_by status) (λ refused. IfSome source_old.left (λ bytes. WritesAll input bytes sink_old sink_new refused))
  pub front : IfSome source_old.left (λ bytes. WritesFront input bytes sink_old sink_new)
  pub part : StopsReading status → IfSome source_old.left (λ bytes. WritesTaken input status source_old source_new sink_old sink_new)
  -- a run that is done has read all there is
  pub spent : IfSome (refused_by status) (λ refused. IsSpent source_new)
  -- all that was written is flushed, unless a write failed or memory was wanting
  pub flushed : EndsByReading status → (sink_new ≡ sink_old) ⊎ IsFlushed sink_new
  pub source_faults : SourceFaults status source_old.faults source_new.faults
  pub sink_faults : SinkFaults status sink_old.faults sink_new.faults
  pub taken : Takes status source_old source_new
  pub used : status ≢ Usage

-- a run that reads nothing is done, and refuses nothing, or failed to write, or wanted memory
abbrev pub EndsUnread : Status → Type 0
EndsUnread Done = Unit {0}
EndsUnread WriteFault = Unit {0}
EndsUnread NoMemory = Unit {0}
EndsUnread DoneWithRefusals = ⊥
EndsUnread Usage = ⊥
EndsUnread ReadFault = ⊥
EndsUnread InputTooLong = ⊥

-- how a run that reads nothing and writes one text ended, by its status
pub record Writes (status : Status) (old new : Receipt) (text : List ℕ) : Type 0 where
  pub whole : IfSome (refused_by status) (λ _. WritesText old new text)
  pub front : WritesTextFront old new text
  pub faults : SinkFaults status old.faults new.faults
  pub ends : EndsUnread status
