-- The fit tests that a run may count: those of the exposures that it adds.
use Rattle.std.specs.Prelude.{◌≡◌, ◌⊎◌, ◌++◌, ◌+◌, ◌+ℤ◌, ℕ, ℤ, pos, Option, IfSome, List, [], ◌∷◌}
use Rattle.std.specs.Str.Lines.{lines}
use Rattle.exposure_log.specs.Deliveries.{AreExposuresOf}
use Rattle.exposure_log.specs.Held.{ExposureData}
use Rattle.made_sky.specs.MadeSky.{made_detections}
use Rattle.miti_text.specs.Observation.{Observation}
use Rattle.sky_units.specs.declared.tallies.Tally.{Tally}
use Rattle.track_report.specs.declared.replies.Reply.{Reply}
use Rattle.window_incr.specs.LinkerState.{LinkerData, LinkerState}
use Rattle.window_incr.specs.Results.{KeepsResults}
use Rattle.window_incr.specs.Work.{IsWorkOfHolding}
use Rattle.mops_run.specs.Commands.{Obeys}
use Rattle.mops_run.specs.Forms.{sky_of}
use Rattle.mops_run.specs.Inputs.{RepliesIn}
use Rattle.mops_run.specs.Lines.{said_by}
use Rattle.mops_run.specs.Linking.{IsLeastNight}
use Rattle.mops_run.specs.State.{State, start}
use Rattle.mops_run.specs.declared.forms.Form.{Form}
use Rattle.mops_run.specs.declared.forms.Form.TheVariants.{Watch, Link, Generate, Summary}
use Rattle.mops_run.specs.declared.inputs.Input.{Input}
use Rattle.mops_run.specs.declared.inputs.Input.TheVariants.{Script, Plain}
use Rattle.mops_run.specs.declared.lines.Command.TheVariants.{Window}
use Rattle.mops_run.specs.declared.lines.Said.{Said}
use Rattle.mops_run.specs.declared.lines.Said.TheVariants.{Nothing, Waits, Refused, Asks, Malformed}

-- the tally rises by no more than the work of holding exposures, in a linker of this state that keeps its results
pub record IsWorkToHold (s : LinkerState) (exposures : List ExposureData) (before after : Tally) : Type 0 where
  pub linker : LinkerData
  pub of_state : linker.state ≡ s
  pub keeps : KeepsResults linker
  pub work : IsWorkOfHolding linker exposures before after

-- it stays, or rises by no more than the work of holding the exposures of these detections
abbrev pub IsWorkToDeliver : LinkerState → List Observation → Tally → Tally → Type 0
IsWorkToDeliver s waiting before after = (after ≡ before) ⊎ ((exposures : List ExposureData) × AreExposuresOf waiting exposures × IsWorkToHold s exposures before after)

-- the same where the window was set to their least night and the twenty-nine after it
pub record IsWorkInWindow (old : LinkerState) (detections : List Observation) (before after : Tally) : Type 0 where
  pub night : ℤ
  pub least : IsLeastNight old.settings.night_shift detections night
  pub window : Reply
  pub between : LinkerState
  pub set : Obeys (Window night (night +ℤ pos 29)) old window between
  pub delivery : IsWorkToDeliver between detections before after

-- it stays, or rises by no more than the work of linking these detections at once
abbrev pub IsWorkToLink : LinkerState → List Observation → Tally → Tally → Type 0
IsWorkToLink old detections before after = (after ≡ before) ⊎ IsWorkInWindow old detections before after

-- a command, well formed or not, has what waits delivered; no other line takes a test, and none among detections alone
abbrev pub IsWorkOfLine : Input → State → Said → Tally → Tally → Type 0
IsWorkOfLine Script state (Asks command) before after = IsWorkToDeliver state.linker state.waiting before after
IsWorkOfLine Script state (Malformed error) before after = IsWorkToDeliver state.linker state.waiting before after
IsWorkOfLine Script state Nothing before after = after ≡ before
IsWorkOfLine Script state (Waits d) before after = after ≡ before
IsWorkOfLine Script state (Refused error) before after = after ≡ before
IsWorkOfLine Plain state said before after = after ≡ before

-- at the end of an input what still waits is delivered; or detections alone are linked
abbrev pub IsWorkAtEnd : Input → State → Tally → Tally → Type 0
IsWorkAtEnd Script state before after = IsWorkToDeliver state.linker state.waiting before after
IsWorkAtEnd Plain state before after = IsWorkToLink state.linker state.waiting before after

-- lines, of which the first has this number, are answered one after another, each with its work, and lead to this state
abbrev pub IsWorkOfLines : Input → ℕ → State → List (List ℕ) → Tally → Tally → State → Type 0
IsWorkOfLines input number old [] before after new = (after ≡ before) × (new ≡ old)
IsWorkOfLines input number old (line ∷ rest) before after new =
    (given : List Reply) × (between : State) × (mid : Tally)
    × RepliesIn input number old (said_by line) given between
    × IsWorkOfLine input old (said_by line) before mid
    × IsWorkOfLines input (number + 1) between rest mid after new

-- the work of the first of some lines, or of the end where there is none
abbrev pub IsWorkOfNext : Input → State → List (List ℕ) → Tally → Tally → Type 0
IsWorkOfNext input state [] before after = IsWorkAtEnd input state before after
IsWorkOfNext input state (line ∷ rest) before after = IsWorkOfLine input state (said_by line) before after

-- the work of an input's lines, as far as a run came: of those that were answered, and of the next one or of the end
pub record IsWorkOfInput (input : Input) (all : List (List ℕ)) (before after : Tally) : Type 0 where
  pub answered : List (List ℕ)
  pub left : List (List ℕ)
  pub lines_are : all ≡ answered ++ left
  pub state : State
  pub mid : Tally
  pub answering : IsWorkOfLines input 1 start answered before mid state
  pub next : IsWorkOfNext input state left mid after

-- the work of a run of a form, where its bytes are told: of the lines of these, or of the detections of a made sky
abbrev pub IsWorkOf : Form → Option (List ℕ) → Tally → Tally → Type 0
IsWorkOf Watch told before after = IfSome told (λ bytes. IsWorkOfInput Script (lines bytes) before after)
IsWorkOf Link told before after = IfSome told (λ bytes. IsWorkOfInput Plain (lines bytes) before after)
IsWorkOf (Generate plan) told before after = after ≡ before
IsWorkOf (Summary plan) told before after = IsWorkToLink start.linker (made_detections (sky_of plan)) before after
