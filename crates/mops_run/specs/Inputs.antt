-- The two kinds of input: a script of detections and commands, and detections alone.
use Rattle.std.specs.Prelude.{◌≡◌, ℕ, List, [], ◌∷◌}
use Rattle.script_text.specs.declared.errors.ScriptError.TheVariants as causes
use Rattle.window_incr.specs.LinkerState.{LinkerState}
use Rattle.track_report.specs.declared.replies.Reply.{Reply}
use Rattle.track_report.specs.declared.replies.Reply.TheVariants as replies
use Rattle.mops_run.specs.declared.inputs.Input.{Input}
use Rattle.mops_run.specs.declared.inputs.Input.TheVariants.{Script, Plain}
use Rattle.mops_run.specs.declared.lines.Said.{Said}
use Rattle.mops_run.specs.declared.lines.Said.TheVariants.{Nothing, Waits, Refused, Asks, Malformed}
use Rattle.mops_run.specs.Deliveries.{Delivers}
use Rattle.mops_run.specs.Linking.{LinksAndReports}
use Rattle.mops_run.specs.Replies.{Replies}
use Rattle.mops_run.specs.State.{State}

-- a line that would be a command is refused at once, and nothing changes
abbrev pub RefusesAtOnce : ℕ → State → List Reply → State → Type 0
RefusesAtOnce number old given new = (given ≡ replies.Script number causes.Command ∷ []) × (new ≡ old)

-- the replies to a line of an input; among detections alone no command is taken, well formed or not
abbrev pub RepliesIn : Input → ℕ → State → Said → List Reply → State → Type 0
RepliesIn Script number old said given new = Replies number old said given new
RepliesIn Plain number old (Asks command) given new = RefusesAtOnce number old given new
RepliesIn Plain number old (Malformed error) given new = RefusesAtOnce number old given new
RepliesIn Plain number old Nothing given new = Replies number old Nothing given new
RepliesIn Plain number old (Waits d) given new = Replies number old (Waits d) given new
RepliesIn Plain number old (Refused error) given new = Replies number old (Refused error) given new

-- the replies at the end of an input, of what still waits: its delivery; or, for detections alone, what linking them gives, and a report
abbrev pub EndsIn : Input → State → List Reply → LinkerState → Type 0
EndsIn Script state given new = Delivers state.linker state.waiting given new
EndsIn Plain state given new = LinksAndReports state.linker state.waiting given new
