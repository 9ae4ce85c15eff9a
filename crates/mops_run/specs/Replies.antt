-- The replies to a line, and the state after it.
use Rattle.std.specs.Prelude.{◌≡◌, ℕ, List, [], ◌∷◌, ◌++◌}
use Rattle.track_report.specs.declared.replies.Reply.{Reply}
use Rattle.track_report.specs.declared.replies.Reply.TheVariants as replies
use Rattle.window_incr.specs.LinkerState.{LinkerState}
use Rattle.mops_run.specs.declared.lines.Said.{Said}
use Rattle.mops_run.specs.declared.lines.Said.TheVariants.{Nothing, Waits, Refused, Asks, Malformed}
use Rattle.mops_run.specs.State.{State}
use Rattle.mops_run.specs.Deliveries.{Delivers}
use Rattle.mops_run.specs.Commands.{Obeys, Refuses}

-- what waits is delivered, and then the line has its own reply
pub record RepliesLast (Own : LinkerState → Reply → LinkerState → Type 0) (old : State) (given : List Reply) (new : State) : Type 0 where
  pub delivered : List Reply
  pub own : Reply
  pub between : LinkerState
  pub delivery : Delivers old.linker old.waiting delivered between
  pub replied : Own between own new.linker
  pub none_waits : new.waiting ≡ []
  pub given_is : given ≡ delivered ++ own ∷ []

-- a blank line gives nothing; a detection joins those that wait; a refused line has its reply at once; a command, well formed or not,
-- first has what waits delivered
abbrev pub Replies : ℕ → State → Said → List Reply → State → Type 0
Replies number old Nothing given new = (given ≡ []) × (new ≡ old)
Replies number old (Waits d) given new = (given ≡ []) × (new ≡ record old { waiting = old.waiting ++ d ∷ [] })
Replies number old (Refused error) given new = (given ≡ replies.Line number error ∷ []) × (new ≡ old)
Replies number old (Asks command) given new = RepliesLast (Obeys command) old given new
Replies number old (Malformed error) given new = RepliesLast (Refuses number error) old given new
