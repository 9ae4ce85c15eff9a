-- What the program answers to the lines of an input.
use Rattle.std.specs.Prelude.{◌≡◌, ℕ, ◌+◌, ◌++◌, List, [], ◌∷◌}
use Rattle.mops_run.specs.Lines.{said_by}
use Rattle.window_incr.specs.LinkerState.{LinkerState}
use Rattle.mops_run.specs.declared.inputs.Input.{Input}
use Rattle.mops_run.specs.Inputs.{RepliesIn, EndsIn}
use Rattle.mops_run.specs.State.{State, start}
use Rattle.track_report.specs.declared.replies.Reply.{Reply}

-- the replies to lines, of which the first has this number, are these, and lead to this state
abbrev pub Answers : Input → ℕ → State → List (List ℕ) → List Reply → State → Type 0
Answers input number old [] given new = (given ≡ []) × (new ≡ old)
Answers input number old (line ∷ lines) given new =
    (now : List Reply) × (later : List Reply) × (between : State)
    × RepliesIn input number old (said_by line) now between
    × Answers input (number + 1) between lines later new
    × (given ≡ now ++ later)

-- the replies to a whole input, whose lines are numbered from 1: those to its lines, and those at its end
pub record AnswersAll (input : Input) (lines : List (List ℕ)) (given : List Reply) : Type 0 where
  pub so_far : List Reply
  pub state : State
  pub last : List Reply
  pub linker : LinkerState
  pub answers : Answers input 1 start lines so_far state
  pub ending : EndsIn input state last linker
  pub given_is : given ≡ so_far ++ last

-- each list of lines has only one list of replies
abbrev pub RepliesAreUnique : Type 0
RepliesAreUnique = (input : Input) (lines : List (List ℕ)) (one other : List Reply) → AnswersAll input lines one → AnswersAll input lines other → one ≡ other

-- each list of lines has a list of replies
abbrev pub RepliesExist : Type 0
RepliesExist = (input : Input) (lines : List (List ℕ)) → (given : List Reply) × AnswersAll input lines given
