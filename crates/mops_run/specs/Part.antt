-- What is written where reading stops before the end of the input.
use Rattle.std.specs.Prelude.{◌≡◌, ℕ, ◌++◌, List, [], ◌∷◌, length, map}
use Rattle.std.specs.Io.KnownBytes.{Consumes}
use Rattle.std.specs.List.{All, flat_map}
use Rattle.std.specs.Str.Lines.{strip_carriage_return}
use Rattle.outer_io.specs.Receipt.{Receipt}
use Rattle.outer_io.specs.Seen.{NoFeed}
use Rattle.outer_io.specs.Supply.{Supply}
use Rattle.track_report.specs.declared.replies.Reply.{Reply}
use Rattle.mops_run.specs.declared.inputs.Input.{Input}
use Rattle.mops_run.specs.declared.top.Status.{Status}
use Rattle.mops_run.specs.declared.top.Status.TheVariants.{Done, DoneWithRefusals, Usage, ReadFault, WriteFault, NoMemory, InputTooLong}
use Rattle.mops_run.specs.Output.{WritesText, text_of_all}
use Rattle.mops_run.specs.State.{State, start}
use Rattle.mops_run.specs.Watch.{Answers}

-- bytes with a line feed behind them
abbrev pub with_feed : List ℕ → List ℕ
with_feed raw = raw ++ 10 ∷ []

-- bytes begin with lines that a line feed ends, of these contents, and then come some others
pub record BeginWithLines (bytes : List ℕ) (contents : List (List ℕ)) (others : List ℕ) : Type 0 where
  pub raw : List (List ℕ)
  pub each : All NoFeed raw
  pub parts : bytes ≡ flat_map with_feed raw ++ others
  pub contents_are : contents ≡ map strip_carriage_return raw

-- these are the contents of all lines that a line feed ends
abbrev pub AreEndedLines : List ℕ → List (List ℕ) → Type 0
AreEndedLines bytes contents = (others : List ℕ) × NoFeed others × BeginWithLines bytes contents others

-- the texts of the replies to those lines that a line feed ends were added, and nothing else
pub record WritesEnded (input : Input) (bytes : List ℕ) (old new : Receipt) : Type 0 where
  pub contents : List (List ℕ)
  pub ended : AreEndedLines bytes contents
  pub replies : List Reply
  pub state : State
  pub answers : Answers input 1 start contents replies state
  pub adds : WritesText old new (text_of_all replies)

-- what was taken behind the bytes that are answered: nothing, or one byte where these are as many as an input may have
abbrev pub IsBeyond : Status → List ℕ → Type 0
IsBeyond ReadFault extra = extra ≡ []
IsBeyond InputTooLong extra = length extra ≡ 1
IsBeyond Done extra = ⊥
IsBeyond DoneWithRefusals extra = ⊥
IsBeyond Usage extra = ⊥
IsBeyond WriteFault extra = ⊥
IsBeyond NoMemory extra = ⊥

-- reading stopped before the end of the input
abbrev pub StopsReading : Status → Type 0
StopsReading status = (extra : List ℕ) × IsBeyond status extra

-- the replies to the lines of the bytes taken were added, as far as a line feed ends these lines
pub record WritesTaken (input : Input) (status : Status) (source_old source_new : Supply) (old new : Receipt) : Type 0 where
  pub taken : List ℕ
  pub extra : List ℕ
  pub bytes : Consumes source_old.left source_new.left (taken ++ extra)
  pub beyond : IsBeyond status extra
  pub ended : WritesEnded input taken old new

-- bytes have one list of lines that a line feed ends
abbrev pub EndedLinesAreUnique : Type 0
EndedLinesAreUnique = (bytes : List ℕ) (one other : List (List ℕ)) → AreEndedLines bytes one → AreEndedLines bytes other → one ≡ other
