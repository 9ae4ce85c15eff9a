-- How lines are answered on the sink.
use Rattle.std.specs.Prelude.{◌≡◌, ℕ, Bool, List}
use Rattle.std.specs.List.{list_any}
use Rattle.outer_io.specs.Receipt.{Receipt}
use Rattle.track_report.specs.Refusals.{is_refusal}
use Rattle.track_report.specs.declared.replies.Reply.{Reply}
use Rattle.window_incr.specs.LinkerState.{LinkerState}
use Rattle.mops_run.specs.State.{State}
use Rattle.mops_run.specs.declared.inputs.Input.{Input}
use Rattle.mops_run.specs.declared.lines.Said.{Said}
use Rattle.mops_run.specs.Inputs.{RepliesIn, EndsIn}
use Rattle.mops_run.specs.Output.{text_of_all, WritesText, FailsIn}

-- the texts of some replies were added, and one of them is a refusal or none is
pub record Says (given : List Reply) (old new : Receipt) (refused : Bool) : Type 0 where
  pub adds : WritesText old new (text_of_all given)
  pub refused_is : refused ≡ list_any is_refusal given

-- the replies to what the line of a number says were said
pub record Answered (input : Input) (number : ℕ) (state : State) (said : Said) (old new : Receipt) (refused : Bool) (after : State) : Type 0 where
  pub given : List Reply
  pub replies : RepliesIn input number state said given after
  pub says : Says given old new refused

-- a front of the texts of the replies to what the line of a number says was added, and then a call failed
pub record FailsToAnswer (input : Input) (number : ℕ) (state : State) (said : Said) (old new : Receipt) : Type 0 where
  pub given : List Reply
  pub after : State
  pub replies : RepliesIn input number state said given after
  pub fails : FailsIn old new (text_of_all given)

-- the replies at the end of the input were said
pub record Finished (input : Input) (state : State) (old new : Receipt) (refused : Bool) : Type 0 where
  pub given : List Reply
  pub linker : LinkerState
  pub ending : EndsIn input state given linker
  pub says : Says given old new refused

-- a front of the texts of these was added, and then a call failed
pub record FailsToFinish (input : Input) (state : State) (old new : Receipt) : Type 0 where
  pub given : List Reply
  pub linker : LinkerState
  pub ending : EndsIn input state given linker
  pub fails : FailsIn old new (text_of_all given)
