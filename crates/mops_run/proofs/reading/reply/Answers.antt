use Rattle.std.proofs.Common.{Vec, Global}
use Rattle.window_incr.specs.LinkerState.{LinkerState}
use Rattle.track_report.specs.declared.replies.Reply.{Reply}
use Rattle.mops_run.specs.declared.inputs.Input.TheVariants.{Plain}
use Rattle.mops_run.specs.Inputs.{RepliesIn}
use Rattle.mops_run.specs.State.{state_of}
use Rattle.mops_run.proofs.Steps.{at_one}
use Rattle.mops_run.proofs.reading.reply.Goals as goal

pub returns-in-Script-clause-replies : goal.returns-in-Script-clause-replies
returns-in-Script-clause-replies c = rw c.in-Script.is c.script_reply.ensures.replies

pub returns-in-Plain-clause-replies : goal.returns-in-Plain-clause-replies
returns-in-Plain-clause-replies c =
    rw c.in-Plain.is (at_one (λ (l : LinkerState) (r : Vec Reply Global). RepliesIn Plain c.args.number (state_of l c.args.waiting.now.items) c.args.said r.items (state_of l c.plain_reply.new.waiting.items))
    c.args.linker.now.state c.plain_reply.result c.plain_reply.ensures.replies)
