use Rattle.std.proofs.Common.{◌≡◌, take}
use Rattle.mops_run.specs.Output.{text_of_all}
use Rattle.mops_run.proofs.reading.write_replies.Given as goal

abbrev pub invariant-loop-reply : goal.invariant-loop-reply
invariant-loop-reply l = l.text.items ≡ text_of_all (take l.reply-index l.replies)
