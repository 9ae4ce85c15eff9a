use Rattle.std.proofs.Common.{◌≡◌, map}
use Rattle.mops_run.specs.Deliveries.{reply_of}
use Rattle.mops_run.proofs.delivering.replies_to.Given as goal

abbrev pub invariant-loop-outcome : goal.invariant-loop-outcome
invariant-loop-outcome l = l.replies.items ≡ map reply_of l.yielded
