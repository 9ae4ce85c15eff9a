use Rattle.std.proofs.Common.{length}
use Rattle.mops_run.proofs.Receipts.{WroteFront}
use Rattle.mops_run.proofs.output.put.Given as goal

abbrev pub invariant-loop-rest : goal.invariant-loop-rest
invariant-loop-rest g l = WroteFront (g.O.Sink.receipt l.initial.sink) (g.O.Sink.receipt l.sink) l.text l.rest

abbrev pub decreases-loop-rest : goal.decreases-loop-rest
decreases-loop-rest g l = length l.rest
