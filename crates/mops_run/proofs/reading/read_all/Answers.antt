use Rattle.std.proofs.Common.{◌∙◌, ap, refl}
use Rattle.std.specs.Prelude.{Ok, Err}
use Rattle.mops_run.proofs.SoFar.{SoFar-start, SoFar-line, NextLine-from}
use Rattle.mops_run.proofs.Endings.{AtEnd-from, Reads-write_fault, Reads-no_memory, Reads-read_fault, Reads-too_long, Reads-done, Reads-unfinished, Reads-no_memory_left}
use Rattle.mops_run.proofs.Works.{WorkedSoFar-start, WorkedSoFar-line, Worked-end, Worked-line, Worked-so_far}
use Rattle.mops_run.proofs.reading.read_all.Goals as goal

pub loop-line-init : goal.loop-line-init
loop-line-init g c = (
  rw (c.in-Ok.ensures, c.in-Ok-new.ensures.empty, c.standard.ensures, c.new-waiting.ensures.items) (SoFar-start _ _ _),
  rw (c.in-Ok.ensures, c.in-Ok-new.ensures.empty, c.standard.ensures, c.new-waiting.ensures.items) (WorkedSoFar-start _ _ _),
)

pub loop-line-preserved : goal.loop-line-preserved
loop-line-preserved g c = (
  SoFar-line _ _ _ _ _ _ _ _ _ _ _ _ _ _ _ c.loop-line.invariant.0
      (NextLine-from _ _ _ _ _ (c.in-Ok-Line.is ∙ ap (λ got. Ok got) c.in-Ok-Line.field-0-is) c.next.ensures.line c.next.ensures.faults c.next.ensures.counts c.next.ensures.limit
      c.next.ensures.progress c.next.ensures.ends c.next.ensures.stopped (λ h. (c.next.ensures.over h).0))
      (rw c.line.ensures at c.in-Ok-answer.ensures.ok)
      refl,
  WorkedSoFar-line _ _ _ _ _ _ _ _ _ _ _ _ _ c.loop-line.invariant.1
      (NextLine-from _ _ _ _ _ (c.in-Ok-Line.is ∙ ap (λ got. Ok got) c.in-Ok-Line.field-0-is) c.next.ensures.line c.next.ensures.faults c.next.ensures.counts c.next.ensures.limit
      c.next.ensures.progress c.next.ensures.ends c.next.ensures.stopped (λ h. (c.next.ensures.over h).0))
      (rw c.line.ensures at c.in-Ok-answer.ensures.ok).replies
      (rw c.line.ensures at c.in-Ok-answer.ensures.work),
)

pub returns-in-Err-WriteFault-clause-reads : goal.returns-in-Err-WriteFault-clause-reads
returns-in-Err-WriteFault-clause-reads g c =
    Reads-write_fault _ _ _ _ _ _ _ _ _ _ _ _ c.loop-line.invariant.0
    (NextLine-from _ _ _ _ _ (c.in-Ok-Line.is ∙ ap (λ got. Ok got) c.in-Ok-Line.field-0-is) c.next.ensures.line c.next.ensures.faults c.next.ensures.counts c.next.ensures.limit
    c.next.ensures.progress c.next.ensures.ends c.next.ensures.stopped (λ h. (c.next.ensures.over h).0))
    (rw c.line.ensures at (c.answer.ensures.fault (c.in-Err-WriteFault.is ∙ ap (λ e. Err e) c.in-Err-WriteFault.field-0-is)))

pub returns-in-Err-NoMemory-clause-reads : goal.returns-in-Err-NoMemory-clause-reads
returns-in-Err-NoMemory-clause-reads g c =
    Reads-no_memory _ _ _ _ _ _ _ _ _ _ _ _ c.loop-line.invariant.0
    (NextLine-from _ _ _ _ _ (c.in-Ok-Line.is ∙ ap (λ got. Ok got) c.in-Ok-Line.field-0-is) c.next.ensures.line c.next.ensures.faults c.next.ensures.counts c.next.ensures.limit
    c.next.ensures.progress c.next.ensures.ends c.next.ensures.stopped (λ h. (c.next.ensures.over h).0))
    (ap g.O.Sink.receipt (c.answer.ensures.memory (c.in-Err-NoMemory.is ∙ ap (λ e. Err e) c.in-Err-NoMemory.field-0-is)))

pub returns-in-Err-Failed-clause-reads : goal.returns-in-Err-Failed-clause-reads
returns-in-Err-Failed-clause-reads g c =
    Reads-read_fault _ _ _ _ _ _ _ _ _ _ _ _ c.loop-line.invariant.0 (c.in-Err-Failed.is ∙ ap (λ e. Err e) c.in-Err-Failed.field-0-is)
    (λ h. (c.next.ensures.over h).0) c.next.ensures.failed c.next.ensures.faults c.next.ensures.counts c.next.ensures.limit

pub returns-in-Err-TooLong-clause-reads : goal.returns-in-Err-TooLong-clause-reads
returns-in-Err-TooLong-clause-reads g c =
    Reads-too_long _ _ _ _ _ _ _ _ _ _ _ _ c.loop-line.invariant.0 (c.in-Err-TooLong.is ∙ ap (λ e. Err e) c.in-Err-TooLong.field-0-is)
    (λ h. (c.next.ensures.over h).0) c.next.ensures.too_long c.next.ensures.faults c.next.ensures.counts c.next.ensures.limit

pub returns-in-Ok-finish-clause-reads : goal.returns-in-Ok-finish-clause-reads
returns-in-Ok-finish-clause-reads g c =
    rw c.done.ensures (Reads-done _ _ _ _ _ _ _ _ _ _ _ _ _ c.loop-line.invariant.0
    (AtEnd-from _ _ _ _ _ _ _ _ _ _ _ _ c.loop-line.invariant.0 (c.in-Ok-End.is ∙ ap (λ got. Ok got) c.in-Ok-End.field-0-is) c.next.ensures.end c.next.ensures.answered
    c.next.ensures.faults c.next.ensures.counts c.next.ensures.limit c.next.ensures.ends (λ h. ap g.I.Source.supply (c.next.ensures.over h).1))
    c.in-Ok-finish.ensures.ok)

pub returns-in-Err-WriteFault-finish-clause-reads : goal.returns-in-Err-WriteFault-finish-clause-reads
returns-in-Err-WriteFault-finish-clause-reads g c =
    Reads-unfinished _ _ _ _ _ _ _ _ _ _ _ _ c.loop-line.invariant.0
    (AtEnd-from _ _ _ _ _ _ _ _ _ _ _ _ c.loop-line.invariant.0 (c.in-Ok-End.is ∙ ap (λ got. Ok got) c.in-Ok-End.field-0-is) c.next.ensures.end c.next.ensures.answered
    c.next.ensures.faults c.next.ensures.counts c.next.ensures.limit c.next.ensures.ends (λ h. ap g.I.Source.supply (c.next.ensures.over h).1))
    (c.finish.ensures.fault (c.in-Err-WriteFault-finish.is ∙ ap (λ e. Err e) c.in-Err-WriteFault-finish.field-0-is))

pub returns-clause-reads : goal.returns-clause-reads
returns-clause-reads g c =
    Reads-no_memory_left _ _ _ _ _ _ _ _ _ _ _ _ c.loop-line.invariant.0
    (AtEnd-from _ _ _ _ _ _ _ _ _ _ _ _ c.loop-line.invariant.0 (c.in-Ok-End.is ∙ ap (λ got. Ok got) c.in-Ok-End.field-0-is) c.next.ensures.end c.next.ensures.answered
    c.next.ensures.faults c.next.ensures.counts c.next.ensures.limit c.next.ensures.ends (λ h. ap g.I.Source.supply (c.next.ensures.over h).1))
    (ap g.O.Sink.receipt (c.finish.ensures.memory (c.in-Err-NoMemory-finish.is ∙ ap (λ e. Err e) c.in-Err-NoMemory-finish.field-0-is)))

pub returns-in-Err-WriteFault-clause-work : goal.returns-in-Err-WriteFault-clause-work
returns-in-Err-WriteFault-clause-work g c =
    Worked-line _ _ _ _ _ _ _ _ _ _ _ c.loop-line.invariant.1
    (NextLine-from _ _ _ _ _ (c.in-Ok-Line.is ∙ ap (λ got. Ok got) c.in-Ok-Line.field-0-is) c.next.ensures.line c.next.ensures.faults c.next.ensures.counts c.next.ensures.limit
    c.next.ensures.progress c.next.ensures.ends c.next.ensures.stopped (λ h. (c.next.ensures.over h).0))
    (rw c.line.ensures at c.answer.ensures.work)

pub returns-in-Err-NoMemory-clause-work : goal.returns-in-Err-NoMemory-clause-work
returns-in-Err-NoMemory-clause-work g c =
    Worked-line _ _ _ _ _ _ _ _ _ _ _ c.loop-line.invariant.1
    (NextLine-from _ _ _ _ _ (c.in-Ok-Line.is ∙ ap (λ got. Ok got) c.in-Ok-Line.field-0-is) c.next.ensures.line c.next.ensures.faults c.next.ensures.counts c.next.ensures.limit
    c.next.ensures.progress c.next.ensures.ends c.next.ensures.stopped (λ h. (c.next.ensures.over h).0))
    (rw c.line.ensures at c.answer.ensures.work)

pub returns-in-Err-Failed-clause-work : goal.returns-in-Err-Failed-clause-work
returns-in-Err-Failed-clause-work g c = Worked-so_far _ _ _ _ _ _ _ _ c.loop-line.invariant.1

pub returns-in-Err-TooLong-clause-work : goal.returns-in-Err-TooLong-clause-work
returns-in-Err-TooLong-clause-work g c = Worked-so_far _ _ _ _ _ _ _ _ c.loop-line.invariant.1

pub returns-in-Ok-finish-clause-work : goal.returns-in-Ok-finish-clause-work
returns-in-Ok-finish-clause-work g c =
    Worked-end _ _ _ _ _ _ _ _ _ c.loop-line.invariant.1 (c.next.ensures.end (c.in-Ok-End.is ∙ ap (λ got. Ok got) c.in-Ok-End.field-0-is)) c.finish.ensures.work

pub returns-in-Err-WriteFault-finish-clause-work : goal.returns-in-Err-WriteFault-finish-clause-work
returns-in-Err-WriteFault-finish-clause-work g c =
    Worked-end _ _ _ _ _ _ _ _ _ c.loop-line.invariant.1 (c.next.ensures.end (c.in-Ok-End.is ∙ ap (λ got. Ok got) c.in-Ok-End.field-0-is)) c.finish.ensures.work

pub returns-clause-work : goal.returns-clause-work
returns-clause-work g c =
    Worked-end _ _ _ _ _ _ _ _ _ c.loop-line.invariant.1 (c.next.ensures.end (c.in-Ok-End.is ∙ ap (λ got. Ok got) c.in-Ok-End.field-0-is)) c.finish.ensures.work
