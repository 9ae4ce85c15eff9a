use Rattle.std.proofs.Common.{◌^◌, ◌-◌}
use Rattle.outer_io.specs.Reading.{used}
use Rattle.mops_run.specs.State.{state_of}
use Rattle.mops_run.proofs.SoFar.{SoFar}
use Rattle.mops_run.proofs.Works.{WorkedSoFar}
use Rattle.mops_run.proofs.reading.read_all.Given as goal

abbrev pub invariant-loop-line : goal.invariant-loop-line
invariant-loop-line g l =
    SoFar l.input (g.I.Source.supply l.initial.source) l.reader (g.I.Source.supply l.source) (g.O.Sink.receipt l.initial.sink) (g.O.Sink.receipt l.sink) l.line
    (state_of l.linker.state l.waiting.items) l.refused
    × WorkedSoFar l.input (g.I.Source.supply l.initial.source) l.reader (g.I.Source.supply l.source) l.line (state_of l.linker.state l.waiting.items) l.initial.tally l.tally

abbrev pub decreases-loop-line : goal.decreases-loop-line
decreases-loop-line g l = 2 ^ 32 - used l.reader
