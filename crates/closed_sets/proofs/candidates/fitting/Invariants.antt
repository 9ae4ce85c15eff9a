use Rattle.std.proofs.Common.{take}
use Rattle.closed_sets.specs.Counting.{Rises}
use Rattle.closed_sets.specs.Search.{AreFitting}
use Rattle.closed_sets.proofs.candidates.fitting.Given as goal

-- those of the numbers so far
abbrev pub invariant-loop-number : goal.invariant-loop-number
invariant-loop-number g l = record {
  kept : AreFitting (g.F.Family.Fits l.family) l.set (take l.number-index l.numbers) l.kept.items;
  tests : Rises l.number-index l.fn.tally.tests l.tally.tests;
}
