use Rattle.std.proofs.Common.{take}
use Rattle.closed_sets.specs.Counting.{Rises}
use Rattle.closed_sets.specs.Search.{IsLargest}
use Rattle.closed_sets.proofs.candidates.enlarged.Given as goal

-- with the candidates so far
abbrev pub invariant-loop-candidate : goal.invariant-loop-candidate
invariant-loop-candidate g l = record {
  largest : IsLargest (g.F.Family.Fits l.family) l.fn.set.items (take l.candidate-index l.candidates) l.largest.items;
  tests : Rises l.candidate-index l.fn.tally.tests l.tally.tests;
}
