use Rattle.std.proofs.Common.{ℕ, ◌≤◌, length, map, take}
use Rattle.closed_sets.specs.Counting.{IsPaid}
use Rattle.closed_sets.specs.Search.{Gains, IsClosedFrom, IsGrown}
use Rattle.closed_sets.proofs.search.+explore.Given as goal

abbrev pub decreases-explore : goal.decreases-explore
decreases-explore g l = length l.node.now.others.numbers.items

-- what stands before the place is still excluded
abbrev pub invariant-loop-place : goal.invariant-loop-place
invariant-loop-place g l = record {
  low : l.node.others.first ≤ l.place;
  high : l.place ≤ l.rest.first;
  gains : Gains (IsClosedFrom (g.F.Family.Fits l.family) l.node.set.items (take l.place l.rest.numbers.items)) (map (λ set. set.items) l.fn.found.items) (map (λ set. set.items) l.found.items);
  paid : (size : ℕ) → length l.node.others.numbers.items ≤ size → IsPaid (IsGrown (g.F.Family.Fits l.family) l.node.set.items (take l.place l.rest.numbers.items)) size 0 l.fn.tally.tests l.tally.tests;
}

abbrev pub decreases-loop-place : goal.decreases-loop-place
decreases-loop-place g l = l.place
