use Rattle.std.proofs.Common.{ℕ, ◌≤◌, [], ◌∷◌, length, map, take}
use Rattle.closed_sets.specs.Around.{IsFittingWith}
use Rattle.closed_sets.specs.Counting.{IsPaid}
use Rattle.closed_sets.specs.Search.{Gains, IsClosedFrom, LiesInThree}
use Rattle.closed_sets.proofs.around.found_from.Given as goal

-- what stands before the place is still excluded
abbrev pub invariant-loop-place : goal.invariant-loop-place
invariant-loop-place g l = record {
  low : l.start.others.first ≤ l.place;
  high : l.place ≤ l.rest.first;
  gains : Gains (IsClosedFrom (LiesInThree (g.F.Family.Fits l.family)) (l.item ∷ []) (take l.place l.rest.numbers.items)) [] (map (λ set. set.items) l.found.items);
  paid : (size : ℕ) → length l.start.others.numbers.items ≤ size → IsPaid (IsFittingWith (g.F.Family.Fits l.family) l.item (take l.place l.rest.numbers.items)) size 0 l.fn.tally.tests l.tally.tests;
}

abbrev pub decreases-loop-place : goal.decreases-loop-place
decreases-loop-place g l = l.place
