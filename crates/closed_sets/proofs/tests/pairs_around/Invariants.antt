use Rattle.std.proofs.Common.{ℕ, ◌<◌, ◌↔◌, map}
use Rattle.std.specs.List.{Contains}
use Rattle.closed_sets.specs.Around.{IsFittingPair}
use Rattle.closed_sets.specs.Objects.{IsSeen}
use Rattle.closed_sets.proofs.tests.pairs_around.Given as goal

-- with the second numbers so far
abbrev pub invariant-loop-second : goal.invariant-loop-second
invariant-loop-second l = (pair : ℕ × ℕ) → Contains l.pairs.items pair ↔ ((pair.1 < l.second) × IsFittingPair (IsSeen (map (λ object. object.items) l.family.objects.items)) l.item pair)
