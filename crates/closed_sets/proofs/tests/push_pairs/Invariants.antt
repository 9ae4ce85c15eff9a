use Rattle.std.proofs.Common.{◌≡◌, ℕ, ◌<◌, ◌↔◌, ◌⊎◌, map}
use Rattle.std.specs.List.{Contains}
use Rattle.closed_sets.specs.Around.{IsFittingPair}
use Rattle.closed_sets.specs.Objects.{IsSeen}
use Rattle.closed_sets.proofs.tests.push_pairs.Given as goal

-- with the first numbers so far
abbrev pub invariant-loop-first : goal.invariant-loop-first
invariant-loop-first l = (pair : ℕ × ℕ) → Contains l.pairs.items pair ↔ (Contains l.fn.pairs.items pair ⊎ ((pair.1 ≡ l.second) × (pair.0 < l.first) × IsFittingPair (IsSeen (map (λ object. object.items) l.family.objects.items)) l.item pair))
