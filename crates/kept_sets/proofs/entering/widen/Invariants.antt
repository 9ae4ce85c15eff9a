use Rattle.std.proofs.Common.{◌≡◌, ℕ, ◌+◌, ◌-◌, map, length}
use Rattle.kept_sets.specs.Stored.{at}
use Rattle.kept_sets.proofs.entering.widen.Given as goal

abbrev pub invariant-loop-alloc : goal.invariant-loop-alloc
invariant-loop-alloc l = (other : ℕ) → at (map (λ holders. holders.places.items) l.index.items) other ≡ at (map (λ holders. holders.places.items) l.initial.index.items) other

abbrev pub decreases-loop-alloc : goal.decreases-loop-alloc
decreases-loop-alloc l = l.item + 1 - length l.index.items
