use Rattle.std.proofs.Common.{◌≡◌, ℕ, map}
use Rattle.std.specs.List.{Contains}
use Rattle.kept_sets.specs.Stored.{at}
use Rattle.kept_sets.proofs.finding.fewest_places.Given as goal

abbrev pub invariant-loop-item : goal.invariant-loop-item
invariant-loop-item l = (item : ℕ) × Contains l.set item × (l.fewest ≡ at (map (λ holders. holders.places.items) l.index) item)
