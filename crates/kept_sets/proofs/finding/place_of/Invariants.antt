use Rattle.std.proofs.Common.{◌≡◌, map, take}
use Rattle.std.specs.List.{All}
use Rattle.kept_sets.specs.Stored.{at}
use Rattle.kept_sets.proofs.finding.place_of.Given as goal

abbrev pub invariant-loop-place : goal.invariant-loop-place
invariant-loop-place l = All (λ place. at (map (λ set. set.items) l.sets) place ≡ l.set → ⊥) (take l.place-index l.place-items)
