use Rattle.std.proofs.Common.{map, take}
use Rattle.std.specs.List.{All}
use Rattle.kept_sets.specs.Stored.{Allows}
use Rattle.kept_sets.proofs.rests.is_allowed.Given as goal

abbrev pub invariant-loop-place : goal.invariant-loop-place
invariant-loop-place l = All (Allows (map (λ set. set.items) l.sets) (map (λ set. set.items) l.added) l.went l.rest) (take l.place-index l.place-items)
