use Rattle.std.proofs.Common.{map, take}
use Rattle.kept_sets.proofs.Remaining.{HasRests}
use Rattle.kept_sets.proofs.rests.add_rests.Given as goal

abbrev pub invariant-loop-place : goal.invariant-loop-place
invariant-loop-place l = HasRests (map (λ set. set.items) l.sets) l.went (map (λ set. set.items) l.initial.added.items) (map (λ holders. holders.places.items) l.initial.index.items) (take l.place-index l.places) (map (λ set. set.items) l.added.items) (map (λ holders. holders.places.items) l.index.items)
