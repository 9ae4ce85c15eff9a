use Rattle.std.proofs.Common.{map, take}
use Rattle.kept_sets.proofs.Emptied.{HasTakenOut}
use Rattle.kept_sets.proofs.emptying.take_out.Given as goal

abbrev pub invariant-loop-place : goal.invariant-loop-place
invariant-loop-place l = HasTakenOut (map (λ set. set.items) l.initial.sets.items) (take l.place-index l.places) (map (λ set. set.items) l.sets.items) (map (λ holders. holders.places.items) l.index.items)
