use Rattle.std.proofs.Common.{map}
use Rattle.kept_sets.proofs.Entered.{HasEnteredBelow}
use Rattle.kept_sets.proofs.entering.enter_all.Given as goal

abbrev pub invariant-loop-place : goal.invariant-loop-place
invariant-loop-place l = HasEnteredBelow (map (λ holders. holders.places.items) l.initial.index.items) (map (λ holders. holders.places.items) l.index.items) (map (λ set. set.items) l.sets) l.first l.place
