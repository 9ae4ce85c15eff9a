use Rattle.std.proofs.Common.{map}
use Rattle.kept_sets.specs.Stored.{KeepsFilled}
use Rattle.kept_sets.proofs.emptying.leave.Given as goal

abbrev pub invariant-loop-item : goal.invariant-loop-item
invariant-loop-item l = KeepsFilled (map (λ set. set.items) l.sets) (map (λ holders. holders.places.items) l.initial.index.items) (map (λ holders. holders.places.items) l.index.items)
