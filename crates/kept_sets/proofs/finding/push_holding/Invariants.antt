use Rattle.std.proofs.Common.{map, take}
use Rattle.kept_sets.proofs.Places.{HasHolding}
use Rattle.kept_sets.proofs.finding.push_holding.Given as goal

abbrev pub invariant-loop-place : goal.invariant-loop-place
invariant-loop-place l = HasHolding (map (λ set. set.items) l.sets) l.item l.initial.places.items (take l.place-index l.holders) l.places.items
