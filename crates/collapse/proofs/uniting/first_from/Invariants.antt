use Rattle.std.specs.Prelude.{◌<◌, take}
use Rattle.std.specs.List.{All}
use Rattle.collapse.proofs.uniting.first_from.Given as goal

-- the places seen are all below
abbrev pub invariant-loop-at : goal.invariant-loop-at
invariant-loop-at l = All (λ p. p < l.place) (take l.at l.places)
