use Rattle.std.proofs.Common.{take}
use Rattle.std.specs.List.{All, Contains}
use Rattle.kept_sets.proofs.numbers.rest_is_among.Given as goal

abbrev pub invariant-loop-item : goal.invariant-loop-item
invariant-loop-item l = All (λ item. (Contains l.went item → ⊥) → Contains l.other item) (take l.item-index l.set)
