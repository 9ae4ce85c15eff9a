use Rattle.std.proofs.Common.{take}
use Rattle.kept_sets.specs.Lists.{HoldsOne}
use Rattle.kept_sets.proofs.tests.holds_one.Given as goal

abbrev pub invariant-loop-item : goal.invariant-loop-item
invariant-loop-item l = HoldsOne l.items (take l.item-index l.set) → ⊥
