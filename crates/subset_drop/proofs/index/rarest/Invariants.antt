use Rattle.std.proofs.Common.{ℕ}
use Rattle.std.specs.List.{Contains}
use Rattle.subset_drop.specs.Index.{AreHolders}
use Rattle.subset_drop.proofs.index.rarest.Given as goal

abbrev pub invariant-loop-number : goal.invariant-loop-number
invariant-loop-number l = (number : ℕ) × Contains l.numbers number × AreHolders l.pairs number l.fewest
