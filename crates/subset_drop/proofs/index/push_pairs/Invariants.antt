use Rattle.std.proofs.Common.{◌≡◌, ◌++◌, map, take}
use Rattle.subset_drop.proofs.index.push_pairs.Given as goal

abbrev pub invariant-loop-number : goal.invariant-loop-number
invariant-loop-number l = l.pairs.items ≡ l.initial.pairs.items ++ map (λ number. (number, l.place)) (take l.number-index l.numbers)
