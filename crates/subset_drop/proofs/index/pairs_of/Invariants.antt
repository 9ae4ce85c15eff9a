use Rattle.std.proofs.Common.{map}
use Rattle.subset_drop.specs.Index.{HasPairsOf}
use Rattle.subset_drop.proofs.index.pairs_of.Given as goal

abbrev pub invariant-loop-place : goal.invariant-loop-place
invariant-loop-place l = HasPairsOf (map (λ list. list.items) l.lists) l.place l.pairs.items
