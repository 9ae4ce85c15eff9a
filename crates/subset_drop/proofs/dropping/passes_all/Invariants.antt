use Rattle.std.proofs.Common.{map}
use Rattle.subset_drop.proofs.Keeping.{PassesFirst}
use Rattle.subset_drop.proofs.dropping.passes_all.Given as goal

abbrev pub invariant-loop-other : goal.invariant-loop-other
invariant-loop-other l = PassesFirst (map (λ list. list.items) l.lists) l.place l.other
