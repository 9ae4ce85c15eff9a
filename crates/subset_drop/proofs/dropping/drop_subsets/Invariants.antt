use Rattle.std.proofs.Common.{◌≡◌, map, length}
use Rattle.subset_drop.proofs.Keeping.{AreKeptOfFirst}
use Rattle.subset_drop.proofs.dropping.drop_subsets.Given as goal

abbrev pub invariant-loop-set : goal.invariant-loop-set
invariant-loop-set l = (l.count ≡ length l.yielded) × AreKeptOfFirst (map (λ list. list.items) l.lists.items) l.fn.list.items (length l.yielded) l.kept.items
