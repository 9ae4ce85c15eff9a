use Rattle.std.proofs.Common.{ℕ, Vec, Global}
use Rattle.std.proofs.lemmas.List.Filters.{dedup_is}
use Rattle.set_grow.proofs.SortedSets.{set_same, sets_in_order, sets_stay}
use Rattle.set_grow.proofs.growing.in_order.Goals as goal

pub returns-clause-in_order : goal.returns-clause-in_order
returns-clause-in_order c =
    sets_in_order (λ (set : Vec ℕ Global). set.items) c.sort_unstable.new.self.items c.dedup.new.self.items c.sort_unstable.ensures.sorted (dedup_is (set_same (λ (set : Vec ℕ Global). set.items)) _ _ c.dedup.ensures.filtered)

pub returns-clause-exactly : goal.returns-clause-exactly
returns-clause-exactly c =
    sets_stay (λ (set : Vec ℕ Global). set.items) c.args.sets.items c.sort_unstable.new.self.items c.dedup.new.self.items c.sort_unstable.ensures.permutation (dedup_is (set_same (λ (set : Vec ℕ Global). set.items)) _ _ c.dedup.ensures.filtered)
