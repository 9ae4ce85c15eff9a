use Rattle.std.proofs.Common.{ℕ, [], subst, List}
use Rattle.std.proofs.lemmas.List.Filters.{dedup_is}
use Rattle.box_tree.specs.Joins.{Adds, InPairs, at_two}
use Rattle.box_tree.proofs.Counting.{rises_by_all}
use Rattle.box_tree.proofs.TupleOrder.{pair_same, pairs_listed}
use Rattle.box_tree.proofs.two.join_indices.Goals as goal

pub returns-clause-pairs : goal.returns-clause-pairs
returns-clause-pairs g c =
    let wanted = g.P.Prune2.wanted c.args.prune.now in
    let adds : Adds (at_two wanted c.args.a.now.items.items c.args.b.now.items.items) (InPairs c.args.a.now.order.items c.args.b.now.order.items) [] c.join_roots.new.found.items =
    subst (λ (before : List (ℕ × ℕ)). Adds (at_two wanted c.args.a.now.items.items c.args.b.now.items.items) (InPairs c.args.a.now.order.items c.args.b.now.order.items) before c.join_roots.new.found.items) c.new-found.ensures.items c.in_ok-join_roots.ensures.adds in
    pairs_listed wanted c.args.a.now.items.items c.args.b.now.items.items c.args.a.now.order.items c.args.b.now.order.items c.join_roots.new.found.items c.sort_unstable.new.self.items c.dedup.new.self.items
    c.requires.a.order_is c.requires.b.order_is adds c.sort_unstable.ensures.permutation c.sort_unstable.ensures.sorted (dedup_is pair_same _ _ c.dedup.ensures.filtered)

pub returns-in_err-join_roots-clause-tests : goal.returns-in_err-join_roots-clause-tests
returns-in_err-join_roots-clause-tests g c = rises_by_all _ _ _ _ _ _ _ c.requires.a.order_is c.requires.b.order_is c.in_err-join_roots.ensures.tests

pub returns-clause-tests : goal.returns-clause-tests
returns-clause-tests g c = rises_by_all _ _ _ _ _ _ _ c.requires.a.order_is c.requires.b.order_is c.in_ok-join_roots.ensures.tests
