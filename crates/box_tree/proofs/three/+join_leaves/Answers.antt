use Rattle.std.proofs.Common.{sym, ◌∙◌}
use Rattle.box_tree.specs.Nodes.{run}
use Rattle.box_tree.proofs.Counting.{rises_none}
use Rattle.box_tree.proofs.Found.{on_ok}
use Rattle.box_tree.proofs.TriplesOf.{adds_third, none_wanted, rises_third, rises_third_part}
use Rattle.box_tree.proofs.three.+join_leaves.Goals as goal

pub returns-then-not-may-clause-adds : goal.returns-then-not-may-clause-adds
returns-then-not-may-clause-adds g t c =
    let a = g.A.Located in
    let b = g.B.Located in
    let d = g.C.Located in
    let p = g.P.Prune3 in
    let none = none_wanted a.AXES a.lows a.highs c.args.a.now.items.items b.AXES b.lows b.highs c.args.b.now.items.items d.AXES d.lows d.highs c.args.c.now.items.items (p.allows c.args.prune.now) (p.wanted c.args.prune.now) (g.met.P.Prune3.loses_nothing c.args.prune.now)
    (run c.args.a.now.order.items c.args.x.now) (run c.args.b.now.order.items c.args.y.now) (run c.args.c.now.order.items c.in-Some.right.now) c.args.x.now.bounds c.args.y.now.bounds c.in-Some.right.now.bounds c.join_leaves.new.found.items c.requires.x.node_is.lying c.requires.y.node_is.lying c.in-Some.ensures.right_is.node_is.lying (sym c.may.ensures ∙ c.if-not-may.true) in
    on_ok _ (λ left. adds_third _ _ _ _ _ _ _ _ _ c.in-Some.ensures.joined left none) c.join_leaves.ensures.adds

pub returns-then-not-may-clause-tests : goal.returns-then-not-may-clause-tests
returns-then-not-may-clause-tests g t c = rises_third_part _ _ _ _ _ _ _ _ c.in-Some.ensures.joined c.join_leaves.ensures.tests

pub returns-then-not-may-2-clause-adds : goal.returns-then-not-may-2-clause-adds
returns-then-not-may-2-clause-adds g t c =
    let a = g.A.Located in
    let b = g.B.Located in
    let d = g.C.Located in
    let p = g.P.Prune3 in
    let none = none_wanted a.AXES a.lows a.highs c.args.a.now.items.items b.AXES b.lows b.highs c.args.b.now.items.items d.AXES d.lows d.highs c.args.c.now.items.items (p.allows c.args.prune.now) (p.wanted c.args.prune.now) (g.met.P.Prune3.loses_nothing c.args.prune.now)
    (run c.args.a.now.order.items c.args.x.now) (run c.args.b.now.order.items c.args.y.now) (run c.args.c.now.order.items c.in-Some.left.now) c.args.x.now.bounds c.args.y.now.bounds c.in-Some.left.now.bounds c.args.found.now.items c.requires.x.node_is.lying c.requires.y.node_is.lying c.in-Some.ensures.left_is.node_is.lying (sym c.may-in-Some.ensures ∙ c.if-not-may-2.true) in
    on_ok _ (λ right. adds_third _ _ _ _ _ _ _ _ _ c.in-Some.ensures.joined none right) c.join_leaves-then-not-may-2.ensures.adds

pub returns-then-not-may-2-clause-tests : goal.returns-then-not-may-2-clause-tests
returns-then-not-may-2-clause-tests g t c = rises_third _ _ _ _ _ _ _ _ _ c.in-Some.ensures.joined (rises_none _ _) c.join_leaves-then-not-may-2.ensures.tests
