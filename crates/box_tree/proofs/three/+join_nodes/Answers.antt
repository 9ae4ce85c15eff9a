use Rattle.std.proofs.Common.{sym, ◌∙◌}
use Rattle.box_tree.specs.Nodes.{run}
use Rattle.box_tree.proofs.Counting.{rises_none}
use Rattle.box_tree.proofs.Found.{on_ok}
use Rattle.box_tree.proofs.TriplesOf.{adds_first, adds_second, none_wanted, rises_first, rises_first_part, rises_second, rises_second_part}
use Rattle.box_tree.proofs.three.+join_nodes.Goals as goal

pub returns-then-not-may-clause-adds : goal.returns-then-not-may-clause-adds
returns-then-not-may-clause-adds g t c =
    let a = g.A.Located in
    let b = g.B.Located in
    let d = g.C.Located in
    let p = g.P.Prune3 in
    none_wanted a.AXES a.lows a.highs c.args.a.now.items.items b.AXES b.lows b.highs c.args.b.now.items.items d.AXES d.lows d.highs c.args.c.now.items.items (p.allows c.args.prune.now) (p.wanted c.args.prune.now) (g.met.P.Prune3.loses_nothing c.args.prune.now)
    (run c.args.a.now.order.items c.args.x.now) (run c.args.b.now.order.items c.args.y.now) (run c.args.c.now.order.items c.args.z.now) c.args.x.now.bounds c.args.y.now.bounds c.args.z.now.bounds c.args.found.now.items c.requires.x.node_is.lying c.requires.y.node_is.lying c.requires.z.node_is.lying (sym c.may.ensures ∙ c.if-not-may.true)

pub returns-then-not-may-clause-tests : goal.returns-then-not-may-clause-tests
returns-then-not-may-clause-tests g t c = rises_none _ _

pub returns-in_err-join_nodes-clause-tests : goal.returns-in_err-join_nodes-clause-tests
returns-in_err-join_nodes-clause-tests g t c = rises_first_part _ _ _ _ _ _ _ _ c.in-Some.ensures.joined c.in_err-join_nodes.ensures.tests

pub returns-in-Some-clause-adds : goal.returns-in-Some-clause-adds
returns-in-Some-clause-adds g t c = on_ok _ (λ later. adds_first _ _ _ _ _ _ _ _ _ c.in-Some.ensures.joined c.in_ok-join_nodes.ensures.adds later) c.join_nodes-in-Some.ensures.adds

pub returns-in-Some-clause-tests : goal.returns-in-Some-clause-tests
returns-in-Some-clause-tests g t c = rises_first _ _ _ _ _ _ _ _ _ c.in-Some.ensures.joined c.in_ok-join_nodes.ensures.tests c.join_nodes-in-Some.ensures.tests

pub returns-in_err-join_nodes-2-clause-tests : goal.returns-in_err-join_nodes-2-clause-tests
returns-in_err-join_nodes-2-clause-tests g t c = rises_second_part _ _ _ _ _ _ _ _ c.in-Some-halves_of.ensures.joined c.in_err-join_nodes-2.ensures.tests

pub returns-in-Some-halves_of-clause-adds : goal.returns-in-Some-halves_of-clause-adds
returns-in-Some-halves_of-clause-adds g t c = on_ok _ (λ later. adds_second _ _ _ _ _ _ _ _ _ c.in-Some-halves_of.ensures.joined c.in_ok-join_nodes-2.ensures.adds later) c.join_nodes-in-Some-halves_of-2.ensures.adds

pub returns-in-Some-halves_of-clause-tests : goal.returns-in-Some-halves_of-clause-tests
returns-in-Some-halves_of-clause-tests g t c = rises_second _ _ _ _ _ _ _ _ _ c.in-Some-halves_of.ensures.joined c.in_ok-join_nodes-2.ensures.tests c.join_nodes-in-Some-halves_of-2.ensures.tests
