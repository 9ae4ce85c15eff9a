use Rattle.std.proofs.Common.{[], ◌∷◌, sym, ◌∙◌}
use Rattle.box_tree.specs.Nodes.{run}
use Rattle.box_tree.proofs.Counting.{rises_none}
use Rattle.box_tree.proofs.Found.{on_ok}
use Rattle.box_tree.proofs.TriplesOf.{adds_third, none_wanted, rises_third, rises_third_part}
use Rattle.box_tree.proofs.three.+join_pair.Goals as goal

pub returns-then-not-may-clause-adds : goal.returns-then-not-may-clause-adds
returns-then-not-may-clause-adds g t c =
    let a = g.A.Located in
    let b = g.B.Located in
    let d = g.C.Located in
    let p = g.P.Prune3 in
    none_wanted a.AXES a.lows a.highs c.args.a.now.items.items b.AXES b.lows b.highs c.args.b.now.items.items d.AXES d.lows d.highs c.args.c.now.items.items (p.allows c.args.prune.now) (p.wanted c.args.prune.now) (g.met.P.Prune3.loses_nothing c.args.prune.now)
    (c.args.place ∷ []) (c.args.other ∷ []) (run c.args.c.now.order.items c.args.z.now) c.args.own.now c.args.partners_own.now c.args.z.now.bounds c.args.found.now.items c.requires.own c.requires.partners_own c.requires.z.node_is.lying (sym c.may.ensures ∙ c.if-not-may.true)

pub returns-then-not-may-clause-tests : goal.returns-then-not-may-clause-tests
returns-then-not-may-clause-tests g t c = rises_none _ _

pub returns-in_err-join_pair-clause-tests : goal.returns-in_err-join_pair-clause-tests
returns-in_err-join_pair-clause-tests g t c = rises_third_part _ _ _ _ _ _ _ _ c.in-Some.ensures.joined c.in_err-join_pair.ensures.tests

pub returns-in-Some-clause-adds : goal.returns-in-Some-clause-adds
returns-in-Some-clause-adds g t c = on_ok _ (λ later. adds_third _ _ _ _ _ _ _ _ _ c.in-Some.ensures.joined c.in_ok-join_pair.ensures.adds later) c.join_pair-in-Some.ensures.adds

pub returns-in-Some-clause-tests : goal.returns-in-Some-clause-tests
returns-in-Some-clause-tests g t c = rises_third _ _ _ _ _ _ _ _ _ c.in-Some.ensures.joined c.in_ok-join_pair.ensures.tests c.join_pair-in-Some.ensures.tests
