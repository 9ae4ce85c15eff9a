use Rattle.std.proofs.Common.{◌≡◌, ℕ, ◌+◌, [], ◌∷◌, ◌++◌, List, get_or, take, drop, sym, ◌∙◌}
use Rattle.std.proofs.lemmas.List.{take-append-drop, take_more}
use Rattle.box_tree.specs.Nodes.{run}
use Rattle.box_tree.proofs.OwnBoxes.{own_lies}
use Rattle.box_tree.proofs.TriplesOf.{adds_second, none_wanted, rises_second, rises_second_part}
use Rattle.box_tree.proofs.three.join_row.Goals as goal

pub join_pair-requires-clause-own : goal.join_pair-requires-clause-own
join_pair-requires-clause-own g c =
    let a = g.A.Located in
    own_lies a.AXES a.lows a.highs c.args.a.now.items.items c.args.place c.index.result.now c.own_bounds-own.result g.met.A.Located.few_axes.1 c.requires.place c.index.ensures c.own_bounds-own.ensures

pub join_pair-requires-clause-partners_own : goal.join_pair-requires-clause-partners_own
join_pair-requires-clause-partners_own g c =
    let b = g.B.Located in
    let i : ℕ = c.loop-other.other-index in
    let other : ℕ = get_or c.run_of-others.result.now i 0 in
    own_lies b.AXES b.lows b.highs c.args.b.now.items.items other c.index-in-loop-other.result.now c.own_bounds-partners_own.result g.met.B.Located.few_axes.1 (c.run_of-others.ensures.places i 0 c.loop-other-test.true) c.index-in-loop-other.ensures c.own_bounds-partners_own.ensures

pub returns-then-not-may-clause-adds : goal.returns-then-not-may-clause-adds
returns-then-not-may-clause-adds g c =
    let a = g.A.Located in
    let b = g.B.Located in
    let d = g.C.Located in
    let p = g.P.Prune3 in
    let one = own_lies a.AXES a.lows a.highs c.args.a.now.items.items c.args.place c.index.result.now c.own_bounds-own.result g.met.A.Located.few_axes.1 c.requires.place c.index.ensures c.own_bounds-own.ensures in
    none_wanted a.AXES a.lows a.highs c.args.a.now.items.items b.AXES b.lows b.highs c.args.b.now.items.items d.AXES d.lows d.highs c.args.c.now.items.items (p.allows c.args.prune.now) (p.wanted c.args.prune.now) (g.met.P.Prune3.loses_nothing c.args.prune.now)
    (c.args.place ∷ []) (run c.args.b.now.order.items c.args.y.now) (run c.args.c.now.order.items c.args.z.now) c.own_bounds-own.result c.args.y.now.bounds c.args.z.now.bounds c.args.found.now.items one c.requires.y.node_is.lying c.requires.z.node_is.lying (sym c.may.ensures ∙ c.if-not-may.true)

pub returns-in_err-join_pair-clause-tests : goal.returns-in_err-join_pair-clause-tests
returns-in_err-join_pair-clause-tests g c =
    let others : List ℕ = c.run_of-others.result.now in
    let i : ℕ = c.loop-other.other-index in
    let more : take (i + 1) others ≡ take i others ++ get_or others i 0 ∷ [] = take_more others i 0 c.loop-other-test.true in
    let whole : run c.args.b.now.order.items c.args.y.now ≡ take (i + 1) others ++ drop (i + 1) others = sym c.run_of-others.ensures.run ∙ sym (take-append-drop (i + 1) others) in
    rises_second_part _ _ _ _ _ _ _ _ whole (rises_second _ _ _ _ _ _ _ _ _ more c.loop-other.invariant.tests c.in_err-join_pair.ensures.tests)

pub loop-other-preserved : goal.loop-other-preserved
loop-other-preserved g c =
    let others : List ℕ = c.run_of-others.result.now in
    let i : ℕ = c.loop-other.other-index in
    let more : take (i + 1) others ≡ take i others ++ get_or others i 0 ∷ [] = take_more others i 0 c.loop-other-test.true in
    record {
      adds = adds_second _ _ _ _ _ _ _ _ _ more c.loop-other.invariant.adds c.in_ok-join_pair.ensures.adds;
      tests = rises_second _ _ _ _ _ _ _ _ _ more c.loop-other.invariant.tests c.in_ok-join_pair.ensures.tests;
    }
