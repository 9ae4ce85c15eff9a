use Rattle.std.proofs.Common.{◌≡◌, ℕ, ◌+◌, ◌<◌, [], ◌∷◌, ◌++◌, List, get_or, length, take, drop, sym, ◌∙◌, subst}
use Rattle.std.specs.List.{All}
use Rattle.std.proofs.lemmas.List.{take-append-drop, take_more}
use Rattle.std.proofs.lemmas.List.Elements.{All-cons, All-nil}
use Rattle.box_tree.specs.Boxes.{Covers}
use Rattle.box_tree.specs.Joins.{allows_own, at_two}
use Rattle.box_tree.specs.Nodes.{Lies, run}
use Rattle.box_tree.proofs.OwnBoxes.{lies_read, own_covers}
use Rattle.box_tree.proofs.PairsOf.{adds_second, at_two_read, none_wanted, pair_found, pair_rises, rises_second, rises_second_part}
use Rattle.box_tree.proofs.two.join_row.Goals as goal

pub returns-then-not-may-clause-adds : goal.returns-then-not-may-clause-adds
returns-then-not-may-clause-adds g c =
    let a = g.A.Located in
    let b = g.B.Located in
    let p = g.P.Prune2 in
    let own = c.own_bounds-own.result in
    let x = c.index-item.result.now in
    let covers : Covers a.AXES (a.lows x) (a.highs x) own = subst (λ box. Covers a.AXES (a.lows x) (a.highs x) box) (sym c.own_bounds-own.ensures) (own_covers a.AXES (a.lows x) (a.highs x) g.met.A.Located.few_axes.1) in
    let lies : All (λ place. Lies a.AXES a.lows a.highs c.args.a.now.items.items place own) (c.args.place ∷ []) =
    All-cons (λ place. Lies a.AXES a.lows a.highs c.args.a.now.items.items place own) c.args.place [] (lies_read a.AXES a.lows a.highs c.args.a.now.items.items c.args.place x own c.requires.place c.index-item.ensures covers) (All-nil (λ place. Lies a.AXES a.lows a.highs c.args.a.now.items.items place own)) in
    none_wanted a.AXES a.lows a.highs c.args.a.now.items.items b.AXES b.lows b.highs c.args.b.now.items.items (p.allows c.args.prune.now) (p.wanted c.args.prune.now) (g.met.P.Prune2.loses_nothing c.args.prune.now)
    (c.args.place ∷ []) (run c.args.b.now.order.items c.args.y.now) own c.args.y.now.bounds c.args.found.now.items lies c.requires.y.node_is.lying (sym c.may.ensures ∙ c.if-not-may.true)

pub returns-in_err-push_where-clause-tests : goal.returns-in_err-push_where-clause-tests
returns-in_err-push_where-clause-tests g c =
    let a = g.A.Located in
    let b = g.B.Located in
    let others : List ℕ = c.run_of-others.result.now in
    let i : ℕ = c.loop-other.other-index in
    let j : ℕ = get_or others i 0 in
    let x = c.index-item.result.now in
    let y = c.index.result.now in
    let may = allows_own (g.P.Prune2.allows c.args.prune.now) a.AXES a.lows a.highs b.AXES b.lows b.highs in
    let more : take (i + 1) others ≡ take i others ++ j ∷ [] = take_more others i 0 c.loop-other-test.true in
    let whole : run c.args.b.now.order.items c.args.y.now ≡ take (i + 1) others ++ drop (i + 1) others = sym c.run_of-others.ensures.run ∙ sym (take-append-drop (i + 1) others) in
    let within : j < length c.args.b.now.items.items = c.run_of-others.ensures.places i 0 c.loop-other-test.true in
    let same : at_two may c.args.a.now.items.items c.args.b.now.items.items (c.args.place, j) ≡ may x y = at_two_read may c.args.a.now.items.items c.args.b.now.items.items c.args.place j x y c.requires.place within c.index-item.ensures c.index.ensures in
    rises_second_part _ _ _ _ _ _ _ whole (rises_second _ _ _ _ _ _ _ _ more c.loop-other.invariant.tests (pair_rises _ c.args.place j (may x y) _ _ same c.wants_both-wanted.ensures.tests))

pub loop-other-preserved : goal.loop-other-preserved
loop-other-preserved g c =
    let a = g.A.Located in
    let b = g.B.Located in
    let others : List ℕ = c.run_of-others.result.now in
    let i : ℕ = c.loop-other.other-index in
    let j : ℕ = get_or others i 0 in
    let x = c.index-item.result.now in
    let y = c.index.result.now in
    let may = allows_own (g.P.Prune2.allows c.args.prune.now) a.AXES a.lows a.highs b.AXES b.lows b.highs in
    let wanted = g.P.Prune2.wanted c.args.prune.now in
    let more : take (i + 1) others ≡ take i others ++ j ∷ [] = take_more others i 0 c.loop-other-test.true in
    let within : j < length c.args.b.now.items.items = c.run_of-others.ensures.places i 0 c.loop-other-test.true in
    let allowed : at_two may c.args.a.now.items.items c.args.b.now.items.items (c.args.place, j) ≡ may x y = at_two_read may c.args.a.now.items.items c.args.b.now.items.items c.args.place j x y c.requires.place within c.index-item.ensures c.index.ensures in
    let is : at_two wanted c.args.a.now.items.items c.args.b.now.items.items (c.args.place, j) ≡ c.wants_both-wanted.result = at_two_read wanted c.args.a.now.items.items c.args.b.now.items.items c.args.place j x y c.requires.place within c.index-item.ensures c.index.ensures ∙ sym c.wants_both-wanted.ensures.wanted in
    record {
      adds = adds_second _ _ _ _ _ _ _ _ more c.loop-other.invariant.adds (pair_found _ c.args.place j _ _ c.wants_both-wanted.result is c.in_ok-push_where.ensures);
      tests = rises_second _ _ _ _ _ _ _ _ more c.loop-other.invariant.tests (pair_rises _ c.args.place j (may x y) _ _ allowed c.wants_both-wanted.ensures.tests);
    }
