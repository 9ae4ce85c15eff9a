use Rattle.std.proofs.Common.{◌≡◌, ℕ, ◌+◌, ◌<◌, [], ◌∷◌, ◌++◌, List, get_or, length, take, drop, sym, ◌∙◌}
use Rattle.std.proofs.lemmas.List.{take-append-drop, take_more}
use Rattle.box_tree.specs.Joins.{allow_own, at_three}
use Rattle.box_tree.specs.Nodes.{run}
use Rattle.box_tree.proofs.TriplesOf.{adds_third, at_three_read, rises_third, rises_third_part, triple_found, triple_rises}
use Rattle.box_tree.proofs.three.join_thirds.Goals as goal

pub returns-in_err-push_where-clause-tests : goal.returns-in_err-push_where-clause-tests
returns-in_err-push_where-clause-tests g c =
    let a = g.A.Located in
    let b = g.B.Located in
    let d = g.C.Located in
    let p = g.P.Prune3 in
    let thirds : List ℕ = c.run_of-thirds.result.now in
    let i : ℕ = c.loop-third.third-index in
    let k : ℕ = get_or thirds i 0 in
    let x = c.index-item.result.now in
    let y = c.index-partner.result.now in
    let z = c.index.result.now in
    let may = allow_own (p.allows c.args.prune.now) a.AXES a.lows a.highs b.AXES b.lows b.highs d.AXES d.lows d.highs in
    let more : take (i + 1) thirds ≡ take i thirds ++ k ∷ [] = take_more thirds i 0 c.loop-third-test.true in
    let whole : run c.args.c.now.order.items c.args.z.now ≡ take (i + 1) thirds ++ drop (i + 1) thirds = sym c.run_of-thirds.ensures.run ∙ sym (take-append-drop (i + 1) thirds) in
    let within : k < length c.args.c.now.items.items = c.run_of-thirds.ensures.places i 0 c.loop-third-test.true in
    let same : at_three may c.args.a.now.items.items c.args.b.now.items.items c.args.c.now.items.items (c.args.place, c.args.other, k) ≡ may x y z = at_three_read may c.args.a.now.items.items c.args.b.now.items.items c.args.c.now.items.items c.args.place c.args.other k x y z c.requires.place c.requires.other within c.index-item.ensures c.index-partner.ensures c.index.ensures in
    rises_third_part _ _ _ _ _ _ _ _ whole (rises_third _ _ _ _ _ _ _ _ _ more c.loop-third.invariant.tests (triple_rises _ c.args.place c.args.other k (may x y z) _ _ same c.wants_all-wanted.ensures.tests))

pub loop-third-preserved : goal.loop-third-preserved
loop-third-preserved g c =
    let a = g.A.Located in
    let b = g.B.Located in
    let d = g.C.Located in
    let p = g.P.Prune3 in
    let thirds : List ℕ = c.run_of-thirds.result.now in
    let i : ℕ = c.loop-third.third-index in
    let k : ℕ = get_or thirds i 0 in
    let x = c.index-item.result.now in
    let y = c.index-partner.result.now in
    let z = c.index.result.now in
    let may = allow_own (p.allows c.args.prune.now) a.AXES a.lows a.highs b.AXES b.lows b.highs d.AXES d.lows d.highs in
    let wanted = p.wanted c.args.prune.now in
    let more : take (i + 1) thirds ≡ take i thirds ++ k ∷ [] = take_more thirds i 0 c.loop-third-test.true in
    let within : k < length c.args.c.now.items.items = c.run_of-thirds.ensures.places i 0 c.loop-third-test.true in
    let allowed : at_three may c.args.a.now.items.items c.args.b.now.items.items c.args.c.now.items.items (c.args.place, c.args.other, k) ≡ may x y z = at_three_read may c.args.a.now.items.items c.args.b.now.items.items c.args.c.now.items.items c.args.place c.args.other k x y z c.requires.place c.requires.other within c.index-item.ensures c.index-partner.ensures c.index.ensures in
    let is : at_three wanted c.args.a.now.items.items c.args.b.now.items.items c.args.c.now.items.items (c.args.place, c.args.other, k) ≡ c.wants_all-wanted.result = at_three_read wanted c.args.a.now.items.items c.args.b.now.items.items c.args.c.now.items.items c.args.place c.args.other k x y z c.requires.place c.requires.other within c.index-item.ensures c.index-partner.ensures c.index.ensures ∙ sym c.wants_all-wanted.ensures.wanted in
    record {
      adds = adds_third _ _ _ _ _ _ _ _ _ more c.loop-third.invariant.adds (triple_found _ c.args.place c.args.other k _ _ c.wants_all-wanted.result is c.in_ok-push_where.ensures);
      tests = rises_third _ _ _ _ _ _ _ _ _ more c.loop-third.invariant.tests (triple_rises _ c.args.place c.args.other k (may x y z) _ _ allowed c.wants_all-wanted.ensures.tests);
    }
