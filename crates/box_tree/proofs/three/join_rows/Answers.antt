use Rattle.std.proofs.Common.{◌≡◌, ℕ, ◌+◌, [], ◌∷◌, ◌++◌, List, get_or, take, drop, sym, ◌∙◌}
use Rattle.std.proofs.lemmas.List.{take-append-drop, take_more}
use Rattle.box_tree.specs.Nodes.{run}
use Rattle.box_tree.proofs.TriplesOf.{adds_first, rises_first, rises_first_part}
use Rattle.box_tree.proofs.three.join_rows.Goals as goal

pub returns-in_err-join_row-clause-tests : goal.returns-in_err-join_row-clause-tests
returns-in_err-join_row-clause-tests g c =
    let places : List ℕ = c.run_of-places.result.now in
    let i : ℕ = c.loop-place.place-index in
    let more : take (i + 1) places ≡ take i places ++ get_or places i 0 ∷ [] = take_more places i 0 c.loop-place-test.true in
    let whole : run c.args.a.now.order.items c.args.x.now ≡ take (i + 1) places ++ drop (i + 1) places = sym c.run_of-places.ensures.run ∙ sym (take-append-drop (i + 1) places) in
    rises_first_part _ _ _ _ _ _ _ _ whole (rises_first _ _ _ _ _ _ _ _ _ more c.loop-place.invariant.tests c.in_err-join_row.ensures.tests)

pub loop-place-preserved : goal.loop-place-preserved
loop-place-preserved g c =
    let places : List ℕ = c.run_of-places.result.now in
    let i : ℕ = c.loop-place.place-index in
    let more : take (i + 1) places ≡ take i places ++ get_or places i 0 ∷ [] = take_more places i 0 c.loop-place-test.true in
    record {
      adds = adds_first _ _ _ _ _ _ _ _ _ more c.loop-place.invariant.adds c.in_ok-join_row.ensures.adds;
      tests = rises_first _ _ _ _ _ _ _ _ _ more c.loop-place.invariant.tests c.in_ok-join_row.ensures.tests;
    }
