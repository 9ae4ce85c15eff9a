use Rattle.std.proofs.Common.{◌≡◌, ◌++◌, false, List, map, to_z, of_z, w64, ap, ◌∙◌, arith}
use Rattle.std.specs.List.{All, Contains}
use Rattle.std.specs.Prelude.{is_some}
use Rattle.std.proofs.lemmas.Int.{ints, to_z-of_z}
use Rattle.sky_math.specs.Quadratics.{Passes}
use Rattle.sky_units.specs.Motion.{acceleration, point_from, tolerance}
use Rattle.sky_units.specs.SpotData.{SpotData}
use Rattle.quad_fit.specs.Curves.{quadratic_of}
use Rattle.quad_fit.proofs.Grown.{axis_told, level_grown, none_outside, rests_grown}
use Rattle.quad_fit.proofs.MarkLists.{marks_of_arc}
use Rattle.quad_fit.proofs.Parts.{alone, middle_marks, still_in}
use Rattle.quad_fit.proofs.growing.axis_grown.Goals as goal

pub marks_of-requires : goal.marks_of-requires
marks_of-requires c =
    let among : Contains (c.args.a.now ++ c.args.b.now ++ c.args.c.now) c.args.base = still_in c.args.a.now c.args.b.now c.args.c.now c.args.base c.requires.base in
    middle_marks c.args.axis c.args.base c.args.a.now c.args.b.now c.args.c.now c.requires.arc among

pub returns-then-is_none : goal.returns-then-is_none
returns-then-is_none c =
    let room = c.tolerance_of-tol.ensures.range in
    let tol : to_z w64 (of_z w64 c.tolerance_of-tol.result) ≡ tolerance c.args.axis c.args.settings.now = to_z-of_z w64 c.tolerance_of-tol.result (omega (arith, ints, room)) ∙ c.tolerance_of-tol.ensures.value in
    let seen : c.marks_of.result ≡ map (point_from c.args.axis c.args.base) c.args.b.now = c.marks_of.ensures ∙ ap (map (point_from c.args.axis c.args.base)) (alone c.args.b.now) in
    let none : is_some c.farthest.result ≡ false = c.if-is_none.ensures in
    let new : All (Passes (tolerance c.args.axis c.args.settings.now) (quadratic_of c.args.known.now.curve)) (map (point_from c.args.axis c.args.base) c.args.b.now) = none_outside _ _ c.farthest.result (rw (tol, seen) at c.farthest.ensures) none in
    level_grown c.args.axis c.args.settings.now c.args.base c.args.a.now c.args.b.now c.args.c.now c.args.known.now c.requires.known new

pub marks_of-requires-2 : goal.marks_of-requires-2
marks_of-requires-2 c =
    let among : Contains (c.args.a.now ++ c.args.b.now ++ c.args.c.now) c.args.base = still_in c.args.a.now c.args.b.now c.args.c.now c.args.base c.requires.base in
    marks_of_arc c.args.axis c.args.base _ c.requires.arc among

pub level_from-requires-clause-rests : goal.level_from-requires-clause-rests
level_from-requires-clause-rests c =
    let room = c.tolerance_of-tol.ensures.range in
    let tol : to_z w64 (of_z w64 c.tolerance_of-tol.result) ≡ tolerance c.args.axis c.args.settings.now = to_z-of_z w64 c.tolerance_of-tol.result (omega (arith, ints, room)) ∙ c.tolerance_of-tol.ensures.value in
    rw (tol, c.marks_of-2.ensures) (rests_grown c.args.axis (tolerance c.args.axis c.args.settings.now) c.args.base c.args.a.now c.args.b.now c.args.c.now c.args.known.now.curve c.args.known.now.reference c.requires.known.rests)

pub returns : goal.returns
returns c =
    let spots : List SpotData = c.args.a.now ++ c.args.b.now ++ c.args.c.now in
    let among : Contains spots c.args.base = still_in c.args.a.now c.args.b.now c.args.c.now c.args.base c.requires.base in
    let most = c.acceleration_of-acc.ensures.range in
    let room = c.tolerance_of-tol.ensures.range in
    let acc : to_z w64 (of_z w64 c.acceleration_of-acc.result) ≡ acceleration c.args.axis c.args.settings.now = to_z-of_z w64 c.acceleration_of-acc.result (omega (arith, ints, most)) ∙ c.acceleration_of-acc.ensures.value in
    let tol : to_z w64 (of_z w64 c.tolerance_of-tol.result) ≡ tolerance c.args.axis c.args.settings.now = to_z-of_z w64 c.tolerance_of-tol.result (omega (arith, ints, room)) ∙ c.tolerance_of-tol.ensures.value in
    axis_told c.args.axis c.args.settings.now c.args.base spots c.level_from.result c.requires.arc among (rw (acc, tol, c.marks_of-2.ensures) at c.level_from.ensures)
