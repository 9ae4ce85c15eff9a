use Rattle.std.proofs.Common.{◌≡◌, ◌++◌, List, to_z, of_z, w64, ◌∙◌, arith}
use Rattle.std.proofs.lemmas.Int.{ints, to_z-of_z}
use Rattle.sky_units.specs.Motion.{acceleration, tolerance}
use Rattle.sky_units.specs.SpotData.{SpotData}
use Rattle.quad_fit.proofs.Grown.{axis_told}
use Rattle.quad_fit.proofs.MarkLists.{marks_of_arc}
use Rattle.quad_fit.proofs.growing.axis_level.Goals as goal

pub marks_of-requires : goal.marks_of-requires
marks_of-requires c = marks_of_arc c.args.axis c.args.base _ c.requires.arc c.requires.base

pub returns : goal.returns
returns c =
    let spots : List SpotData = c.args.a.now ++ c.args.b.now ++ c.args.c.now in
    let most = c.acceleration_of-acc.ensures.range in
    let room = c.tolerance_of-tol.ensures.range in
    let acc : to_z w64 (of_z w64 c.acceleration_of-acc.result) ≡ acceleration c.args.axis c.args.settings.now = to_z-of_z w64 c.acceleration_of-acc.result (omega (arith, ints, most)) ∙ c.acceleration_of-acc.ensures.value in
    let tol : to_z w64 (of_z w64 c.tolerance_of-tol.result) ≡ tolerance c.args.axis c.args.settings.now = to_z-of_z w64 c.tolerance_of-tol.result (omega (arith, ints, room)) ∙ c.tolerance_of-tol.ensures.value in
    axis_told c.args.axis c.args.settings.now c.args.base spots c.level.result c.requires.arc c.requires.base (rw (acc, tol, c.marks_of.ensures) at c.level.ensures)
