use Rattle.std.proofs.Common.{◌≡◌, ◌<◌, length, true, false, to_z, of_z, w64, arith}
use Rattle.std.proofs.lemmas.Int.{to_z-of_z}
use Rattle.sky_units.specs.Motion.{points}
use Rattle.quad_fit.specs.Levels.{IsExtreme}
use Rattle.quad_fit.specs.MarkRanges.{AreMarks, RiseInTime}
use Rattle.quad_fit.specs.References.{NonePasses}
use Rattle.quad_fit.proofs.MarkLists.{marks_alone}
use Rattle.quad_fit.proofs.Parts.{alone_marks}
use Rattle.quad_fit.proofs.Ranges.{range_of_extremes}
use Rattle.quad_fit.proofs.range.acc_range.Goals as goal

pub marks_of-marks-requires : goal.marks_of-marks-requires
marks_of-marks-requires c = alone_marks c.args.axis c.index-spots-0.result c.args.spots.now c.requires.arc (omega (arith, c.requires.three)) c.index-spots-0.is

pub extreme-requires-clause-marks : goal.extreme-requires-clause-marks
extreme-requires-clause-marks c =
    let marks = alone_marks c.args.axis c.index-spots-0.result c.args.spots.now c.requires.arc (omega (arith, c.requires.three)) c.index-spots-0.is in
    rw c.marks_of-marks.ensures marks

pub returns-in_err-least : goal.returns-in_err-least
returns-in_err-least c =
    let spots = c.args.spots.now in
    let tol : to_z w64 (of_z w64 c.args.tol) ≡ c.args.tol = to_z-of_z w64 c.args.tol c.ranges.tol in
    let some : 0 < length spots = omega (arith, c.requires.three) in
    let same : c.marks_of-marks.result ≡ points c.args.axis spots = marks_alone c.args.axis c.index-spots-0.result spots c.marks_of-marks.result some c.index-spots-0.is c.marks_of-marks.ensures in
    let none : NonePasses c.args.tol (points c.args.axis spots) = rw (tol, same) at c.in_err-least.ensures in
    rw c.from_residual.ensures none

pub returns : goal.returns
returns c =
    let spots = c.args.spots.now in
    let tol : to_z w64 (of_z w64 c.args.tol) ≡ c.args.tol = to_z-of_z w64 c.args.tol c.ranges.tol in
    let some : 0 < length spots = omega (arith, c.requires.three) in
    let same : c.marks_of-marks.result ≡ points c.args.axis spots = marks_alone c.args.axis c.index-spots-0.result spots c.marks_of-marks.result some c.index-spots-0.is c.marks_of-marks.ensures in
    let limit = c.requires.tol in
    let marks = alone_marks c.args.axis c.index-spots-0.result spots c.requires.arc some c.index-spots-0.is in
    let marks' : AreMarks (points c.args.axis spots) = rw (← c.marks_of-marks.ensures, same) at marks in
    let rise : RiseInTime (points c.args.axis spots) = marks'.rise in
    let least : IsExtreme c.args.tol true (points c.args.axis spots) c.in_ok-least.least = rw (tol, same) at c.in_ok-least.ensures in
    let greatest : IsExtreme c.args.tol false (points c.args.axis spots) c.in_ok-greatest.greatest = rw (tol, same) at c.in_ok-greatest.ensures in
    let low = c.lowest_terms.ensures in
    let high = c.lowest_terms-2.ensures in
    let f = c.leading_coefficient.ensures in
    let g = c.leading_coefficient-2.ensures in
    range_of_extremes c.args.axis c.args.tol spots c.in_ok-least.least c.in_ok-greatest.greatest c.leading_coefficient.result c.leading_coefficient-2.result c.lowest_terms.result c.lowest_terms-2.result limit.from rise least greatest
    f.value g.value f.range g.range low.value low.lowest low.range high.value high.lowest high.range
