use Rattle.std.proofs.Common.{◌∙◌, ap, arith, [], ◌∷◌, FitsSigned, w64, to_z, of_z}
use Rattle.std.specs.Fmt.{signed_decimal}
use Rattle.std.specs.Int.{w128}
use Rattle.std.proofs.lemmas.Int.{ints}
use Rattle.std.proofs.Math.Facts.{to_z-of_z}
use Rattle.track_report.proofs.ToldQuads.{told_found}
use Rattle.track_report.proofs.NumberTexts.{fits_between, signed_unparted, small_unparted}
use Rattle.track_report.proofs.reading.read_quad.Goals as goal

pub returns : goal.returns
returns c axis quad more plain told is =
    let base = signed_decimal quad.base in
    let start = signed_decimal quad.start in
    let den = signed_decimal quad.den in
    let p = signed_decimal quad.p in
    let v = signed_decimal quad.v in
    let q = signed_decimal quad.q in
    let d_fits : FitsSigned w128 quad.den = fits_between _ _ quad.den (omega (arith, ints)) (omega (arith, ints)) told.numbers.den_in_range in
    let p_fits : FitsSigned w128 quad.p = fits_between _ _ quad.p (omega (arith, ints)) (omega (arith, ints)) told.numbers.p_in_range in
    let v_fits : FitsSigned w128 quad.v = fits_between _ _ quad.v (omega (arith, ints)) (omega (arith, ints)) told.numbers.v_in_range in
    let q_fits : FitsSigned w128 quad.q = fits_between _ _ quad.q (omega (arith, ints)) (omega (arith, ints)) told.numbers.q_in_range in
    let s1 = c.next_word.ensures axis (base ∷ start ∷ den ∷ p ∷ v ∷ q ∷ []) more plain is in
    let s2 = c.next_word-2.ensures base (start ∷ den ∷ p ∷ v ∷ q ∷ []) more (small_unparted quad.base told.base) s1.1 in
    let s3 = c.next_word-3.ensures start (den ∷ p ∷ v ∷ q ∷ []) more (small_unparted quad.start told.start) s2.1 in
    let s4 = c.next_word-4.ensures den (p ∷ v ∷ q ∷ []) more (signed_unparted quad.den d_fits) s3.1 in
    let s5 = c.next_word-5.ensures p (v ∷ q ∷ []) more (signed_unparted quad.p p_fits) s4.1 in
    let s6 = c.next_word-6.ensures v (q ∷ []) more (signed_unparted quad.v v_fits) s5.1 in
    let s7 = c.next_word-7.ensures q [] more (signed_unparted quad.q q_fits) s6.1 in
    let n1 = ap (λ z. to_z w64 (of_z w64 z)) (c.small_number.ensures quad.base told.base s2.0) ∙ to_z-of_z told.base in
    let n2 = ap (λ z. to_z w64 (of_z w64 z)) (c.small_number-2.ensures quad.start told.start s3.0) ∙ to_z-of_z told.start in
    let n3 = ap (λ z. to_z w128 (of_z w128 z)) (c.wide_number.ensures quad.den d_fits s4.0) ∙ to_z-of_z d_fits in
    let n4 = ap (λ z. to_z w128 (of_z w128 z)) (c.wide_number-2.ensures quad.p p_fits s5.0) ∙ to_z-of_z p_fits in
    let n5 = ap (λ z. to_z w128 (of_z w128 z)) (c.wide_number-3.ensures quad.v v_fits s6.0) ∙ to_z-of_z v_fits in
    let n6 = ap (λ z. to_z w128 (of_z w128 z)) (c.wide_number-4.ensures quad.q q_fits s7.0) ∙ to_z-of_z q_fits in
    (told_found c.quad_of-quad.result _ _ _ _ _ _ quad n1 n2 n3 n4 n5 n6 told.numbers c.quad_of-quad.ensures, s7.1)
