use Rattle.std.proofs.Common.{◌∷◌, [], Some, None, refl, codes, decimal, arith}
use Rattle.std.specs.Fmt.{signed_decimal}
use Rattle.track_report.proofs.NumberTexts.{decimal_unparted, small_unparted}
use Rattle.track_report.proofs.Heads.{near_fits}
use Rattle.track_report.proofs.reading.read_head.Goals as goal

pub returns : goal.returns
returns c None count more near low is =
    let dash = codes "-" in
    let number = decimal count in
    let s1 = c.next_word.ensures (codes "report") (dash ∷ dash ∷ number ∷ []) more refl is in
    let s2 = c.next_word-2.ensures dash (dash ∷ number ∷ []) more refl s1.1 in
    let s3 = c.next_word-3.ensures dash (number ∷ []) more refl s2.1 in
    let s4 = c.next_word-4.ensures number [] more (decimal_unparted count (omega (arith, low))) s3.1 in
    (c.read_window.ensures.none s2.0, c.count_number.ensures count low s4.0, s4.1)
returns c (Some (first, last)) count more near low is =
    let lo = signed_decimal first in
    let hi = signed_decimal last in
    let number = decimal count in
    let first_fits = near_fits first near.near.lo_from near.near.lo_to in
    let last_fits = near_fits last near.near.hi_from near.near.hi_to in
    let s1 = c.next_word.ensures (codes "report") (lo ∷ hi ∷ number ∷ []) more refl is in
    let s2 = c.next_word-2.ensures lo (hi ∷ number ∷ []) more (small_unparted first first_fits) s1.1 in
    let s3 = c.next_word-3.ensures hi (number ∷ []) more (small_unparted last last_fits) s2.1 in
    let s4 = c.next_word-4.ensures number [] more (decimal_unparted count (omega (arith, low))) s3.1 in
    (c.read_window.ensures.some first last first_fits last_fits s2.0 s3.0, c.count_number.ensures count low s4.0, s4.1)
