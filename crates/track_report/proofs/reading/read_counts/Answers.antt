use Rattle.std.proofs.Common.{refl, arith, [], ◌∷◌, codes, decimal, length}
use Rattle.track_report.proofs.NumberTexts.{decimal_unparted}
use Rattle.track_report.proofs.reading.read_counts.Goals as goal

pub returns : goal.returns
returns c number track more low nights_low ids_low is =
    let place = decimal number in
    let nights = decimal track.nights in
    let ids = decimal (length track.ids) in
    let s1 = c.next_word.ensures (codes "track") (place ∷ nights ∷ ids ∷ []) more refl is in
    let s2 = c.next_word-2.ensures place (nights ∷ ids ∷ []) more (decimal_unparted number low) s1.1 in
    let s3 = c.next_word-3.ensures nights (ids ∷ []) more (decimal_unparted track.nights (omega (arith, nights_low))) s2.1 in
    let s4 = c.next_word-4.ensures ids [] more (decimal_unparted (length track.ids) (omega (arith, ids_low))) s3.1 in
    (c.night_count.ensures track.nights nights_low s3.0, c.count_number.ensures (length track.ids) ids_low s4.0, s4.1)
