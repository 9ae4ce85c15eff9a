-- How many tracks and ids a text can tell of.
use Rattle.std.proofs.Common.{ℕ, ◌+◌, ◌≤◌, ◌<◌, suc, List, [], ◌∷◌, ◌++◌, codes, length, arith, length-append}
use Rattle.std.specs.List.{flat_map, enumerate_from, join_with_byte}
use Rattle.sky_units.specs.declared.reports.Track.{Track}
use Rattle.track_report.specs.ReportText.{counts_line, track_text, quad_line}
use Rattle.track_report.specs.Words.{line}
use Rattle.track_report.specs.Reading.{from_words}

joined : (word : List ℕ) (words : List (List ℕ)) → length words ≤ length (join_with_byte 32 (word ∷ words))
joined word [] = omega arith
joined word (next ∷ words) =
    let rest = joined next words in
    let both = length-append word (32 ∷ join_with_byte 32 (next ∷ words)) in omega (arith, rest, both)

pub few_words : (words : List (List ℕ)) (more : List ℕ) → length words ≤ length (from_words words more)
few_words [] more = omega arith
few_words (word ∷ words) more =
    let here = joined word words in
    let one = length-append (line (word ∷ words)) more in
    let two = length-append (join_with_byte 32 (word ∷ words)) (codes "\n") in omega (arith, here, one, two)

some : (a b c d more : List ℕ) → 0 < length a → suc (length more) ≤ length ((((a ++ b) ++ c) ++ d) ++ more)
some a b c d more filled =
    let l1 = length-append (((a ++ b) ++ c) ++ d) more in
    let l2 = length-append ((a ++ b) ++ c) d in
    let l3 = length-append (a ++ b) c in
    let l4 = length-append a b in omega (arith, l1, l2, l3, l4, filled)

pub few_tracks : (number : ℕ) (tracks : List Track) → length tracks ≤ length (flat_map track_text (enumerate_from number tracks))
few_tracks number [] = omega arith
few_tracks number (track ∷ tracks) =
    let rest = few_tracks (number + 1) tracks in
    let filled : 0 < length (counts_line number track) = omega arith in
    let here = some (counts_line number track) (quad_line (codes "ra") track.ra) (quad_line (codes "dec") track.dec) (line (codes "ids" ∷ track.ids))
    (flat_map track_text (enumerate_from (number + 1) tracks)) filled in
    omega (arith, rest, here)

-- a track has no more ids than its text and what follows have bytes
pub few_ids : (number : ℕ) (track : Track) (more : List ℕ) → length track.ids ≤ length (track_text (number, track) ++ more)
few_ids number track more =
    let words = few_words (codes "ids" ∷ track.ids) more in
    let end = length-append (line (codes "ids" ∷ track.ids)) more in
    let front = length-append (counts_line number track ++ quad_line (codes "ra") track.ra ++ quad_line (codes "dec") track.dec) (line (codes "ids" ∷ track.ids)) in
    let all = length-append (track_text (number, track)) more in
    omega (arith, words, end, front, all)
