-- The text of a report.
use Rattle.std.specs.Prelude.{ℕ, ℤ, List, [], ◌∷◌, ◌++◌, codes, decimal, length, Option, Some, None}
use Rattle.std.specs.Fmt.{signed_decimal}
use Rattle.std.specs.List.{flat_map, enumerate_from}
use Rattle.sky_units.specs.QuadData.{QuadData}
use Rattle.sky_units.specs.declared.reports.Track.{Track}
use Rattle.sky_units.specs.declared.reports.Report.{Report}
use Rattle.track_report.specs.Words.{line}

-- the first and the last night of a window, a dash for each where there is none
abbrev pub window_words : Option (ℤ × ℤ) → List (List ℕ)
window_words None = codes "-" ∷ codes "-" ∷ []
window_words (Some (lo, hi)) = signed_decimal lo ∷ signed_decimal hi ∷ []

-- the line of a track's number and of how many nights and ids it has
abbrev pub counts_line : ℕ → Track → List ℕ
counts_line number track = line (codes "track" ∷ decimal number ∷ decimal track.nights ∷ decimal (length track.ids) ∷ [])

-- the line of a quadratic, behind the name of its axis
abbrev pub quad_line : List ℕ → QuadData → List ℕ
quad_line axis quad =
    line (axis ∷ signed_decimal quad.base ∷ signed_decimal quad.start ∷ signed_decimal quad.den
    ∷ signed_decimal quad.p ∷ signed_decimal quad.v ∷ signed_decimal quad.q ∷ [])

-- the four lines of a track, by its number
abbrev pub track_text : ℕ × Track → List ℕ
track_text (number, track) =
    counts_line number track ++ quad_line (codes "ra") track.ra ++ quad_line (codes "dec") track.dec ++ line (codes "ids" ∷ track.ids)

-- the line of a window and of the number of tracks
abbrev pub head_line : Option (ℤ × ℤ) → ℕ → List ℕ
head_line window count = line (codes "report" ∷ window_words window ++ decimal count ∷ [])

-- the window and the number of tracks, then the tracks, numbered from 1
abbrev pub report_text : Report → List ℕ
report_text report = head_line report.window (length report.tracks) ++ flat_map track_text (enumerate_from 1 report.tracks)
