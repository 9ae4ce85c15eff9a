-- The text of a reply.
use Rattle.std.specs.Prelude.{ℕ, List, [], ◌∷◌, ◌++◌, codes, decimal, length}
use Rattle.std.specs.Fmt.{signed_decimal}
use Rattle.std.specs.List.{flat_map}
use Rattle.exposure_log.specs.declared.errors.AddError.{AddError}
use Rattle.exposure_log.specs.declared.errors.AddError.TheVariants.{Id}
use Rattle.track_report.specs.AskedText.{ask_error_words, asked_words}
use Rattle.track_report.specs.Words.{line}
use Rattle.track_report.specs.Names.{line_error_name, script_error_name, add_error_name, window_error_name, set_error_name}
use Rattle.track_report.specs.ReportText.{report_text}
use Rattle.sky_units.specs.declared.statistics.Stats.{Stats}
use Rattle.track_report.specs.declared.replies.Reply.{Reply}
use Rattle.track_report.specs.declared.replies.Reply.TheVariants as replies

-- a line that is refused by a name
abbrev pub refused_line : ℕ → List ℕ → List ℕ
refused_line number name = line (codes "line" ∷ decimal number ∷ codes "refused" ∷ name ∷ [])

-- the words behind an exposure that is refused: the name of the error, and behind `id` the id that is taken
abbrev pub add_error_words : AddError → List ℕ → List (List ℕ)
add_error_words (Id place) id = codes "id" ∷ id ∷ []
add_error_words error id = add_error_name error ∷ []

-- a tracklet's line: the ids of its detections, in canonical order
abbrev pub tracklet_line : List (List ℕ) → List ℕ
tracklet_line ids = line (codes "tracklet" ∷ ids)

-- the line of statistics
abbrev pub stats_line : Stats → List ℕ
stats_line stats = line (codes "stats" ∷ decimal stats.exposures ∷ decimal stats.detections ∷ decimal stats.tracklets ∷ decimal stats.tracks ∷ [])

-- each reply is one or more lines; epochs are in ticks
abbrev pub text_of : Reply → List ℕ
text_of (replies.Line number error) = refused_line number (line_error_name error)
text_of (replies.Script number error) = refused_line number (script_error_name error)
text_of (replies.Added epoch site count) = line (codes "exposure" ∷ signed_decimal epoch ∷ site ∷ codes "accepted" ∷ decimal count ∷ [])
text_of (replies.Refused epoch site error id) =
    line (codes "exposure" ∷ signed_decimal epoch ∷ site ∷ codes "refused" ∷ add_error_words error id)
text_of (replies.Set name value) = line (codes "set" ∷ name ∷ signed_decimal value ∷ [])
text_of (replies.SetRefused error) = line (codes "set" ∷ codes "refused" ∷ set_error_name error ∷ [])
text_of (replies.Window lo hi) = line (codes "window" ∷ signed_decimal lo ∷ signed_decimal hi ∷ [])
text_of (replies.WindowRefused error) = line (codes "window" ∷ codes "refused" ∷ window_error_name error ∷ [])
text_of (replies.Tracklets night tracklets) =
    line (codes "tracklets" ∷ signed_decimal night ∷ decimal (length tracklets) ∷ []) ++ flat_map tracklet_line tracklets
text_of (replies.Report report) = report_text report
text_of (replies.Asked ids asked) = line (codes "ask" ∷ asked_words ids asked)
text_of (replies.AskRefused ids error) = line (codes "ask" ∷ codes "refused" ∷ ask_error_words ids error)
text_of (replies.Stats stats) = stats_line stats
text_of (replies.Summary number nights objects stats) =
    line (codes "summary" ∷ decimal number ∷ decimal nights ∷ decimal objects ∷ []) ++ stats_line stats
