-- Worked examples: the texts of replies, by computing.
use Rattle.std.specs.Prelude.{◌≡◌, ℕ, List, [], ◌∷◌, ◌++◌, ◌*◌, ◌^◌, codes, Some, None, pos, neg_ℤ, refl}
use Rattle.std.specs.Fmt.{digits}
use Rattle.exposure_log.specs.declared.errors.AddError.{AddError}
use Rattle.exposure_log.specs.declared.errors.AddError.TheVariants as adds
use Rattle.exposure_log.specs.declared.errors.WindowError.TheVariants as windows
use Rattle.miti_text.specs.declared.errors.LineError.TheVariants as lines
use Rattle.script_text.specs.declared.errors.ScriptError.TheVariants as scripts
use Rattle.sky_units.specs.declared.ask_errors.AskError.TheVariants as asks
use Rattle.sky_units.specs.declared.asked.Asked.TheVariants as answers
use Rattle.sky_units.specs.declared.axis.Axis.TheVariants.{Dec}
use Rattle.sky_units.specs.declared.certificates.Cert.TheVariants.{Three, Four}
use Rattle.sky_units.specs.declared.reports.Track.{Track}
use Rattle.sky_units.specs.declared.setting_names.SetError.TheVariants as settings
use Rattle.track_report.specs.ReportText.{quad_line, report_text}
use Rattle.track_report.specs.Texts.{text_of}
use Rattle.track_report.specs.declared.replies.Reply.TheVariants as replies

-- what is written where an exposure is refused
abbrev refused : AddError → List ℕ → List ℕ
refused error id = text_of (replies.Refused (pos 59001250000) (codes "568") error id)

refused_lines : (text_of (replies.Line 1 lines.Fields) ≡ codes "line 1 refused fields\n") × (text_of (replies.Line 2 lines.Id) ≡ codes "line 2 refused id\n")
    × (text_of (replies.Line 3 lines.Epoch) ≡ codes "line 3 refused epoch\n") × (text_of (replies.Line 4 lines.Ra) ≡ codes "line 4 refused ra\n")
    × (text_of (replies.Line 5 lines.Dec) ≡ codes "line 5 refused dec\n") × (text_of (replies.Line 6 lines.Mag) ≡ codes "line 6 refused mag\n")
    × (text_of (replies.Line 7 lines.Site) ≡ codes "line 7 refused site\n") × (text_of (replies.Line 8 lines.Name) ≡ codes "line 8 refused name\n")
    × (text_of (replies.Line 9 lines.Long) ≡ codes "line 9 refused long\n") × (text_of (replies.Line 10 lines.Byte) ≡ codes "line 10 refused byte\n")
unfolding digits
refused_lines = (refl, refl, refl, refl, refl, refl, refl, refl, refl, refl)

refused_commands : (text_of (replies.Script 1 scripts.Command) ≡ codes "line 1 refused command\n")
    × (text_of (replies.Script 2 scripts.Words) ≡ codes "line 2 refused words\n") × (text_of (replies.Script 3 scripts.Number) ≡ codes "line 3 refused number\n")
unfolding digits
refused_commands = (refl, refl, refl)

added : text_of (replies.Added (pos 59000250000) (codes "568") 2) ≡ codes "exposure 59000250000 568 accepted 2\n"
unfolding digits
added = refl

refused_exposures : (refused adds.NoWindow [] ≡ codes "exposure 59001250000 568 refused nowindow\n")
    × (refused adds.Old [] ≡ codes "exposure 59001250000 568 refused old\n") × (refused adds.New [] ≡ codes "exposure 59001250000 568 refused new\n")
    × (refused adds.Held [] ≡ codes "exposure 59001250000 568 refused held\n") × (refused (adds.Id 0) (codes "a") ≡ codes "exposure 59001250000 568 refused id a\n")
    × (refused adds.NightFull [] ≡ codes "exposure 59001250000 568 refused nightfull\n") × (refused adds.Full [] ≡ codes "exposure 59001250000 568 refused full\n")
unfolding digits
refused_exposures = (refl, refl, refl, refl, refl, refl, refl)

settings_and_windows : (text_of (replies.Set (codes "tol_ra") (pos 0)) ≡ codes "set tol_ra 0\n") × (text_of (replies.SetRefused settings.Name) ≡ codes "set refused name\n")
    × (text_of (replies.SetRefused settings.Range) ≡ codes "set refused range\n") × (text_of (replies.SetRefused settings.Late) ≡ codes "set refused late\n")
    × (text_of (replies.Window (neg_ℤ (pos 1)) (pos 14)) ≡ codes "window -1 14\n") × (text_of (replies.WindowRefused windows.Order) ≡ codes "window refused order\n")
    × (text_of (replies.WindowRefused windows.Wide) ≡ codes "window refused wide\n") × (text_of (replies.WindowRefused windows.Back) ≡ codes "window refused back\n")
unfolding digits
settings_and_windows = (refl, refl, refl, refl, refl, refl, refl, refl)

tracklets : (text_of (replies.Tracklets (pos 59000) ((codes "a1" ∷ codes "a2" ∷ []) ∷ (codes "b1" ∷ codes "b2" ∷ codes "b3" ∷ []) ∷ []))
    ≡ codes "tracklets 59000 2\ntracklet a1 a2\ntracklet b1 b2 b3\n") × (text_of (replies.Tracklets (neg_ℤ (pos 7)) []) ≡ codes "tracklets -7 0\n")
unfolding digits
tracklets = (refl, refl)

-- asked ids
abbrev ids : List (List ℕ)
ids = codes "c1" ∷ codes "a1" ∷ codes "b1" ∷ codes "d1" ∷ []

asked : (text_of (replies.Asked ids (answers.Listed 12)) ≡ codes "ask listed 12\n") × (text_of (replies.Asked ids (answers.Inside 1)) ≡ codes "ask inside 1\n")
    × (text_of (replies.Asked ids (answers.NotTracklet (neg_ℤ (pos 7)))) ≡ codes "ask untracked -7\n") × (text_of (replies.Asked ids (answers.FewNights 2)) ≡ codes "ask nights 2\n")
    × (text_of (replies.Asked ids (answers.Spread Dec 1 0)) ≡ codes "ask spread dec a1 c1\n")
    × (text_of (replies.Asked ids (answers.Misfit (Some (Three (1 ∷ 2 ∷ 0 ∷ []))) None)) ≡ codes "ask misfit ra 3 a1 b1 c1 dec 0\n")
    × (text_of (replies.Asked ids (answers.Misfit None (Some (Four (1 ∷ 2 ∷ 0 ∷ 3 ∷ []))))) ≡ codes "ask misfit ra 0 dec 4 a1 b1 c1 d1\n")
    × (text_of (replies.AskRefused ids (asks.Unknown 3)) ≡ codes "ask refused unknown d1\n") × (text_of (replies.AskRefused ids (asks.Twice 1)) ≡ codes "ask refused twice a1\n")
unfolding digits
asked = (refl, refl, refl, refl, refl, refl, refl, refl, refl)

-- three nights with two detections each
abbrev track : Track
track = record {
  nights = 3;
  ids = codes "a1" ∷ codes "a2" ∷ codes "b1" ∷ codes "b2" ∷ codes "c1" ∷ codes "c2" ∷ [];
  ra = record { base = pos 10000000; start = pos 59001260000; den = pos 10100; p = pos 1020100000; v = pos 1007; q = pos 0 };
  dec = record { base = pos 5000000; start = pos 59001260000; den = pos 10100; p = pos 0; v = neg_ℤ (pos 3); q = pos 0 };
}

-- the lines of its quadratics and of its ids
abbrev rest_of_track : List ℕ
rest_of_track =
    codes "ra 10000000 59001260000 10100 1020100000 1007 0\ndec 5000000 59001260000 10100 0 -3 0\nids a1 a2 b1 b2 c1 c2\n"

reports : (report_text (record { window = None; tracks = [] }) ≡ codes "report - - 0\n")
    × (report_text (record { window = Some (pos 59000, pos 59015); tracks = [] }) ≡ codes "report 59000 59015 0\n")
    × (report_text (record { window = Some (pos 59000, pos 59015); tracks = track ∷ [] })
    ≡ codes "report 59000 59015 1\ntrack 1 3 6\n" ++ rest_of_track)
    × (report_text (record { window = Some (neg_ℤ (pos 2), pos 0); tracks = track ∷ track ∷ [] })
    ≡ codes "report -2 0 2\ntrack 1 3 6\n" ++ rest_of_track ++ codes "track 2 3 6\n" ++ rest_of_track)
unfolding digits
reports = (refl, refl, refl, refl)

-- the greatest numbers of a quadratic
greatest : quad_line (codes "ra") (record { base = pos 359999999; start = pos 200000000000; den = pos (21 * 10 ^ 28); p = neg_ℤ (pos (63 * 10 ^ 36)); v = pos (14 * 10 ^ 29); q = neg_ℤ (pos (11 * 10 ^ 22)) })
    ≡ codes "ra 359999999 200000000000 210000000000000000000000000000 -63000000000000000000000000000000000000 1400000000000000000000000000000 -110000000000000000000000\n"
unfolding digits
greatest = refl

statistics : text_of (replies.Stats (record { exposures = 6; detections = 60; tracklets = 3; tracks = 1 })) ≡ codes "stats 6 60 3 1\n"
unfolding digits
statistics = refl

summary : text_of (replies.Summary 1 3 1 (record { exposures = 6; detections = 6; tracklets = 3; tracks = 1 })) ≡ codes "summary 1 3 1\nstats 6 6 3 1\n"
unfolding digits
summary = refl
