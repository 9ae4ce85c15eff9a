-- The first line of a report's text, and the report that is read.
use Rattle.std.proofs.Common.{◌≡◌, ℤ, pos, negsuc, neg_ℤ, ◌<ℤ◌, ◌^◌, ◌≤◌, List, Option, Some, None, length, refl, ap, ◌∙◌, sym, arith, length-append, FitsSigned, w64}
use Rattle.std.proofs.lemmas.Int.{ints}
use Rattle.std.specs.List.{flat_map, enumerate_from}
use Rattle.sky_units.specs.declared.reports.Track.{Track}
use Rattle.sky_units.specs.declared.reports.Report.{Report}
use Rattle.track_report.specs.ReportText.{head_line, report_text, track_text}
use Rattle.track_report.proofs.Counts.{few_tracks}

pub near_fits : (z : ℤ) → neg_ℤ (pos (10 ^ 18)) <ℤ z → z <ℤ pos (10 ^ 18) → FitsSigned w64 z
near_fits (pos n) from to = record { sfits = omega (arith, ints, to) }
near_fits (negsuc n) from to = record { sfits = omega (arith, ints, from) }

pub tracks_within : (report : Report) → length report.tracks ≤ length (report_text report)
tracks_within report =
    let few = few_tracks 1 report.tracks in
    let both = length-append (head_line report.window (length report.tracks)) (flat_map track_text (enumerate_from 1 report.tracks)) in omega (arith, few, both)

abbrev held : List Track → Option (List Track) → List Track
held other None = other
held other (Some tracks) = tracks

pub report_made : (window : Option (ℤ × ℤ)) (tracks : List Track) (found : Option (List Track)) (report : Report)
    → window ≡ report.window → found ≡ Some tracks → found ≡ Some report.tracks → Some (record { window = window; tracks = tracks }) ≡ Some report
report_made window tracks found report window_is one other =
    let same : tracks ≡ report.tracks = ap (held tracks) (sym one ∙ other) in rw (window_is, same) refl

pub none_some : {X : Type 0} (found : Option X) (x : X) → found ≡ None → found ≡ Some x → ⊥
none_some None x none some = absurd (cc)
none_some (Some y) x none some = absurd (cc)
