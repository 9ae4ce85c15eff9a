use Rattle.std.proofs.Common.{◌≡◌, ◌<◌, ◌^◌, ap, arith, rules, length}
use Rattle.std.specs.List.{flat_map, enumerate_from}
use Rattle.track_report.specs.ReportText.{report_text, track_text}
use Rattle.track_report.proofs.Heads.{tracks_within, report_made, none_some}
use Rattle.track_report.proofs.reading.read_candidate.Goals as goal

pub returns-in_default : goal.returns-in_default
returns-in_default c report valid is =
    let short : length c.args.text.now < 2 ^ 64 = search rules in
    let within = tracks_within report in
    let whole : length c.args.text.now ≡ length (report_text report) = ap length is in
    let low : length report.tracks < 2 ^ 64 = omega (arith, short, within, whole) in
    let head = c.read_head-window.ensures report.window (length report.tracks) (flat_map track_text (enumerate_from 1 report.tracks)) valid.window low is in
    let count : c.min.result ≡ length report.tracks = omega (arith, c.min.ensures, head.1, within, whole) in
    let found = c.in_ok-tracks.ensures report.tracks count valid.tracks head.2 in
    absurd (none_some c.in_ok-tracks.field-0 report.tracks c.in_default.is found)

pub returns : goal.returns
returns c report valid is =
    let short : length c.args.text.now < 2 ^ 64 = search rules in
    let within = tracks_within report in
    let whole : length c.args.text.now ≡ length (report_text report) = ap length is in
    let low : length report.tracks < 2 ^ 64 = omega (arith, short, within, whole) in
    let head = c.read_head-window.ensures report.window (length report.tracks) (flat_map track_text (enumerate_from 1 report.tracks)) valid.window low is in
    let count : c.min.result ≡ length report.tracks = omega (arith, c.min.ensures, head.1, within, whole) in
    let found = c.in_ok-tracks.ensures report.tracks count valid.tracks head.2 in
    report_made c.read_head-window.result.0 c.in-Some.tracks c.in_ok-tracks.field-0 report head.0 c.in-Some.is found
