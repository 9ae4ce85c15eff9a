use Rattle.std.proofs.Common.{sym}
use Rattle.track_report.specs.ReportText.{track_text}
use Rattle.track_report.proofs.Numbered.{numbered_next}
use Rattle.track_report.proofs.reports.write_tracks.Goals as goal

pub loop-place-preserved : goal.loop-place-preserved
loop-place-preserved c =
    let next = numbered_next track_text c.args.text.now.items c.args.tracks.now c.loop-place.place c.index-tracks-place.result in
    let is = c.index-tracks-place.is in
    let within = c.loop-place-test.true in
    let wrote = c.in_ok-write_track.ensures in
    let before = c.loop-place.invariant in
    rw (wrote, before) (next within (sym is))
