use Rattle.std.proofs.Common.{subst}
use Rattle.std.specs.List.{All}
use Rattle.std.proofs.lemmas.List.{take_all}
use Rattle.std.proofs.lemmas.List.Elements.{All-more}
use Rattle.miti_text.specs.ValidReports.{IsValidTrack}
use Rattle.track_report.proofs.validity.are_valid_tracks.Goals as goal

pub loop-track-preserved : goal.loop-track-preserved
loop-track-preserved c =
    All-more IsValidTrack c.args.tracks.now c.loop-track.track-index c.track-item.result c.loop-track-test.true c.loop-track.invariant
    (subst IsValidTrack c.track-item.is c.if-not-is_valid_track.ensures)

pub returns : goal.returns
returns c = subst (All IsValidTrack) (take_all c.loop-track.track-index c.args.tracks.now c.loop-track-test.false) c.loop-track.invariant
