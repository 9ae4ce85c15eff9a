use Rattle.std.proofs.Common.{take}
use Rattle.std.specs.List.{All}
use Rattle.miti_text.specs.ValidReports.{IsValidTrack}
use Rattle.track_report.proofs.validity.are_valid_tracks.Given as goal

abbrev pub invariant-loop-track : goal.invariant-loop-track
invariant-loop-track l = All IsValidTrack (take l.track-index l.tracks)
