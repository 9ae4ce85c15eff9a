use Rattle.std.proofs.Common.{◌≡◌, ◌+◌, List, length, take, drop}
use Rattle.std.specs.List.{All, flat_map, enumerate_from}
use Rattle.sky_units.specs.declared.reports.Track.{Track}
use Rattle.miti_text.specs.ValidReports.{IsValidTrack}
use Rattle.track_report.specs.ReportText.{track_text}
use Rattle.track_report.proofs.reading.read_tracks.Given as goal

abbrev pub invariant-loop : goal.invariant-loop
invariant-loop l = (tracks : List Track) → l.fn.count ≡ length tracks → All IsValidTrack tracks → l.fn.text ≡ flat_map track_text (enumerate_from 1 tracks)
    → (l.tracks ≡ take l.counter tracks) × (l.text ≡ flat_map track_text (enumerate_from (1 + l.counter) (drop l.counter tracks)))
