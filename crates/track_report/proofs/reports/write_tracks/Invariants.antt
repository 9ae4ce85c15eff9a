use Rattle.std.proofs.Common.{◌≡◌, ◌++◌, take}
use Rattle.std.specs.List.{flat_map, enumerate_from}
use Rattle.track_report.specs.ReportText.{track_text}
use Rattle.track_report.proofs.reports.write_tracks.Given as goal

abbrev pub invariant-loop-place : goal.invariant-loop-place
invariant-loop-place l = l.text.items ≡ l.initial.text.items ++ flat_map track_text (enumerate_from 1 (take l.place l.tracks))
