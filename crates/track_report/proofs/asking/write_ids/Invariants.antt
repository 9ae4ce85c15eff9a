use Rattle.std.proofs.Common.{◌≡◌, ◌++◌, map, take}
use Rattle.std.specs.List.{flat_map}
use Rattle.track_report.specs.AskedText.{id_at}
use Rattle.track_report.specs.Words.{spaced}
use Rattle.track_report.proofs.asking.write_ids.Given as goal

abbrev pub invariant-loop-place : goal.invariant-loop-place
invariant-loop-place l = l.text.items ≡ l.initial.text.items ++ flat_map spaced (map (id_at l.ids) (take l.place-index l.places))
