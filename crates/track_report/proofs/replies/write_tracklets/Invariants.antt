use Rattle.std.proofs.Common.{◌≡◌, ◌++◌, take}
use Rattle.std.specs.List.{flat_map}
use Rattle.track_report.specs.Texts.{tracklet_line}
use Rattle.track_report.proofs.replies.write_tracklets.Given as goal

abbrev pub invariant-loop-ids : goal.invariant-loop-ids
invariant-loop-ids l = l.text.items ≡ l.initial.text.items ++ flat_map tracklet_line (take l.ids-index l.ids-items)
