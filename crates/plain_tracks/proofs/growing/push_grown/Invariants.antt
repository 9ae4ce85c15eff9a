use Rattle.std.proofs.Common.{take}
use Rattle.plain_tracks.proofs.Steps.{HasGrown}
use Rattle.plain_tracks.proofs.growing.push_grown.Given as goal

abbrev pub invariant-loop-tracklet : goal.invariant-loop-tracklet
invariant-loop-tracklet l = HasGrown l.settings l.set (take l.tracklet-index l.night) l.initial.grown.items l.grown.items
