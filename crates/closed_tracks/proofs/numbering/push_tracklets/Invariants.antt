use Rattle.std.proofs.Common.{◌≡◌, ◌++◌, map, take}
use Rattle.closed_tracks.proofs.numbering.push_tracklets.Given as goal

abbrev pub invariant-loop-tracklet : goal.invariant-loop-tracklet
invariant-loop-tracklet l = map (λ tracklet. tracklet.now) l.tracklets.items ≡ map (λ tracklet. tracklet.now) l.initial.tracklets.items ++ take l.tracklet-index l.night
