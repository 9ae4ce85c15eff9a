use Rattle.std.proofs.Common.{◌≡◌, ℕ, Vec, Global, map, take}
use Rattle.closed_tracks.specs.InOneList.{tracklets_numbered}
use Rattle.closed_tracks.proofs.tracks.tracks_of.Given as goal

abbrev pub invariant-loop-set : goal.invariant-loop-set
invariant-loop-set l = l.tracks.items ≡ map (tracklets_numbered (map (λ tracklet. tracklet.now) l.tracklets)) (map (λ (set : Vec ℕ Global). set.items) (take l.set-index l.sets))
