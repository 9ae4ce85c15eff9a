use Rattle.std.proofs.Common.{◌≡◌, map, take}
use Rattle.closed_tracks.specs.InOneList.{tracklets_numbered}
use Rattle.closed_tracks.proofs.tracks.copies_of.Given as goal

abbrev pub invariant-loop-number : goal.invariant-loop-number
invariant-loop-number l = l.copies.items ≡ tracklets_numbered (map (λ tracklet. tracklet.now) l.tracklets) (take l.number-index l.numbers)
