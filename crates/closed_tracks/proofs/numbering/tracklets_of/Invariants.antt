use Rattle.std.proofs.Common.{◌≡◌, ◌++◌, drop, map}
use Rattle.closed_tracks.specs.InOneList.{all_tracklets}
use Rattle.closed_tracks.proofs.numbering.tracklets_of.Given as goal

abbrev pub invariant-loop-night : goal.invariant-loop-night
invariant-loop-night l = map (λ tracklet. tracklet.now) l.tracklets.items ++ all_tracklets (drop l.night-index l.nights) ≡ all_tracklets l.nights
