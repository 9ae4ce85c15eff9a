use Rattle.std.proofs.Common.{◌≡◌, take}
use Rattle.plain_tracks.proofs.growing.copies_and.Given as goal

abbrev pub invariant-loop-tracklet : goal.invariant-loop-tracklet
invariant-loop-tracklet l = l.copies.items ≡ take l.tracklet-index l.tracklets
