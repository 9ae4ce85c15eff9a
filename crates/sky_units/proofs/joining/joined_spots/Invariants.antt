use Rattle.std.proofs.Common.{◌≡◌, take}
use Rattle.sky_units.specs.TrackletData.{spots_of}
use Rattle.sky_units.proofs.joining.joined_spots.Given as goal

abbrev pub invariant-loop-tracklet : goal.invariant-loop-tracklet
invariant-loop-tracklet l = l.spots.items ≡ spots_of (take l.tracklet-index l.tracklets)
