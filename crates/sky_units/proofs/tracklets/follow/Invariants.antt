use Rattle.std.proofs.Common.{take}
use Rattle.sky_units.specs.TrackletData.{IsTrackSet}
use Rattle.sky_units.proofs.tracklets.follow.Given as goal

abbrev pub invariant-loop-i : goal.invariant-loop-i
invariant-loop-i l = IsTrackSet (take l.i l.tracklets)
