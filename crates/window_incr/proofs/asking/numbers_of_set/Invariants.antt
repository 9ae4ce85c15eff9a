use Rattle.std.proofs.Common.{◌≡◌, take}
use Rattle.sky_units.specs.Tracks.{numbers_of}
use Rattle.window_incr.proofs.asking.numbers_of_set.Given as goal

abbrev pub invariant-loop-tracklet : goal.invariant-loop-tracklet
invariant-loop-tracklet l = l.numbers.items ≡ numbers_of (take l.tracklet-index l.tracklet-items)
