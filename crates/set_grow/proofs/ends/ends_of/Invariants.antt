use Rattle.std.proofs.Common.{◌≡◌, take}
use Rattle.set_grow.specs.Ends.{ends_in}
use Rattle.set_grow.proofs.ends.ends_of.Given as goal

abbrev pub invariant-loop-tracklet : goal.invariant-loop-tracklet
invariant-loop-tracklet l = l.ends.items ≡ ends_in l.fn.settings (take l.tracklet-index l.fn.tracklets)
