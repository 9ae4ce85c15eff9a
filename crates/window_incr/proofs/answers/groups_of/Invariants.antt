use Rattle.std.proofs.Common.{◌≡◌, map, take}
use Rattle.window_incr.specs.Answers.{ids_of}
use Rattle.window_incr.proofs.answers.groups_of.Given as goal

abbrev pub invariant-loop-tracklet : goal.invariant-loop-tracklet
invariant-loop-tracklet l = l.groups ≡ map (ids_of l.log) (take l.tracklet-index l.tracklets)
