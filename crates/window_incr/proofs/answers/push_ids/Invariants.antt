use Rattle.std.proofs.Common.{◌≡◌, ◌++◌, take}
use Rattle.window_incr.specs.Answers.{ids_of}
use Rattle.window_incr.proofs.answers.push_ids.Given as goal

abbrev pub invariant-loop-spot : goal.invariant-loop-spot
invariant-loop-spot l = l.ids ≡ l.initial.ids ++ ids_of l.log (take l.spot-index l.spots)
