use Rattle.std.proofs.Common.{take}
use Rattle.window_incr.proofs.Steps.{TellAll}
use Rattle.window_incr.proofs.answers.tracks_of.Given as goal

abbrev pub invariant-loop-set : goal.invariant-loop-set
invariant-loop-set l = TellAll (record { settings = l.settings; log = l.log }) (take l.set-index l.sets) l.tracks
