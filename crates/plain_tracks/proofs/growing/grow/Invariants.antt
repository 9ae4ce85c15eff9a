use Rattle.std.proofs.Common.{take}
use Rattle.plain_tracks.proofs.Steps.{HasSomeGrown}
use Rattle.plain_tracks.proofs.growing.grow.Given as goal

abbrev pub invariant-loop-set : goal.invariant-loop-set
invariant-loop-set l = HasSomeGrown l.settings (take l.set-index l.set-items) l.night l.grown.items
