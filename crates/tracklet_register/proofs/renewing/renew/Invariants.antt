use Rattle.std.proofs.Common.{take}
use Rattle.set_grow.specs.Nights.{numbered_by}
use Rattle.tracklet_register.specs.Replacing.{AreRenewed}
use Rattle.tracklet_register.proofs.renewing.renew.Given as goal

abbrev pub invariant-loop-tracklet : goal.invariant-loop-tracklet
invariant-loop-tracklet l = AreRenewed (numbered_by l.numbers l.before) l.taken (take l.tracklet-index l.after) l.renewed.numbers.items l.renewed.came.items l.renewed.end
