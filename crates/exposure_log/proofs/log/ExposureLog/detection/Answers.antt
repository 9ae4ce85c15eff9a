use Rattle.std.proofs.Common.{sym, ◌∙◌}
use Rattle.exposure_log.proofs.HeldList.{held_is}
use Rattle.exposure_log.specs.Nights.{listed_of}
use Rattle.exposure_log.proofs.log.ExposureLog.detection.Goals as goal

pub returns : goal.returns
returns c =
    rw (← c.self.view_is) (c.get.ensures ∙ sym (held_is c.self.inside.register (listed_of c.self.inside.nights) c.self.invariant.1 c.args.num))
