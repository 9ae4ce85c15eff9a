use Rattle.std.proofs.Common.{◌∙◌, sym}
use Rattle.exposure_log.proofs.HeldList.{count_is}
use Rattle.exposure_log.specs.Nights.{listed_of}
use Rattle.exposure_log.proofs.log.ExposureLog.detections.Goals as goal

pub returns : goal.returns
returns c = rw (← c.self.view_is) (c.count.ensures ∙ sym (count_is c.self.inside.register (listed_of c.self.inside.nights) c.self.invariant.1))
