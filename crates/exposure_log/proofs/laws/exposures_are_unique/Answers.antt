use Rattle.exposure_log.proofs.Delivering.{exposures_are_unique}
use Rattle.exposure_log.proofs.laws.exposures_are_unique.Goals as goal

pub returns : goal.returns
returns c = exposures_are_unique
