use Rattle.exposure_log.proofs.Delivering.{exposures_exist}
use Rattle.exposure_log.proofs.laws.exposures_exist.Goals as goal

pub returns : goal.returns
returns c = exposures_exist
