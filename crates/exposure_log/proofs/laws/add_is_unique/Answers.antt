use Rattle.exposure_log.proofs.LeastNumbers.{add_is_unique}
use Rattle.exposure_log.proofs.laws.add_is_unique.Goals as goal

pub returns : goal.returns
returns c = add_is_unique
