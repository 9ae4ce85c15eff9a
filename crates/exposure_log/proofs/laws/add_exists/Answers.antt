use Rattle.exposure_log.proofs.LeastNumbers.{add_exists}
use Rattle.exposure_log.proofs.laws.add_exists.Goals as goal

pub returns : goal.returns
returns c = add_exists
