use Rattle.tracklet_register.proofs.Exchanging.{exchange_changes}
use Rattle.tracklet_register.proofs.laws.exchange_changes_fits.Goals as goal

pub returns : goal.returns
returns c = exchange_changes
