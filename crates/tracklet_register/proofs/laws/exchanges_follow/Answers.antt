use Rattle.tracklet_register.proofs.Following.{both_exchanged}
use Rattle.tracklet_register.proofs.laws.exchanges_follow.Goals as goal

pub returns : goal.returns
returns c = both_exchanged
