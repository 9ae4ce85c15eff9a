use Rattle.window_incr.proofs.AskedOnce.{asked_once}
use Rattle.window_incr.proofs.laws.asked_is_unique.Goals as goal

pub returns : goal.returns
returns c = asked_once
