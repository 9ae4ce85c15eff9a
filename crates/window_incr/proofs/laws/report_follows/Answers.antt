use Rattle.window_incr.proofs.SameHeld.{report_follows}
use Rattle.window_incr.proofs.laws.report_follows.Goals as goal

pub returns : goal.returns
returns c = report_follows
