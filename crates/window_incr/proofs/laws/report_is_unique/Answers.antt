use Rattle.window_incr.proofs.Agreement.{report_is_unique}
use Rattle.window_incr.proofs.laws.report_is_unique.Goals as goal

pub returns : goal.returns
returns c = report_is_unique
