use Rattle.window_incr.proofs.Agreement.{stats_are_unique}
use Rattle.window_incr.proofs.laws.stats_are_unique.Goals as goal

pub returns : goal.returns
returns c = stats_are_unique
