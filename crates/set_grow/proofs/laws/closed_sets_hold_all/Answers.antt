use Rattle.set_grow.proofs.Decided.{closed_set_above}
use Rattle.set_grow.proofs.laws.closed_sets_hold_all.Goals as goal

pub returns : goal.returns
returns c = closed_set_above c.fit_is_decided.ensures
