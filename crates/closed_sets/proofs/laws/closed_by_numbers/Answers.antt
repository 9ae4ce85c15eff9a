use Rattle.closed_sets.proofs.Fitting.{closed_is_full}
use Rattle.closed_sets.proofs.laws.closed_by_numbers.Goals as goal

pub returns : goal.returns
returns g c = closed_is_full (g.F.Family.Fits c.args.family.now)
