use Rattle.sky_units.proofs.Bases.{lifted_differences_agree}
use Rattle.sky_units.proofs.laws.lifted_differences_agree.Goals as goal

pub returns : goal.returns
returns c = lifted_differences_agree
