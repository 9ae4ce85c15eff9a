use Rattle.quad_fit.proofs.EachThree.{three_suffice_law}
use Rattle.quad_fit.proofs.laws.three_suffice.Goals as goal

pub returns : goal.returns
returns c = three_suffice_law
