use Rattle.set_grow.proofs.Heredity.{parts_fit}
use Rattle.set_grow.proofs.laws.parts_fit.Goals as goal

pub returns : goal.returns
returns c = parts_fit
