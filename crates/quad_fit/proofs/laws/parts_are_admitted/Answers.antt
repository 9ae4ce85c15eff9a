use Rattle.sky_units.proofs.Parts.{part_is_admitted}
use Rattle.quad_fit.proofs.laws.parts_are_admitted.Goals as goal

pub returns : goal.returns
returns c = part_is_admitted
