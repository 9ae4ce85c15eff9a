use Rattle.sky_units.proofs.Origins.{origin_is_free}
use Rattle.sky_units.proofs.laws.origin_is_free.Goals as goal

pub returns : goal.returns
returns c = origin_is_free
