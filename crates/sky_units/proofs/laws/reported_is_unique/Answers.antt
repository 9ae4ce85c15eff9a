use Rattle.sky_units.proofs.ReportedOnce.{reported_is_unique}
use Rattle.sky_units.proofs.laws.reported_is_unique.Goals as goal

pub returns : goal.returns
returns c = reported_is_unique
