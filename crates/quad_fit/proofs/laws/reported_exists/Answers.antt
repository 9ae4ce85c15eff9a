use Rattle.quad_fit.proofs.ReportedExists.{reported_exists}
use Rattle.quad_fit.proofs.laws.reported_exists.Goals as goal

pub returns : goal.returns
returns c = reported_exists
