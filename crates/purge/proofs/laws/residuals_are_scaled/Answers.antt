use Rattle.purge.proofs.Residuals.{residuals_scaled}
use Rattle.purge.proofs.laws.residuals_are_scaled.Goals as goal

pub returns : goal.returns
returns c = residuals_scaled
