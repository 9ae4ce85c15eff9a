use Rattle.quad_fit.proofs.Decided.{fits_or_not}
use Rattle.quad_fit.proofs.laws.fit_is_decided.Goals as goal

pub returns : goal.returns
returns c = λ settings spots arc. fits_or_not settings spots arc.rising
