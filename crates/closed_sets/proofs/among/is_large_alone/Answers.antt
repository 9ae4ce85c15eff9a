use Rattle.closed_sets.proofs.Fitting.{if_ok}
use Rattle.closed_sets.proofs.among.is_large_alone.Goals as goal

pub returns-clause-alone : goal.returns-clause-alone
returns-clause-alone g c = if_ok _ _ c.fits_with_none.result (λ none says. (λ t. (c.if-set-lt3.false, says.0 t), λ w. says.1 w.1)) c.fits_with_none.ensures.none
