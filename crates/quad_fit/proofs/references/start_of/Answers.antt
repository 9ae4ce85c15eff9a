use Rattle.quad_fit.proofs.Sizes.{start_terms}
use Rattle.quad_fit.proofs.references.start_of.Goals as goal

pub overflow_mul-result : goal.overflow_mul-result
overflow_mul-result c =
    (start_terms _ _ c.args.lean c.args.den c.x.invariant c.requires.lean c.requires.den).start_fits

pub returns : goal.returns
returns c =
    let terms = start_terms _ _ c.args.lean c.args.den c.x.invariant c.requires.lean c.requires.den in
    record { value = rw (← c.x.view_is) terms.is; size = rw terms.is terms.size }
