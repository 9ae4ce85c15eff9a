use Rattle.quad_fit.proofs.Sizes.{rise_terms}
use Rattle.quad_fit.proofs.references.rise_of.Goals as goal

pub returns : goal.returns
returns c =
    let terms = rise_terms _ _ _ _ c.args.lean c.x.invariant c.y.invariant c.requires in
    record { value = rw (← c.x.view_is, ← c.y.view_is) terms.is; size = rw terms.is terms.size }
