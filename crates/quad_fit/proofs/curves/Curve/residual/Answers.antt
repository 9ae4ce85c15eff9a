use Rattle.std.proofs.Common.{sym, ◌∙◌}
use Rattle.quad_fit.proofs.NewtonForm.{residual_is}
use Rattle.quad_fit.proofs.Sizes.{residual_terms}
use Rattle.quad_fit.proofs.curves.Curve.residual.Goals as goal

pub overflow_mul-bent : goal.overflow_mul-bent
overflow_mul-bent c = (residual_terms _ _ _ _ _ _ _ _ c.self.invariant c.mark.invariant).bent_fits

pub overflow_add-risen : goal.overflow_add-risen
overflow_add-risen c = (residual_terms _ _ _ _ _ _ _ _ c.self.invariant c.mark.invariant).sloped_fits

pub overflow_mul-risen : goal.overflow_mul-risen
overflow_mul-risen c = (residual_terms _ _ _ _ _ _ _ _ c.self.invariant c.mark.invariant).risen_fits

pub overflow_add-result : goal.overflow_add-result
overflow_add-result c = (residual_terms _ _ _ _ _ _ _ _ c.self.invariant c.mark.invariant).sum_fits

pub overflow_mul-result : goal.overflow_mul-result
overflow_mul-result c = (residual_terms _ _ _ _ _ _ _ _ c.self.invariant c.mark.invariant).below_fits

pub overflow_sub-result : goal.overflow_sub-result
overflow_sub-result c = (residual_terms _ _ _ _ _ _ _ _ c.self.invariant c.mark.invariant).result_fits

pub returns : goal.returns
returns c =
    let terms = residual_terms _ _ _ _ _ _ _ _ c.self.invariant c.mark.invariant in
    let curve = c.self.inside in
    record {
      value = rw (← c.self.view_is, ← c.mark.view_is) (terms.is ∙ sym (residual_is curve.start curve.slope curve.bend curve.den curve.first curve.second c.mark.inside.time c.mark.inside.position));
      size = rw terms.is terms.result_size;
    }
