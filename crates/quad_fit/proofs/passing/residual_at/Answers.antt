use Rattle.quad_fit.proofs.QuadSizes.{residual_terms}
use Rattle.quad_fit.proofs.passing.residual_at.Goals as goal

pub overflow_add-result : goal.overflow_add-result
overflow_add-result c = (residual_terms _ _ _ _ c.args.time c.args.position c.quad.invariant c.requires.time c.requires.position).sloped_fits

pub overflow_mul-result-3 : goal.overflow_mul-result-3
overflow_mul-result-3 c = (residual_terms _ _ _ _ c.args.time c.args.position c.quad.invariant c.requires.time c.requires.position).bent_fits

pub overflow_add-result-2 : goal.overflow_add-result-2
overflow_add-result-2 c = (residual_terms _ _ _ _ c.args.time c.args.position c.quad.invariant c.requires.time c.requires.position).value_fits

pub overflow_mul-result-4 : goal.overflow_mul-result-4
overflow_mul-result-4 c = (residual_terms _ _ _ _ c.args.time c.args.position c.quad.invariant c.requires.time c.requires.position).below_fits

pub overflow_sub-result : goal.overflow_sub-result
overflow_sub-result c = (residual_terms _ _ _ _ c.args.time c.args.position c.quad.invariant c.requires.time c.requires.position).result_fits

pub returns : goal.returns
returns c = rw (← c.quad.view_is) (residual_terms _ _ _ _ c.args.time c.args.position c.quad.invariant c.requires.time c.requires.position).is
