use Rattle.quad_fit.proofs.SeenTerms.{seen_is, seen_terms}
use Rattle.quad_fit.proofs.reporting.seen_from.Goals as goal

pub overflow_sub-start : goal.overflow_sub-start
overflow_sub-start c = (seen_terms _ _ _ _ _ _ c.args.time c.args.position c.curve.invariant c.requires.time c.requires.position).start_fits

pub overflow_mul-result : goal.overflow_mul-result
overflow_mul-result c = (seen_terms _ _ _ _ _ _ c.args.time c.args.position c.curve.invariant c.requires.time c.requires.position).sloped_fits

pub overflow_sub-result : goal.overflow_sub-result
overflow_sub-result c = (seen_terms _ _ _ _ _ _ c.args.time c.args.position c.curve.invariant c.requires.time c.requires.position).straight_fits

pub overflow_mul-result-2 : goal.overflow_mul-result-2
overflow_mul-result-2 c = (seen_terms _ _ _ _ _ _ c.args.time c.args.position c.curve.invariant c.requires.time c.requires.position).product_fits

pub overflow_mul-result-3 : goal.overflow_mul-result-3
overflow_mul-result-3 c = (seen_terms _ _ _ _ _ _ c.args.time c.args.position c.curve.invariant c.requires.time c.requires.position).bent_fits

pub overflow_add-result : goal.overflow_add-result
overflow_add-result c = (seen_terms _ _ _ _ _ _ c.args.time c.args.position c.curve.invariant c.requires.time c.requires.position).constant_fits

pub overflow_mul-result-4 : goal.overflow_mul-result-4
overflow_mul-result-4 c = (seen_terms _ _ _ _ _ _ c.args.time c.args.position c.curve.invariant c.requires.time c.requires.position).turned_fits

pub overflow_sub-result-2 : goal.overflow_sub-result-2
overflow_sub-result-2 c = (seen_terms _ _ _ _ _ _ c.args.time c.args.position c.curve.invariant c.requires.time c.requires.position).rate_fits

pub invariant_of-result : goal.invariant_of-result
invariant_of-result c = (seen_terms _ _ _ _ _ _ c.args.time c.args.position c.curve.invariant c.requires.time c.requires.position).are

pub returns : goal.returns
returns c =
    let terms = seen_terms _ _ _ _ _ _ c.args.time c.args.position c.curve.invariant c.requires.time c.requires.position in
    rw (terms.constant_is, terms.rate_is, terms.bend_is, terms.den_is, ← c.curve.view_is) (seen_is c.args.time c.args.position _)
