use Rattle.std.proofs.Common.{pos, ◌<ℤ◌, arith}
use Rattle.sky_math.proofs.Order.{linear}
use Rattle.line_fit.proofs.Bounds.{at_most_from, above_from, positive_from, at_most_of_lower}
use Rattle.line_fit.proofs.slopes.greater.Goals as goal

pub returns-then-is_at_most-clause-bounds : goal.returns-then-is_at_most-clause-bounds
returns-then-is_at_most-clause-bounds c =
    let a : pos 0 <ℤ c.args.a.den = rw (← c.a.view_is) (positive_from _ _ c.a.invariant) in
    let b : pos 0 <ℤ c.args.b.den = rw (← c.b.view_is) (positive_from _ _ c.b.invariant) in
    let l = at_most_from c.args.a c.args.b c.is_at_most.result c.is_at_most.ensures c.if-is_at_most.true in
    λ n d p. (λ h. (at_most_of_lower c.args.a c.args.b n d a b p l h, h), λ h. h.1)

pub returns-else-is_at_most-clause-bounds : goal.returns-else-is_at_most-clause-bounds
returns-else-is_at_most-clause-bounds c =
    let a : pos 0 <ℤ c.args.a.den = rw (← c.a.view_is) (positive_from _ _ c.a.invariant) in
    let b : pos 0 <ℤ c.args.b.den = rw (← c.b.view_is) (positive_from _ _ c.b.invariant) in
    let l = above_from c.args.a c.args.b c.is_at_most.result c.is_at_most.ensures c.if-is_at_most.false in
    λ n d p. (λ h. (h, at_most_of_lower c.args.b c.args.a n d b a p (omega (arith, linear, l)) h), λ h. h.0)
