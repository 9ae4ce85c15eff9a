use Rattle.std.proofs.Common.{◌≡◌, ◌∙◌, ap}
use Rattle.std.specs.Int.{IsGcd}
use Rattle.std.specs.Int.RustNames.{unsigned_abs}
use Rattle.sky_math.specs.Quadratics.{Quadratic}
use Rattle.quad_fit.specs.Lowering.{IsDivisorOf}
use Rattle.quad_fit.proofs.LoweredTerms.{coefficient_sizes, divisor_of, divisor_terms}
use Rattle.quad_fit.proofs.reporting.divisor_of.Goals as goal

pub returns : goal.returns
returns c =
    let sizes = coefficient_sizes c.seen.inside.p c.seen.inside.v c.seen.inside.q c.seen.inside.den c.seen.invariant in
    let d : c.unsigned_abs.result ≡ unsigned_abs c.seen.inside.den = c.unsigned_abs.ensures.value ∙ ap unsigned_abs sizes.d_is in
    let p : c.unsigned_abs-2.result ≡ unsigned_abs c.seen.inside.p = c.unsigned_abs-2.ensures.value ∙ ap unsigned_abs sizes.p_is in
    let v : c.unsigned_abs-3.result ≡ unsigned_abs c.seen.inside.v = c.unsigned_abs-3.ensures.value ∙ ap unsigned_abs sizes.v_is in
    let q : c.unsigned_abs-4.result ≡ unsigned_abs c.seen.inside.q = c.unsigned_abs-4.ensures.value ∙ ap unsigned_abs sizes.q_is in
    let one : IsGcd (unsigned_abs c.seen.inside.den) (unsigned_abs c.seen.inside.p) c.common_divisor-one.result = rw (d, p) at c.common_divisor-one.ensures in
    let two : IsGcd (unsigned_abs c.seen.inside.v) (unsigned_abs c.seen.inside.q) c.common_divisor-two.result = rw (v, q) at c.common_divisor-two.ensures in
    let f : Quadratic = record { p = c.seen.inside.p; v = c.seen.inside.v; q = c.seen.inside.q; d = c.seen.inside.den } in
    let is : IsDivisorOf f c.common_divisor.result = divisor_of f c.common_divisor-one.result c.common_divisor-two.result c.common_divisor.result one two c.common_divisor.ensures in
    record { value = rw (← c.seen.view_is) is; size = (divisor_terms f c.common_divisor.result c.seen.invariant is).size }
