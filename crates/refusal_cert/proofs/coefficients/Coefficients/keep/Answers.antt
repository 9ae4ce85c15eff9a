use Rattle.std.proofs.Common.{◌≡◌, pos, neg_ℤ, ◌-ℤ◌, w64, arith}
use Rattle.std.proofs.lemmas.Int.{ints, to_z-of_z}
use Rattle.quad_fit.proofs.Sizes.{held}
use Rattle.refusal_cert.proofs.coefficients.Coefficients.keep.Goals as goal

pub returns-then-is_at_most : goal.returns-then-is_at_most
returns-then-is_at_most c =
    let range = c.requires in
    let acc : held c.args.acc ≡ c.args.acc = to_z-of_z w64 c.args.acc c.ranges.acc in
    let back : held (pos 0 -ℤ held c.args.acc) ≡ neg_ℤ c.args.acc = omega (arith, ints, range) in
    let high = rw (c.coefficient_of-greatest.ensures, acc) at c.is_at_most.ensures in
    let low = rw (c.coefficient_of-least.ensures, back) at c.is_at_most-then-is_at_most.ensures in
    (λ h. (high.0 c.if-is_at_most.true, low.0 h), λ h. low.1 h.1)
