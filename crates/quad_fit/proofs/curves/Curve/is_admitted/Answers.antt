use Rattle.std.proofs.Common.{◌≡◌, true, false, ℤ, pos, neg_ℤ, ◌*ℤ◌, ◌≤ℤ◌, ◌<ℤ◌, IsTrue, ◌↔◌, sym, arith}
use Rattle.std.proofs.lemmas.Int.{ints}
use lib.Signed.{le_z}
use Rattle.sky_math.specs.Quadratics.{IsWithin}
use Rattle.quad_fit.proofs.Sizes.{admitted_terms}
use Rattle.quad_fit.proofs.curves.Curve.is_admitted.Goals as goal

-- one side of the limit was tested
upper_asked : (d most twice : ℤ) → pos 0 <ℤ d → le_z (neg_ℤ most) twice ≡ true → IsTrue (le_z twice most) ↔ ((pos 0 <ℤ d) × IsWithin most twice)
upper_asked d most twice p low = (
  λ (h : le_z twice most ≡ true). let l : neg_ℤ most ≤ℤ twice = omega (arith, ints) in let u : twice ≤ℤ most = omega (arith, ints) in (p, (l, u)),
  λ w. let u : twice ≤ℤ most = w.1.1 in let e : true ≡ le_z twice most = omega (arith, ints) in sym e,
)

lower_failed : (d most twice : ℤ) → le_z (neg_ℤ most) twice ≡ false → IsTrue (le_z (neg_ℤ most) twice) ↔ ((pos 0 <ℤ d) × IsWithin most twice)
lower_failed d most twice below = (
  λ (h : le_z (neg_ℤ most) twice ≡ true). absurd (omega (arith, ints)),
  λ w. let l : neg_ℤ most ≤ℤ twice = w.1.0 in absurd (omega (arith, ints)),
)

pub overflow_sub-most : goal.overflow_sub-most
overflow_sub-most c = (admitted_terms c.args.acc _ _ _ _ _ _ c.requires c.self.invariant).least_fits

pub returns-then-most-twice : goal.returns-then-most-twice
returns-then-most-twice c =
    let terms = admitted_terms c.args.acc _ _ _ _ _ _ c.requires c.self.invariant in
    let curve = c.self.inside in
    let range = c.self.invariant.den_range in
    let positive : pos 0 <ℤ curve.den = omega (arith, ints) in
    let low : le_z (neg_ℤ (c.args.acc *ℤ curve.den)) (pos 2000000000000 *ℤ curve.bend) ≡ true = rw (terms.least_is, terms.twice_is) at c.if-most-twice.true in
    rw (terms.most_is, terms.twice_is, ← c.self.view_is) (upper_asked curve.den (c.args.acc *ℤ curve.den) (pos 2000000000000 *ℤ curve.bend) positive low)

pub returns-else-most-twice : goal.returns-else-most-twice
returns-else-most-twice c =
    let terms = admitted_terms c.args.acc _ _ _ _ _ _ c.requires c.self.invariant in
    let curve = c.self.inside in
    let below : le_z (neg_ℤ (c.args.acc *ℤ curve.den)) (pos 2000000000000 *ℤ curve.bend) ≡ false = rw (terms.least_is, terms.twice_is) at c.if-most-twice.false in
    rw (terms.least_is, terms.twice_is, ← c.self.view_is) (lower_failed curve.den (c.args.acc *ℤ curve.den) (pos 2000000000000 *ℤ curve.bend) below)
