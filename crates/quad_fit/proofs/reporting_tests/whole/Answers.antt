use Rattle.std.proofs.Common.{◌≡◌, ℤ, pos, neg_ℤ, arith}
use Rattle.std.proofs.lemmas.Int.{ints}
use Rattle.std.proofs.Math.Nat.{eq-one_of_dvd-one}
use Rattle.sky_units.specs.QuadData.{IsQuad}
use Rattle.sky_units.specs.Ranges.{IsBetween}
use Rattle.quad_fit.proofs.Sizes.{held, held_wide}
use Rattle.quad_fit.proofs.reporting_tests.whole.Goals as goal

over_one : (p v q : ℤ) → IsBetween (neg_ℤ (pos 1000)) (pos 1000) p → IsBetween (neg_ℤ (pos 1000)) (pos 1000) v → IsBetween (neg_ℤ (pos 1000)) (pos 1000) q → IsQuad (pos 1) p v q
over_one p v q hp hv hq = record {
  den_in_range = record { from = omega (arith, ints); to = omega (arith, ints) };
  p_in_range = record { from = omega (arith, ints, hp.from); to = omega (arith, ints, hp.to) };
  v_in_range = record { from = omega (arith, ints, hv.from); to = omega (arith, ints, hv.to) };
  q_in_range = record { from = omega (arith, ints, hq.from); to = omega (arith, ints, hq.to) };
  lowest = λ k d _ _ _. eq-one_of_dvd-one d;
}

read : (x : ℤ) → IsBetween (neg_ℤ (pos 1000)) (pos 1000) x → held_wide (held x) ≡ x
read x h = omega (arith, ints, h.from, h.to)

pub invariant_of-result : goal.invariant_of-result
invariant_of-result c =
    let p = c.small.ensures in
    let v = c.small-2.ensures in
    let q = c.small-3.ensures in
    rw (read c.small.result p, read c.small-2.result v, read c.small-3.result q) (over_one c.small.result c.small-2.result c.small-3.result p v q)
