-- Quotients that are rounded down and up, and numbers that are kept within a range.
use Rattle.std.proofs.Common.{◌≡◌, ◌+◌, ◌*◌, ◌/◌, ◌%◌, ◌<◌, ◌≤◌, arith}
use Rattle.std.specs.Prelude.{ℤ, pos, negsuc, neg_ℤ, ◌+ℤ◌, ◌*ℤ◌, ◌≤ℤ◌, ◌<ℤ◌}
use Rattle.std.specs.Int.{int_div_euclid, int_max}
use Rattle.std.proofs.Math.Nat.{div-add-mod, mod-lt, mul-div-le}
use Rattle.std.proofs.lemmas.Int.{ints, clamps, by_lt_z}
use Rattle.sky_math.proofs.Order.{linear, le_cancel, mul_le}
use Rattle.sky_math.proofs.Ring.{ring, mul_neg}
use borrow.Author.Differences.{at_most_in, product_is}
use Rattle.bound_prune.specs.Boxes.{floor_of, ceiling_of}

-- a quotient that is rounded down, times the divisor, is at most the number
pub floor_most : (z n : ℤ) → pos 0 <ℤ n → (n *ℤ floor_of z n) ≤ℤ z
floor_most (pos a) (pos b) p =
    let m : b * (a / b) ≤ a = mul-div-le a b in
    at_most_in _ _ (omega (arith, m, product_is (pos b) (pos (a / b))))
floor_most (negsuc a) (pos b) p =
    let m : b * (a / b) + a % b ≡ a = div-add-mod a b in
    let r : a % b < b = mod-lt a (omega (arith, ints)) in
    at_most_in _ _ (omega (arith, m, r, product_is (pos b) (negsuc (a / b))))
floor_most z (negsuc b) p = absurd (omega (arith, ints))

-- and one that is rounded up at least
pub ceiling_least : (z n : ℤ) → pos 0 <ℤ n → z ≤ℤ (n *ℤ ceiling_of z n)
ceiling_least z n p =
    let f : (n *ℤ floor_of (neg_ℤ z) n) ≤ℤ neg_ℤ z = floor_most (neg_ℤ z) n p in
    let e : n *ℤ neg_ℤ (floor_of (neg_ℤ z) n) ≡ neg_ℤ (n *ℤ floor_of (neg_ℤ z) n) = mul_neg n (floor_of (neg_ℤ z) n) in
    omega (arith, linear, f, e)

-- one more than a quotient, times the divisor, is no less than the number
pub covered : (z : ℤ) → z ≤ℤ (pos 2000000 *ℤ (int_div_euclid z (pos 2000000) +ℤ pos 1))
covered (pos a) = omega (arith, ints)
covered (negsuc a) = omega (arith, ints)

-- a rate over some time from the shortest to the longest leads no farther than over one of these two
pub farthest : (rate short time long : ℤ) → short ≤ℤ time → time ≤ℤ long → (rate *ℤ time) ≤ℤ int_max (rate *ℤ short) (rate *ℤ long)
farthest rate short time long from to = by_lt_z rate (pos 0)
    (λ (l : rate <ℤ pos 0).
    let m : (neg_ℤ rate *ℤ short) ≤ℤ (neg_ℤ rate *ℤ time) = mul_le (neg_ℤ rate) short time (omega (arith, ints)) from in
    let e1 : neg_ℤ rate *ℤ short ≡ neg_ℤ (rate *ℤ short) = simp ring in
    let e2 : neg_ℤ rate *ℤ time ≡ neg_ℤ (rate *ℤ time) = simp ring in
    most_of_first (rate *ℤ time) (rate *ℤ short) (rate *ℤ long) (omega (arith, linear, m, e1, e2)))
    (λ (l : pos 0 ≤ℤ rate).
    let m : (rate *ℤ time) ≤ℤ (rate *ℤ long) = mul_le rate time long l to in
    most_of_second (rate *ℤ time) (rate *ℤ short) (rate *ℤ long) m)
  where
    most_of_first : (x a b : ℤ) → x ≤ℤ a → x ≤ℤ int_max a b
    most_of_first x a b h = omega (arith, ints, clamps)

    most_of_second : (x a b : ℤ) → x ≤ℤ b → x ≤ℤ int_max a b
    most_of_second x a b h = omega (arith, ints, clamps)

-- a quotient rounded down is at most that of a number that is no less, rounded up
pub in_order : (x y n : ℤ) → pos 0 <ℤ n → x ≤ℤ y → floor_of x n ≤ℤ ceiling_of y n
in_order x y n p h =
    let f : (n *ℤ floor_of x n) ≤ℤ x = floor_most x n p in
    let g : y ≤ℤ (n *ℤ ceiling_of y n) = ceiling_least y n p in
    le_cancel n (floor_of x n) (ceiling_of y n) p (omega (arith, linear, f, g, h))
