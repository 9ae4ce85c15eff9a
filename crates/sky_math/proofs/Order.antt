-- Inequalities of whole numbers are multiplied by a number and cancelled.
use Rattle.std.proofs.Common.{◌≡◌, ℕ, ◌+◌, ◌*◌, ◌≤◌, arith}
use Rattle.std.proofs.Math.Nat.{mul-le-mul_left, mul-le-mul}
use Rattle.std.specs.Prelude.{ℤ, pos, negsuc, ◌+ℤ◌, ◌*ℤ◌, ◌≤ℤ◌, ◌<ℤ◌, neg_ℤ}
use Rattle.std.proofs.lemmas.Int.{by_lt_z, unsigned_abs-mul}
use Rattle.std.specs.Int.RustNames.{unsigned_abs}
use borrow.Author.Differences.{up, down, fits_out, same_out, Apart-out, lt_T, le_T, lt_not, le_not, lt-true, lt-false, le-true, le-false, true-lt, false-lt, true-le, false-le, not_negative_out, lt_out, le_out, fits_in, same_in, lt_in, le_in, below_in, at_most_in, not_negative_in, true_is_lt, false_is_lt, true_is_le, false_is_le, sum_is_lem, neg_is, product_is}
use Rattle.sky_math.proofs.Ring.{mul_add, mul_neg}
use Rattle.sky_math.specs.Quadratics.{IsWithin}

-- `omega` with these reads sums, differences and order, and takes each product for an unknown
pub ruleset linear = (same_out, Apart-out, lt_out, le_out, same_in, below_in, at_most_in, sum_is_lem, neg_is)

pub mul_le : (k a b : ℤ) → pos 0 ≤ℤ k → a ≤ℤ b → (k *ℤ a) ≤ℤ (k *ℤ b)
mul_le (pos n) a b p h =
    let m : n * (up a + down b) ≤ n * (up b + down a) = mul-le-mul_left n (le_out a b h) in
    at_most_in _ _ (omega (arith, m, product_is (pos n) a, product_is (pos n) b))
mul_le (negsuc n) a b p h = absurd (omega (arith, le_out (pos 0) (negsuc n) p))

pub mul_lt : (k a b : ℤ) → pos 0 <ℤ k → a <ℤ b → (k *ℤ a) <ℤ (k *ℤ b)
mul_lt k a b p h =
    let m : (k *ℤ (a +ℤ pos 1)) ≤ℤ (k *ℤ b) = mul_le k (a +ℤ pos 1) b (omega (arith, linear)) (omega (arith, linear)) in
    let e : k *ℤ (a +ℤ pos 1) ≡ (k *ℤ a) +ℤ (k *ℤ pos 1) = mul_add k a (pos 1) in
    let o : k *ℤ pos 1 ≡ k = same_in _ _ (omega (arith, product_is k (pos 1))) in
    omega (arith, linear)

pub le_cancel : (k a b : ℤ) → pos 0 <ℤ k → (k *ℤ a) ≤ℤ (k *ℤ b) → a ≤ℤ b
le_cancel k a b p h = by_lt_z b a (λ (l : b <ℤ a). let m = mul_lt k b a p l in absurd (omega (arith, linear, m))) (λ (l : a ≤ℤ b). l)

pub lt_cancel : (k a b : ℤ) → pos 0 <ℤ k → (k *ℤ a) <ℤ (k *ℤ b) → a <ℤ b
lt_cancel k a b p h = by_lt_z a b (λ (l : a <ℤ b). l) (λ (l : b ≤ℤ a). let m = mul_le k b a (omega (arith, linear)) l in absurd (omega (arith, linear, m)))

pub mul_positive : (a b : ℤ) → pos 0 <ℤ a → pos 0 <ℤ b → pos 0 <ℤ (a *ℤ b)
mul_positive a b p q = let z : a *ℤ pos 0 ≡ pos 0 = same_in _ _ (omega (arith, product_is a (pos 0))) in omega (arith, linear, mul_lt a (pos 0) b p q)

pub mul_not_negative : (a b : ℤ) → pos 0 ≤ℤ a → pos 0 ≤ℤ b → pos 0 ≤ℤ (a *ℤ b)
mul_not_negative a b p q = let z : a *ℤ pos 0 ≡ pos 0 = same_in _ _ (omega (arith, product_is a (pos 0))) in omega (arith, linear, mul_le a (pos 0) b p q)

pub mul_within : (k b x : ℤ) → pos 0 ≤ℤ k → IsWithin b x → IsWithin (k *ℤ b) (k *ℤ x)
mul_within k b x p h = let l = mul_le k (neg_ℤ b) x p h.0 in (rw mul_neg at l, mul_le k x b p h.1)

pub within_cancel : (k b x : ℤ) → pos 0 <ℤ k → IsWithin (k *ℤ b) (k *ℤ x) → IsWithin b x
within_cancel k b x p h =
    let l : (k *ℤ neg_ℤ b) ≤ℤ (k *ℤ x) = rw mul_neg h.0 in
    (le_cancel k (neg_ℤ b) x p l, le_cancel k x b p h.1)

-- the absolute value of a product is at most the product of the bounds
pub product_most : (a b : ℤ) (m n : ℕ) → unsigned_abs a ≤ m → unsigned_abs b ≤ n → unsigned_abs (a *ℤ b) ≤ m * n
product_most a b m n p q = rw (unsigned_abs-mul a b) (mul-le-mul p q)
