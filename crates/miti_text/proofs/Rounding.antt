-- Rounding to the nearest.
use Rattle.std.proofs.Common.{◌≡◌, ℕ, ◌+◌, ◌*◌, ◌^◌, ◌<◌, ◌≤◌, ap, ◌∙◌, arith}
use Rattle.std.proofs.Math.Nat.{mul-le-mul_right, mul-div-mul_right, add-mul-div_right, div-eq_of_lt-le, one-le-pow}
use Rattle.std.proofs.lemmas.Nat.{pow-add, div_below}
use Rattle.miti_text.specs.Numerals.{nearest}

pub nearest_scale : (n d k : ℕ) → 0 < k → nearest (n * k) (d * k) ≡ nearest n d
nearest_scale n d k some =
    let top : 2 * (n * k) + d * k ≡ (2 * n + d) * k = omega arith in
    let bottom : 2 * (d * k) ≡ (2 * d) * k = omega arith in
    rw (top, bottom) (mul-div-mul_right (2 * n + d) (2 * d) some)

pub nearest_shift : (q r d : ℕ) → 0 < d → nearest (q * d + r) d ≡ q + nearest r d
nearest_shift q r d some =
    let top : 2 * (q * d + r) + d ≡ (2 * r + d) + q * (2 * d) = omega arith in
    let positive : 0 < 2 * d = omega arith in
    rw top (add-mul-div_right (2 * r + d) q positive ∙ omega arith)

pub nearest_zero : (d : ℕ) → 0 < d → nearest 0 d ≡ 0
nearest_zero d some = div-eq_of_lt-le {k = 0} (2 * d) (omega arith) (omega arith)

padded : (f k s w : ℕ) → w ≡ k * s → f * w ≡ f * s * k + 0
padded f k s w is = rw is (omega arith)

le_of_lt_more : (a b : ℕ) → a < b + 1 → a ≤ b
le_of_lt_more a b h = omega arith

-- less than a half, and a half or more
pub nearest_down : (r d : ℕ) → 2 * r < d → nearest r d ≡ 0
nearest_down r d half = div-eq_of_lt-le {k = 0} (2 * d) (omega arith) (omega arith)

pub nearest_up : (r d : ℕ) → d ≤ 2 * r → r < d → nearest r d ≡ 1
nearest_up r d half less = div-eq_of_lt-le {k = 1} (2 * d) (omega arith) (omega arith)

-- a digit in front decides
pub nearest_of_digits : (c m r : ℕ) → c < 10 → r < m → (5 ≤ c → nearest (c * m + r) (10 * m) ≡ 1) × (c < 5 → nearest (c * m + r) (10 * m) ≡ 0)
nearest_of_digits c m r digit below = (
  λ up. let half = mul-le-mul_right m up in let most : c * m ≤ 9 * m = mul-le-mul_right m (omega arith) in nearest_up (c * m + r) (10 * m) (omega (arith, half)) (omega (arith, most)),
  λ down. let most : c * m ≤ 4 * m = mul-le-mul_right m (omega arith) in nearest_down (c * m + r) (10 * m) (omega (arith, most)),
)

-- the first digits of a fraction count whole units, the others are rounded
pub nearest_filled : (front back kept more : ℕ) → nearest ((front * 10 ^ more + back) * 10 ^ kept) (10 ^ (kept + more)) ≡ front + nearest back (10 ^ more)
nearest_filled front back kept more =
    let power : 10 ^ (kept + more) ≡ 10 ^ more * 10 ^ kept = pow-add 10 kept more ∙ omega arith in
    rw power (nearest_scale _ _ _ (one-le-pow kept 10 (omega arith)) ∙ nearest_shift front back (10 ^ more) (one-le-pow more 10 (omega arith)))

-- where no digit is left, the other places are filled with zeros
pub nearest_padded : (front kept spare : ℕ) → nearest (front * 10 ^ (kept + spare)) (10 ^ kept) ≡ front * 10 ^ spare
nearest_padded front kept spare =
    let power : front * 10 ^ (kept + spare) ≡ front * 10 ^ spare * 10 ^ kept + 0 = padded front (10 ^ kept) (10 ^ spare) _ (pow-add 10 kept spare) in
    rw power (nearest_shift (front * 10 ^ spare) 0 (10 ^ kept) (one-le-pow kept 10 (omega arith)) ∙ ap (λ n. front * 10 ^ spare + n) (nearest_zero (10 ^ kept) (one-le-pow kept 10 (omega arith))) ∙ omega arith)

-- at most the limit, however it is rounded
pub nearest_within : (n d limit p : ℕ) → 0 < d → n ≤ limit * d → nearest (n * p) d ≤ limit * p
nearest_within n d limit p some within =
    let scaled : n * p ≤ limit * d * p = mul-le-mul_right p within in
    le_of_lt_more _ _ (div_below (2 * (n * p) + d) (2 * d) (limit * p + 1) (omega arith) (omega (arith, scaled)))
