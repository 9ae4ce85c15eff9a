-- What the numbers of a fraction fit into.
use Rattle.std.proofs.Common.{◌≡◌, ℕ, ◌*◌, ◌≤◌, ◌<◌, ◌^◌, ℤ, pos, negsuc, neg_ℤ, ◌+ℤ◌, ◌*ℤ◌, ◌<ℤ◌, to_z, of_z, FitsSigned, sym, ap, ◌∙◌, arith, lit<}
use mir.Syntax.{w128}
use Rattle.std.specs.Int.{IsGcd, ◌∣◌}
use Rattle.std.specs.Int.RustNames.{unsigned_abs, int_div, int_rem}
use Rattle.std.proofs.Math.Nat.{mul-le-mul_left, one-dvd, mul-dvd-mul_right, dvd_of_mul-dvd-mul_right, eq-zero_of_zero-dvd}
use Rattle.std.proofs.lemmas.Bool.{cases_lt}
use Rattle.std.proofs.lemmas.Nat.Gcd.{le_of_dvd, mod-eq-zero_of_dvd}
use borrow.Author.Differences.{same_in, product_is}
use mathlib.Core.Logic.{inl, inr}
use Rattle.sky_math.proofs.Order.{linear, lt_cancel}
use Rattle.sky_math.proofs.Ring.{mul_assoc, mul_comm}
use Rattle.std.specs.Ordering.{int_cmp}
use Rattle.std.specs.declared.cmp.Ordering.{Ordering}
use Rattle.std.proofs.lemmas.Int.{ints, to_z-of_z, fits_signed_mul, unsigned_abs-mul, quot-rem, quot_is, quot_fits}
use Rattle.sky_units.specs.FracData.{IsFrac}

pub num_most : (n d : ℤ) → IsFrac n d → unsigned_abs n ≤ 10 ^ 16
num_most n d f = omega (arith, ints)

pub den_most : (n d : ℤ) → IsFrac n d → unsigned_abs d ≤ 10 ^ 22
den_most n d f = omega (arith, ints)

pub num_fits : (n d : ℤ) → IsFrac n d → FitsSigned w128 n
num_fits n d f = omega (arith, ints)

pub den_fits : (n d : ℤ) → IsFrac n d → FitsSigned w128 d
den_fits n d f = omega (arith, ints)

pub cross_fits : (n d m e : ℤ) → IsFrac n d → IsFrac m e → FitsSigned w128 (n *ℤ e)
cross_fits n d m e f g = fits_signed_mul w128 n e (10 ^ 16) (10 ^ 22) (num_most n d f) (den_most m e g) (lit< tt)

pub compared : (n d m e : ℤ) (r : Ordering) → IsFrac n d → IsFrac m e →
    r ≡ int_cmp (to_z w128 (of_z w128 (to_z w128 (of_z w128 n) *ℤ to_z w128 (of_z w128 e)))) (to_z w128 (of_z w128 (to_z w128 (of_z w128 m) *ℤ to_z w128 (of_z w128 d)))) →
    r ≡ int_cmp (n *ℤ e) (m *ℤ d)
compared n d m e r f g h =
    let a : FitsSigned w128 n = num_fits n d f in
    let b : FitsSigned w128 d = den_fits n d f in
    let a' : FitsSigned w128 m = num_fits m e g in
    let b' : FitsSigned w128 e = den_fits m e g in
    let x : FitsSigned w128 (n *ℤ e) = cross_fits n d m e f g in
    let y : FitsSigned w128 (m *ℤ d) = cross_fits m e n d g f in
    simp to_z-of_z at h

-- ---- division by a divisor
exact_rem : (n : ℤ) (k : ℕ) → k ∣ unsigned_abs n → int_rem n (pos k) ≡ pos 0
exact_rem (pos a) k h = ap pos (mod-eq-zero_of_dvd k h)
exact_rem (negsuc a) k h = ap (λ (m : ℕ). neg_ℤ (pos m)) (mod-eq-zero_of_dvd k h)

exact_div : (n g : ℤ) → pos 0 <ℤ g → unsigned_abs g ∣ unsigned_abs n → int_div n g *ℤ g ≡ n
exact_div n (pos k) p h =
    let r : int_rem n (pos k) ≡ pos 0 = exact_rem n k h in
    let q : (int_div n (pos k) *ℤ pos k) +ℤ int_rem n (pos k) ≡ n = quot-rem n (pos k) in
    omega (arith, linear, r, q)
exact_div n (negsuc k) p h = absurd (omega (arith, ints))

pub quotient_exact : (n g : ℤ) → FitsSigned w128 n → FitsSigned w128 g → pos 0 <ℤ g → unsigned_abs g ∣ unsigned_abs n →
    to_z w128 (of_z w128 (int_div (to_z w128 (of_z w128 n)) (to_z w128 (of_z w128 g)))) *ℤ g ≡ n
quotient_exact n g f f' p h = rw (quot_is w128 n g f f' (quot_fits w128 n g f p)) (exact_div n g p h)

-- ---- lowest terms
-- what a greatest common divisor of a fraction's numbers is like
pub divisor_fits : (n d : ℤ) (g : ℕ) → IsFrac n d → g ∣ unsigned_abs d → (0 < g) × (g ≤ 10 ^ 22) × FitsSigned w128 (pos g)
divisor_fits n d g f h =
    let some : 0 < unsigned_abs d = omega (arith, ints) in
    let l : g ≤ unsigned_abs d = le_of_dvd some h in
    let m : unsigned_abs d ≤ 10 ^ 22 = den_most n d f in
    let p : 0 < g = (elim (cases_lt 0 g) as (λ _. 0 < g) [ inl s ↦ s | inr s ↦ absurd (not_none d g (omega arith) h some) ]) in
    (p, omega arith, small_fits g (omega arith))
  where
    not_none : (d : ℤ) (g : ℕ) → g ≡ 0 → g ∣ unsigned_abs d → 0 < unsigned_abs d → ⊥
    not_none d g z h some = let k : 0 ∣ unsigned_abs d = rw z at h in let e : unsigned_abs d ≡ 0 = eq-zero_of_zero-dvd k in absurd (omega arith)

    small_fits : (g : ℕ) → g ≤ 10 ^ 22 → FitsSigned w128 (pos g)
    small_fits g h = omega (arith, ints)

-- a number that times a positive one gives a bounded number is bounded
scaled_most : (a g n : ℤ) (m : ℕ) → pos 0 <ℤ g → a *ℤ g ≡ n → unsigned_abs n ≤ m → unsigned_abs a ≤ m
scaled_most a g n m p e h =
    let f : unsigned_abs a * unsigned_abs g ≡ unsigned_abs n = sym (unsigned_abs-mul a g) ∙ ap unsigned_abs e in
    let one : 1 ≤ unsigned_abs g = omega (arith, ints) in
    let l : unsigned_abs a * 1 ≤ unsigned_abs a * unsigned_abs g = mul-le-mul_left (unsigned_abs a) one in
    omega arith

pub lowest_frac : (n d a b g : ℤ) → IsFrac n d → pos 0 <ℤ g → a *ℤ g ≡ n → b *ℤ g ≡ d → IsFrac a b
lowest_frac n d a b g f p ea eb =
    let x : unsigned_abs a ≤ 10 ^ 16 = scaled_most a g n (10 ^ 16) p ea (num_most n d f) in
    let y : unsigned_abs b ≤ 10 ^ 22 = scaled_most b g d (10 ^ 22) p eb (den_most n d f) in
    let e : g *ℤ b ≡ d = mul_comm g b ∙ eb in
    let z : g *ℤ pos 0 ≡ pos 0 = mul_comm g (pos 0) ∙ same_in _ _ (omega (arith, product_is (pos 0) g)) in
    let s : pos 0 <ℤ b = lt_cancel g (pos 0) b p (omega (arith, linear, e, z, f.den_in_range.from)) in
    ranged a b x y s
  where
    ranged : (a b : ℤ) → unsigned_abs a ≤ 10 ^ 16 → unsigned_abs b ≤ 10 ^ 22 → pos 0 <ℤ b → IsFrac a b
    ranged a b x y s = record { num_in_range = record { from = omega (arith, ints); to = omega (arith, ints) }; den_in_range = record { from = omega (arith, ints); to = omega (arith, ints) } }

pub lowest_value : (n d a b g : ℤ) → a *ℤ g ≡ n → b *ℤ g ≡ d → n *ℤ b ≡ a *ℤ d
lowest_value n d a b g ea eb = rw (← ea, ← eb) (mul_assoc a g b ∙ ap (λ (t : ℤ). a *ℤ t) (mul_comm g b))

pub lowest_alone : (n d a b : ℤ) (g : ℕ) → 0 < g → a *ℤ pos g ≡ n → b *ℤ pos g ≡ d → IsGcd (unsigned_abs n) (unsigned_abs d) g → IsGcd (unsigned_abs a) (unsigned_abs b) 1
lowest_alone n d a b g p ea eb h =
    let x : unsigned_abs a * g ≡ unsigned_abs n = sym (unsigned_abs-mul a (pos g)) ∙ ap unsigned_abs ea in
    let y : unsigned_abs b * g ≡ unsigned_abs d = sym (unsigned_abs-mul b (pos g)) ∙ ap unsigned_abs eb in (
      one-dvd (unsigned_abs a),
      one-dvd (unsigned_abs b),
      λ k ha hb.
          let u : k * g ∣ unsigned_abs n = rw (← x) (mul-dvd-mul_right k ha g) in
          let v : k * g ∣ unsigned_abs d = rw (← y) (mul-dvd-mul_right k hb g) in
          let w : k * g ∣ g = h.2 (k * g) u v in
          let one : 1 * g ≡ g = omega arith in
          let z : k * g ∣ 1 * g = rw one w in
          dvd_of_mul-dvd-mul_right k p z,
    )

pub cast_small : (g : ℕ) → g ≤ 10 ^ 22 → to_z w128 g ≡ pos g
cast_small g h = omega (arith, ints)

-- a whole number, kept in 128 bits and read back
abbrev pub held : ℤ → ℤ
held n = to_z w128 (of_z w128 n)

-- the greatest common divisor of a fraction's numbers, as it is computed
pub record DivisorFacts (n d : ℤ) (g : ℕ) : Type 0 where
  pub num_is : held n ≡ n
  pub den_is : held d ≡ d
  pub gcd : IsGcd (unsigned_abs n) (unsigned_abs d) g
  pub some : 0 < g
  pub fits : FitsSigned w128 (pos g)
  pub is : to_z w128 g ≡ pos g
  pub positive : pos 0 <ℤ to_z w128 g
  pub divides_num : unsigned_abs (to_z w128 g) ∣ unsigned_abs (held n)
  pub divides_den : unsigned_abs (to_z w128 g) ∣ unsigned_abs (held d)

pub divisor_facts : (n d : ℤ) (g a b : ℕ) → IsFrac n d → a ≡ unsigned_abs (held n) → b ≡ unsigned_abs (held d) → IsGcd a b g → DivisorFacts n d g
divisor_facts n d g a b frac a_is b_is h =
    let num_is : to_z w128 (of_z w128 n) ≡ n = to_z-of_z w128 n (num_fits n d frac) in
    let den_is : to_z w128 (of_z w128 d) ≡ d = to_z-of_z w128 d (den_fits n d frac) in
    let num_abs : a ≡ unsigned_abs n = rw num_is at a_is in
    let den_abs : b ≡ unsigned_abs d = rw den_is at b_is in
    let gcd : IsGcd (unsigned_abs n) (unsigned_abs d) g = rw (num_abs, den_abs) at h in
    let fits = divisor_fits n d g frac gcd.1 in
    let is : to_z w128 g ≡ pos g = cast_small g fits.1 in
    record {
      num_is = num_is;
      den_is = den_is;
      gcd = gcd;
      some = fits.0;
      fits = fits.2;
      is = is;
      positive = rw is (omega (arith, ints, fits.0));
      divides_num = rw (is, num_is) gcd.0;
      divides_den = rw (is, den_is) gcd.1;
    }

-- the quotients of a fraction's numbers by their greatest common divisor
pub record QuotientFacts (n d a b : ℤ) : Type 0 where
  pub num_is : held a ≡ a
  pub den_is : held b ≡ b
  pub range : IsFrac (held a) (held b)
  pub value : n *ℤ held b ≡ held a *ℤ d
  pub lowest : IsGcd (unsigned_abs (held a)) (unsigned_abs (held b)) 1

pub quotient_facts : (n d : ℤ) (g : ℕ) (a b : ℤ) → IsFrac n d → DivisorFacts n d g → a *ℤ to_z w128 g ≡ held n → b *ℤ to_z w128 g ≡ held d → QuotientFacts n d a b
quotient_facts n d g a b frac divisor num_times den_times =
    let positive : pos 0 <ℤ pos g = rw divisor.is at divisor.positive in
    let num_exact : a *ℤ pos g ≡ n = rw (divisor.is, divisor.num_is) at num_times in
    let den_exact : b *ℤ pos g ≡ d = rw (divisor.is, divisor.den_is) at den_times in
    let range : IsFrac a b = lowest_frac n d a b (pos g) frac positive num_exact den_exact in
    let num_is : to_z w128 (of_z w128 a) ≡ a = to_z-of_z w128 a (num_fits a b range) in
    let den_is : to_z w128 (of_z w128 b) ≡ b = to_z-of_z w128 b (den_fits a b range) in
    record {
      num_is = num_is;
      den_is = den_is;
      range = rw (num_is, den_is) range;
      value = rw (num_is, den_is) (lowest_value n d a b (pos g) num_exact den_exact);
      lowest = rw (num_is, den_is) (lowest_alone n d a b g divisor.some num_exact den_exact divisor.gcd);
    }
