-- A quadratic divided by the greatest common divisor of its numbers is in lowest terms.
use Rattle.std.proofs.Common.{◌≡◌, ◌∙◌, ℕ, ◌*◌, ◌≤◌, ◌<◌, ◌^◌, ℤ, pos, ◌*ℤ◌, ◌<ℤ◌, to_z, FitsSigned, sym, ap, arith}
use mir.Syntax.{w128}
use Rattle.std.specs.Int.{IsGcd, ◌∣◌}
use Rattle.std.specs.Int.RustNames.{unsigned_abs}
use Rattle.std.proofs.Math.Nat.{dvd_of_mul-dvd-mul_right, eq-one_of_dvd-one, mul-dvd-mul_right, mul-le-mul_left, pos_of_dvd_of_pos}
use Rattle.std.proofs.lemmas.Int.{ints, to_z-of_z, unsigned_abs-mul}
use Rattle.std.proofs.lemmas.Nat.Gcd.{dvd_trans, le_of_dvd}
use Rattle.sky_math.specs.Quadratics.{Quadratic}
use Rattle.sky_units.specs.QuadData.{HaveNoCommonDivisor, IsAtMostAway, IsQuad}
use Rattle.quad_fit.specs.Lowering.{AreCoefficients, IsDivisorOf, IsLowered}
use Rattle.quad_fit.proofs.Sizes.{held_wide}
use Rattle.quad_fit.proofs.Tight.{positive_lowered}

-- ---- the sizes of the numbers
pub record CoefficientSizes (p v q d : ℤ) : Type 0 where
  pub p_size : unsigned_abs p ≤ 63 * 10 ^ 36
  pub v_size : unsigned_abs v ≤ 14 * 10 ^ 29
  pub q_size : unsigned_abs q ≤ 11 * 10 ^ 22
  pub d_size : unsigned_abs d ≤ 21 * 10 ^ 28
  pub positive : pos 0 <ℤ d
  pub p_is : held_wide p ≡ p
  pub v_is : held_wide v ≡ v
  pub q_is : held_wide q ≡ q
  pub d_is : held_wide d ≡ d

size_of : (n : ℕ) (x : ℤ) → IsAtMostAway n x → unsigned_abs x ≤ n
size_of n x h = omega (arith, ints, h.from, h.to)

read : (x : ℤ) (n : ℕ) → unsigned_abs x ≤ n → n ≤ 63 * 10 ^ 36 → held_wide x ≡ x
read x n h k = let f : FitsSigned w128 x = omega (arith, ints) in to_z-of_z w128 x f

pub coefficient_sizes : (p v q d : ℤ) → AreCoefficients p v q d → CoefficientSizes p v q d
coefficient_sizes p v q d are =
    let pm = size_of (63 * 10 ^ 36) p are.p_range in
    let vm = size_of (14 * 10 ^ 29) v are.v_range in
    let qm = size_of (11 * 10 ^ 22) q are.q_range in
    let r = are.d_range in
    let dm : unsigned_abs d ≤ 21 * 10 ^ 28 = omega (arith, ints, r.from, r.to) in
    record {
      p_size = pm;
      v_size = vm;
      q_size = qm;
      d_size = dm;
      positive = omega (arith, ints, r.from);
      p_is = read p (63 * 10 ^ 36) pm (omega arith);
      v_is = read v (14 * 10 ^ 29) vm (omega arith);
      q_is = read q (11 * 10 ^ 22) qm (omega arith);
      d_is = read d (21 * 10 ^ 28) dm (omega arith);
    }

-- ---- the divisor
pub divisor_of : (f : Quadratic) (one two g : ℕ) → IsGcd (unsigned_abs f.d) (unsigned_abs f.p) one → IsGcd (unsigned_abs f.v) (unsigned_abs f.q) two → IsGcd one two g → IsDivisorOf f g
divisor_of f one two g a b h = record {
  divides_d = dvd_trans g h.0 a.0;
  divides_p = dvd_trans g h.0 a.1;
  divides_v = dvd_trans g h.1 b.0;
  divides_q = dvd_trans g h.1 b.1;
  greatest = λ k d p v q. h.2 k (a.2 k d p) (b.2 k v q);
}

pub record DivisorTerms (f : Quadratic) (g : ℕ) : Type 0 where
  pub some : 0 < g
  pub size : g ≤ 21 * 10 ^ 28
  pub is : to_z w128 g ≡ pos g
  pub positive : pos 0 <ℤ to_z w128 g
  pub divides_d : unsigned_abs (to_z w128 g) ∣ unsigned_abs (held_wide f.d)
  pub divides_p : unsigned_abs (to_z w128 g) ∣ unsigned_abs (held_wide f.p)
  pub divides_v : unsigned_abs (to_z w128 g) ∣ unsigned_abs (held_wide f.v)
  pub divides_q : unsigned_abs (to_z w128 g) ∣ unsigned_abs (held_wide f.q)

pub small_fits : (g : ℕ) → g ≤ 21 * 10 ^ 28 → FitsSigned w128 (pos g)
small_fits g h = omega (arith, ints)

cast_small : (g : ℕ) → g ≤ 21 * 10 ^ 28 → to_z w128 g ≡ pos g
cast_small g h = omega (arith, ints)

pub divisor_terms : (f : Quadratic) (g : ℕ) → AreCoefficients f.p f.v f.q f.d → IsDivisorOf f g → DivisorTerms f g
divisor_terms f g are is =
    let sizes = coefficient_sizes f.p f.v f.q f.d are in
    let there : 0 < unsigned_abs f.d = omega (arith, ints, sizes.positive) in
    let some : 0 < g = pos_of_dvd_of_pos is.divides_d there in
    let l : g ≤ unsigned_abs f.d = le_of_dvd there is.divides_d in
    let m : g ≤ 21 * 10 ^ 28 = omega (arith, l, sizes.d_size) in
    let cast = cast_small g m in
    record {
      some = some;
      size = m;
      is = cast;
      positive = rw cast (omega (arith, ints, some));
      divides_d = rw (cast, sizes.d_is) is.divides_d;
      divides_p = rw (cast, sizes.p_is) is.divides_p;
      divides_v = rw (cast, sizes.v_is) is.divides_v;
      divides_q = rw (cast, sizes.q_is) is.divides_q;
    }

-- ---- the quotients
quotient_size : (a n : ℤ) (g m : ℕ) → 0 < g → a *ℤ pos g ≡ n → unsigned_abs n ≤ m → unsigned_abs a ≤ m
quotient_size a n g m p e h =
    let f : unsigned_abs a * g ≡ unsigned_abs n = sym (unsigned_abs-mul a (pos g)) ∙ ap unsigned_abs e in
    let one : 1 ≤ g = omega arith in
    let l : unsigned_abs a * 1 ≤ unsigned_abs a * g = mul-le-mul_left (unsigned_abs a) one in
    omega arith

quotient_away : (a n : ℤ) (g m : ℕ) → 0 < g → a *ℤ pos g ≡ n → unsigned_abs n ≤ m → IsAtMostAway m a
quotient_away a n g m p e h = let s = quotient_size a n g m p e h in record { from = omega (arith, ints, s); to = omega (arith, ints, s) }

times_divides : (a n : ℤ) (g k : ℕ) → a *ℤ pos g ≡ n → k ∣ unsigned_abs a → k * g ∣ unsigned_abs n
times_divides a n g k e h =
    let f : unsigned_abs a * g ≡ unsigned_abs n = sym (unsigned_abs-mul a (pos g)) ∙ ap unsigned_abs e in
    rw f at (mul-dvd-mul_right k h g)

pub none_in_common : (f : Quadratic) (g : ℕ) (p v q d : ℤ) → 0 < g → IsDivisorOf f g → p *ℤ pos g ≡ f.p → v *ℤ pos g ≡ f.v → q *ℤ pos g ≡ f.q → d *ℤ pos g ≡ f.d → HaveNoCommonDivisor d p v q
none_in_common f g p v q d some is ep ev eq ed = λ k hd hp hv hq.
    let whole : k * g ∣ g = is.greatest (k * g) (times_divides d f.d g k ed hd) (times_divides p f.p g k ep hp) (times_divides v f.v g k ev hv) (times_divides q f.q g k eq hq) in
    let one : 1 * g ≡ g = omega arith in
    let alone : k * g ∣ 1 * g = rw one whole in
    eq-one_of_dvd-one (dvd_of_mul-dvd-mul_right k some alone)

pub quad_of : (f : Quadratic) (g : ℕ) (p v q d : ℤ) → AreCoefficients f.p f.v f.q f.d → 0 < g → IsDivisorOf f g → p *ℤ pos g ≡ f.p → v *ℤ pos g ≡ f.v → q *ℤ pos g ≡ f.q → d *ℤ pos g ≡ f.d → IsQuad d p v q
quad_of f g p v q d are some is ep ev eq ed =
    let sizes = coefficient_sizes f.p f.v f.q f.d are in
    let some_z : pos 0 <ℤ pos g = omega (arith, ints, some) in
    let whole : pos 0 <ℤ (d *ℤ pos g) = rw ed sizes.positive in
    let positive : pos 0 <ℤ d = positive_lowered d (pos g) some_z whole in
    let dm = quotient_size d f.d g (21 * 10 ^ 28) some ed sizes.d_size in
    record {
      den_in_range = record { from = omega (arith, ints, positive); to = omega (arith, ints, dm) };
      p_in_range = quotient_away p f.p g (63 * 10 ^ 36) some ep sizes.p_size;
      v_in_range = quotient_away v f.v g (14 * 10 ^ 29) some ev sizes.v_size;
      q_in_range = quotient_away q f.q g (11 * 10 ^ 22) some eq sizes.q_size;
      lowest = none_in_common f g p v q d some is ep ev eq ed;
    }

pub lowered_of : (f : Quadratic) (g : ℕ) (p v q d : ℤ) → 0 < g → IsDivisorOf f g → p *ℤ pos g ≡ f.p → v *ℤ pos g ≡ f.v → q *ℤ pos g ≡ f.q → d *ℤ pos g ≡ f.d → IsLowered f (record { p = p; v = v; q = q; d = d })
lowered_of f g p v q d some is ep ev eq ed = record {
  divisor = pos g;
  positive = omega (arith, ints, some);
  p_is = ep;
  v_is = ev;
  q_is = eq;
  d_is = ed;
  lowest = none_in_common f g p v q d some is ep ev eq ed;
}

-- the quotients as code keeps them
pub record QuotientTerms (f : Quadratic) (p v q d : ℤ) : Type 0 where
  pub p_is : held_wide p ≡ p
  pub v_is : held_wide v ≡ v
  pub q_is : held_wide q ≡ q
  pub d_is : held_wide d ≡ d
  pub quad : IsQuad d p v q
  pub lowered : IsLowered f (record { p = p; v = v; q = q; d = d })

pub quotient_terms : (f : Quadratic) (g : ℕ) (p v q d : ℤ) → AreCoefficients f.p f.v f.q f.d → IsDivisorOf f g →
    p *ℤ to_z w128 g ≡ held_wide f.p → v *ℤ to_z w128 g ≡ held_wide f.v → q *ℤ to_z w128 g ≡ held_wide f.q → d *ℤ to_z w128 g ≡ held_wide f.d → QuotientTerms f p v q d
quotient_terms f g p v q d are is hp hv hq hd =
    let sizes = coefficient_sizes f.p f.v f.q f.d are in
    let terms = divisor_terms f g are is in
    let ep : p *ℤ pos g ≡ f.p = rw (terms.is, sizes.p_is) at hp in
    let ev : v *ℤ pos g ≡ f.v = rw (terms.is, sizes.v_is) at hv in
    let eq : q *ℤ pos g ≡ f.q = rw (terms.is, sizes.q_is) at hq in
    let ed : d *ℤ pos g ≡ f.d = rw (terms.is, sizes.d_is) at hd in
    record {
      p_is = read p (63 * 10 ^ 36) (quotient_size p f.p g (63 * 10 ^ 36) terms.some ep sizes.p_size) (omega arith);
      v_is = read v (14 * 10 ^ 29) (quotient_size v f.v g (14 * 10 ^ 29) terms.some ev sizes.v_size) (omega arith);
      q_is = read q (11 * 10 ^ 22) (quotient_size q f.q g (11 * 10 ^ 22) terms.some eq sizes.q_size) (omega arith);
      d_is = read d (21 * 10 ^ 28) (quotient_size d f.d g (21 * 10 ^ 28) terms.some ed sizes.d_size) (omega arith);
      quad = quad_of f g p v q d are terms.some is ep ev eq ed;
      lowered = lowered_of f g p v q d terms.some is ep ev eq ed;
    }
