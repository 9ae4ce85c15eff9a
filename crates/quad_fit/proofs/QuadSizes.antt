-- The sums and products over a told quadratic fit their types, and are read from their bits as they are.
use Rattle.std.proofs.Common.{◌≡◌, ℕ, ◌*◌, ◌≤◌, ◌^◌, ℤ, pos, ◌+ℤ◌, ◌-ℤ◌, ◌*ℤ◌, ◌≤ℤ◌, w64, FitsSigned, arith, refl}
use mir.Syntax.{w128}
use Rattle.std.specs.Int.RustNames.{unsigned_abs}
use Rattle.std.proofs.lemmas.Int.{ints, to_z-of_z}
use Rattle.sky_math.proofs.Order.{mul_not_negative, product_most}
use Rattle.sky_units.specs.QuadData.{IsQuad}
use Rattle.sky_math.specs.Quadratics.{IsWithin}
use Rattle.sky_units.specs.Ranges.{IsDeclination, IsEpoch, IsRightAscension}
use Rattle.quad_fit.proofs.Sizes.{difference_most, held, held_wide, small, sum_most}

very_wide : (a : ℤ) (m : ℕ) → unsigned_abs a ≤ m → m ≤ 147 * 10 ^ 36 → FitsSigned w128 a
very_wide a m p q = omega (arith, ints)

-- the size of each number of a told quadratic
pub record QuadSizes (d p v q : ℤ) : Type 0 where
  pub d_size : unsigned_abs d ≤ 21 * 10 ^ 28
  pub p_size : unsigned_abs p ≤ 63 * 10 ^ 36
  pub v_size : unsigned_abs v ≤ 14 * 10 ^ 29
  pub q_size : unsigned_abs q ≤ 11 * 10 ^ 22
  pub positive : pos 0 ≤ℤ d

pub quad_sizes : (d p v q : ℤ) → IsQuad d p v q → QuadSizes d p v q
quad_sizes d p v q is =
    let dr = is.den_in_range in
    let pr = is.p_in_range in
    let vr = is.v_in_range in
    let qr = is.q_in_range in
    record {
      d_size = omega (arith, ints, dr.from, dr.to);
      p_size = omega (arith, ints, pr.from, pr.to);
      v_size = omega (arith, ints, vr.from, vr.to);
      q_size = omega (arith, ints, qr.from, qr.to);
      positive = omega (arith, ints, dr.from);
    }

-- ---- the residual of a told quadratic
abbrev Moved : ℤ → ℤ → ℤ
Moved v s = held_wide (held_wide v *ℤ held_wide (held s))

abbrev Square : ℤ → ℤ
Square s = held_wide (held_wide (held s) *ℤ held_wide (held s))

abbrev Bent : ℤ → ℤ → ℤ
Bent q s = held_wide (held_wide q *ℤ Square s)

abbrev Sloped : ℤ → ℤ → ℤ → ℤ
Sloped p v s = held_wide (held_wide p +ℤ Moved v s)

abbrev Value : ℤ → ℤ → ℤ → ℤ → ℤ
Value p v q s = held_wide (Sloped p v s +ℤ Bent q s)

abbrev Below : ℤ → ℤ → ℤ
Below y d = held_wide (held_wide (held y) *ℤ held_wide d)

-- a residual as code computes it: no step of it overflows, and it is what it should be
pub record ResidualTerms (d p v q s y : ℤ) : Type 0 where
  pub moved_fits : FitsSigned w128 (held_wide v *ℤ held_wide (held s))
  pub sloped_fits : FitsSigned w128 (held_wide p +ℤ Moved v s)
  pub square_fits : FitsSigned w128 (held_wide (held s) *ℤ held_wide (held s))
  pub bent_fits : FitsSigned w128 (held_wide q *ℤ Square s)
  pub value_fits : FitsSigned w128 (Sloped p v s +ℤ Bent q s)
  pub below_fits : FitsSigned w128 (held_wide (held y) *ℤ held_wide d)
  pub result_fits : FitsSigned w128 (Value p v q s -ℤ Below y d)
  pub is : held_wide (Value p v q s -ℤ Below y d) ≡ ((p +ℤ (v *ℤ s)) +ℤ (q *ℤ (s *ℤ s))) -ℤ (y *ℤ d)

pub residual_terms : (d p v q s y : ℤ) → IsQuad d p v q → unsigned_abs s ≤ 15000000 → unsigned_abs y ≤ 180000000 → ResidualTerms d p v q s y
residual_terms d p v q s y is hs hy =
    let sizes = quad_sizes d p v q is in
    let fp : FitsSigned w128 p = very_wide p (63 * 10 ^ 36) sizes.p_size (omega arith) in
    let fv : FitsSigned w128 v = very_wide v (14 * 10 ^ 29) sizes.v_size (omega arith) in
    let fq : FitsSigned w128 q = very_wide q (11 * 10 ^ 22) sizes.q_size (omega arith) in
    let fd : FitsSigned w128 d = very_wide d (21 * 10 ^ 28) sizes.d_size (omega arith) in
    let fs : FitsSigned w64 s = small s 15000000 hs (omega arith) in
    let fs' : FitsSigned w128 s = very_wide s 15000000 hs (omega arith) in
    let fy : FitsSigned w64 y = small y 180000000 hy (omega arith) in
    let fy' : FitsSigned w128 y = very_wide y 180000000 hy (omega arith) in
    let mm : unsigned_abs (v *ℤ s) ≤ 21000000000000000000000000000000000000 = product_most v s (14 * 10 ^ 29) 15000000 sizes.v_size hs in
    let fm : FitsSigned w128 (v *ℤ s) = very_wide (v *ℤ s) 21000000000000000000000000000000000000 mm (omega arith) in
    let sm : unsigned_abs (s *ℤ s) ≤ 225000000000000 = product_most s s 15000000 15000000 hs hs in
    let fss : FitsSigned w128 (s *ℤ s) = very_wide (s *ℤ s) 225000000000000 sm (omega arith) in
    let bm : unsigned_abs (q *ℤ (s *ℤ s)) ≤ 24750000000000000000000000000000000000 = product_most q (s *ℤ s) (11 * 10 ^ 22) 225000000000000 sizes.q_size sm in
    let fb : FitsSigned w128 (q *ℤ (s *ℤ s)) = very_wide (q *ℤ (s *ℤ s)) 24750000000000000000000000000000000000 bm (omega arith) in
    let lm : unsigned_abs (y *ℤ d) ≤ 37800000000000000000000000000000000000 = product_most y d 180000000 (21 * 10 ^ 28) hy sizes.d_size in
    let fl : FitsSigned w128 (y *ℤ d) = very_wide (y *ℤ d) 37800000000000000000000000000000000000 lm (omega arith) in
    let am : unsigned_abs (p +ℤ (v *ℤ s)) ≤ 84000000000000000000000000000000000000 = sum_most p (v *ℤ s) (63 * 10 ^ 36) 21000000000000000000000000000000000000 sizes.p_size mm in
    let fa : FitsSigned w128 (p +ℤ (v *ℤ s)) = very_wide (p +ℤ (v *ℤ s)) 84000000000000000000000000000000000000 am (omega arith) in
    let cm : unsigned_abs ((p +ℤ (v *ℤ s)) +ℤ (q *ℤ (s *ℤ s))) ≤ 108750000000000000000000000000000000000 = sum_most (p +ℤ (v *ℤ s)) (q *ℤ (s *ℤ s)) 84000000000000000000000000000000000000 24750000000000000000000000000000000000 am bm in
    let fc : FitsSigned w128 ((p +ℤ (v *ℤ s)) +ℤ (q *ℤ (s *ℤ s))) = very_wide ((p +ℤ (v *ℤ s)) +ℤ (q *ℤ (s *ℤ s))) 108750000000000000000000000000000000000 cm (omega arith) in
    let rm : unsigned_abs (((p +ℤ (v *ℤ s)) +ℤ (q *ℤ (s *ℤ s))) -ℤ (y *ℤ d)) ≤ 146550000000000000000000000000000000000 = difference_most ((p +ℤ (v *ℤ s)) +ℤ (q *ℤ (s *ℤ s))) (y *ℤ d) 108750000000000000000000000000000000000 37800000000000000000000000000000000000 cm lm in
    let fr : FitsSigned w128 (((p +ℤ (v *ℤ s)) +ℤ (q *ℤ (s *ℤ s))) -ℤ (y *ℤ d)) = very_wide (((p +ℤ (v *ℤ s)) +ℤ (q *ℤ (s *ℤ s))) -ℤ (y *ℤ d)) 146550000000000000000000000000000000000 rm (omega arith) in
    record {
      moved_fits = simp to_z-of_z fm;
      sloped_fits = simp to_z-of_z fa;
      square_fits = simp to_z-of_z fss;
      bent_fits = simp to_z-of_z fb;
      value_fits = simp to_z-of_z fc;
      below_fits = simp to_z-of_z fl;
      result_fits = simp to_z-of_z fr;
      is = simp to_z-of_z refl;
    }

-- ---- a bound times the denominator
pub record BoundTerms (bound d : ℤ) : Type 0 where
  pub fits : FitsSigned w128 (held_wide (held bound) *ℤ held_wide d)
  pub is : held_wide (held_wide (held bound) *ℤ held_wide d) ≡ bound *ℤ d
  pub not_negative : pos 0 ≤ℤ (bound *ℤ d)

pub bound_terms : (bound d p v q : ℤ) → IsQuad d p v q → pos 0 ≤ℤ bound → bound ≤ℤ pos 1000000 → BoundTerms bound d
bound_terms bound d p v q is from to =
    let sizes = quad_sizes d p v q is in
    let bm : unsigned_abs bound ≤ 1000000 = omega (arith, ints) in
    let fb : FitsSigned w64 bound = small bound 1000000 bm (omega arith) in
    let fb' : FitsSigned w128 bound = very_wide bound 1000000 bm (omega arith) in
    let fd : FitsSigned w128 d = very_wide d (21 * 10 ^ 28) sizes.d_size (omega arith) in
    let most : unsigned_abs (bound *ℤ d) ≤ 210000000000000000000000000000000000 = product_most bound d 1000000 (21 * 10 ^ 28) bm sizes.d_size in
    let fm : FitsSigned w128 (bound *ℤ d) = very_wide (bound *ℤ d) 210000000000000000000000000000000000 most (omega arith) in
    record { fits = simp to_z-of_z fm; is = simp to_z-of_z refl; not_negative = mul_not_negative bound d from sizes.positive }

-- ---- twice the leading coefficient, in days
pub record TwiceTerms (q : ℤ) : Type 0 where
  pub fits : FitsSigned w128 (pos 2000000000000 *ℤ held_wide q)
  pub is : held_wide (pos 2000000000000 *ℤ held_wide q) ≡ pos 2000000000000 *ℤ q

pub twice_terms : (d p v q : ℤ) → IsQuad d p v q → TwiceTerms q
twice_terms d p v q is =
    let sizes = quad_sizes d p v q is in
    let fq : FitsSigned w128 q = very_wide q (11 * 10 ^ 22) sizes.q_size (omega arith) in
    let most : unsigned_abs (pos 2000000000000 *ℤ q) ≤ 220000000000000000000000000000000000 = product_most (pos 2000000000000) q 2000000000000 (11 * 10 ^ 22) (omega (arith, ints)) sizes.q_size in
    let fm : FitsSigned w128 (pos 2000000000000 *ℤ q) = very_wide (pos 2000000000000 *ℤ q) 220000000000000000000000000000000000 most (omega arith) in
    record { fits = simp to_z-of_z fm; is = simp to_z-of_z refl }

-- ---- differences of positions
pub ra_fits : (x y : ℤ) → IsRightAscension x → IsRightAscension y → FitsSigned w64 (held x -ℤ held y)
ra_fits x y h k = omega (arith, ints, h.from, h.to, k.from, k.to)

pub ra_read : (x y : ℤ) → IsRightAscension x → IsRightAscension y → held (held x -ℤ held y) ≡ x -ℤ y
ra_read x y h k = omega (arith, ints, h.from, h.to, k.from, k.to)

pub dec_fits : (x y : ℤ) → IsDeclination x → IsDeclination y → FitsSigned w64 (held x -ℤ held y)
dec_fits x y h k = omega (arith, ints, h.from, h.to, k.from, k.to)

pub dec_read : (x y : ℤ) → IsDeclination x → IsDeclination y → held (held x -ℤ held y) ≡ x -ℤ y
dec_read x y h k = omega (arith, ints, h.from, h.to, k.from, k.to)

pub dec_size : (x y : ℤ) → IsDeclination x → IsDeclination y → unsigned_abs (x -ℤ y) ≤ 180000000
dec_size x y h k = omega (arith, ints, h.from, h.to, k.from, k.to)

-- ---- a time from the start of a quadratic
pub time_read : (x s : ℤ) → IsEpoch x → FitsSigned w64 s → IsWithin (pos 15000000) (x -ℤ s) → held (held x -ℤ held s) ≡ x -ℤ s
time_read x s h f w = omega (arith, ints, h.from, h.to, w.0, w.1)

pub time_size : (x s : ℤ) → IsWithin (pos 15000000) (x -ℤ s) → unsigned_abs (x -ℤ s) ≤ 15000000
time_size x s w = omega (arith, ints, w.0, w.1)
