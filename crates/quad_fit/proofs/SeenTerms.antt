-- The coefficients of a curve as seen from another point: no step of them overflows, and they are what they should be.
use Rattle.std.proofs.Common.{◌≡◌, ℕ, ◌*◌, ◌≤◌, ◌^◌, ℤ, ◌+ℤ◌, ◌-ℤ◌, ◌*ℤ◌, w64, FitsSigned, arith, refl}
use mir.Syntax.{w128}
use Rattle.std.specs.Int.RustNames.{unsigned_abs}
use Rattle.std.proofs.lemmas.Int.{ints, to_z-of_z}
use Rattle.sky_math.proofs.Order.{linear, product_most}
use Rattle.sky_math.proofs.Ring.{ring}
use Rattle.sky_math.specs.Quadratics.{Quadratic}
use Rattle.sky_units.specs.QuadData.{IsAtMostAway}
use Rattle.quad_fit.specs.Curves.{CurveData, IsCurve, quadratic_of}
use Rattle.quad_fit.specs.Lowering.{AreCoefficients, IsSeenFrom}
use Rattle.quad_fit.proofs.Sizes.{den_most, difference_most, held, held_wide, small, sum_most, wide}

-- ---- the coefficients in whole numbers
abbrev pub seen : ℤ → ℤ → CurveData → Quadratic
seen t y c = record {
  p = ((c.start -ℤ (y *ℤ c.den)) -ℤ (c.slope *ℤ (c.first -ℤ t))) +ℤ (c.bend *ℤ ((c.first -ℤ t) *ℤ (c.second -ℤ t)));
  v = c.slope -ℤ (c.bend *ℤ ((c.first -ℤ t) +ℤ (c.second -ℤ t)));
  q = c.bend;
  d = c.den;
}

seen_residual : (s v q d f g t y τ w : ℤ) →
    ((((((s -ℤ (y *ℤ d)) -ℤ (v *ℤ (f -ℤ t))) +ℤ (q *ℤ ((f -ℤ t) *ℤ (g -ℤ t)))) +ℤ ((v -ℤ (q *ℤ ((f -ℤ t) +ℤ (g -ℤ t)))) *ℤ (τ -ℤ t))) +ℤ (q *ℤ ((τ -ℤ t) *ℤ (τ -ℤ t)))) -ℤ ((w -ℤ y) *ℤ d))
    ≡ ((((s -ℤ (v *ℤ f)) +ℤ (q *ℤ (f *ℤ g))) +ℤ ((v -ℤ (q *ℤ (f +ℤ g))) *ℤ τ)) +ℤ (q *ℤ (τ *ℤ τ))) -ℤ (w *ℤ d)
seen_residual s v q d f g t y τ w = simp ring (omega (arith, linear))

pub seen_is : (t y : ℤ) (c : CurveData) → IsSeenFrom t y (quadratic_of c) (seen t y c)
seen_is t y c = record { same_den = refl; same_bend = refl; same_residual = λ x. seen_residual c.start c.slope c.bend c.den c.first c.second t y x.time x.position }

-- ---- the coefficients as code computes them
abbrev From : ℤ → ℤ → ℤ
From f t = held_wide (held (held f -ℤ held t))

abbrev Bend : ℤ → ℤ
Bend q = held_wide (held q)

abbrev Below : ℤ → ℤ → ℤ
Below y d = held_wide (held_wide (held y) *ℤ held_wide d)

abbrev Start : ℤ → ℤ → ℤ → ℤ
Start s y d = held_wide (held_wide s -ℤ Below y d)

abbrev Sloped : ℤ → ℤ → ℤ → ℤ
Sloped v f t = held_wide (held_wide v *ℤ From f t)

abbrev Product : ℤ → ℤ → ℤ → ℤ
Product f g t = held_wide (From f t *ℤ From g t)

abbrev Sum : ℤ → ℤ → ℤ → ℤ
Sum f g t = held_wide (From f t +ℤ From g t)

abbrev Straight : (s v d f t y : ℤ) → ℤ
Straight s v d f t y = held_wide (Start s y d -ℤ Sloped v f t)

abbrev Bent : (q f g t : ℤ) → ℤ
Bent q f g t = held_wide (Bend q *ℤ Product f g t)

abbrev Turned : (q f g t : ℤ) → ℤ
Turned q f g t = held_wide (Bend q *ℤ Sum f g t)

-- the coefficients as they are kept
abbrev Constant : (s v q d f g t y : ℤ) → ℤ
Constant s v q d f g t y = held_wide (Straight s v d f t y +ℤ Bent q f g t)

abbrev Rate : (v q f g t : ℤ) → ℤ
Rate v q f g t = held_wide (held_wide v -ℤ Turned q f g t)

pub record SeenTerms (s v q d f g t y : ℤ) : Type 0 where
  pub start_fits : FitsSigned w128 (held_wide s -ℤ Below y d)
  pub sloped_fits : FitsSigned w128 (held_wide v *ℤ From f t)
  pub straight_fits : FitsSigned w128 (Start s y d -ℤ Sloped v f t)
  pub product_fits : FitsSigned w128 (From f t *ℤ From g t)
  pub bent_fits : FitsSigned w128 (Bend q *ℤ Product f g t)
  pub constant_fits : FitsSigned w128 (Straight s v d f t y +ℤ Bent q f g t)
  pub turned_fits : FitsSigned w128 (Bend q *ℤ Sum f g t)
  pub rate_fits : FitsSigned w128 (held_wide v -ℤ Turned q f g t)
  pub constant_is : Constant s v q d f g t y ≡ ((s -ℤ (y *ℤ d)) -ℤ (v *ℤ (f -ℤ t))) +ℤ (q *ℤ ((f -ℤ t) *ℤ (g -ℤ t)))
  pub rate_is : Rate v q f g t ≡ v -ℤ (q *ℤ ((f -ℤ t) +ℤ (g -ℤ t)))
  pub bend_is : Bend q ≡ q
  pub den_is : held_wide d ≡ d
  pub sizes : AreCoefficients (((s -ℤ (y *ℤ d)) -ℤ (v *ℤ (f -ℤ t))) +ℤ (q *ℤ ((f -ℤ t) *ℤ (g -ℤ t)))) (v -ℤ (q *ℤ ((f -ℤ t) +ℤ (g -ℤ t)))) q d
  pub are : AreCoefficients (Constant s v q d f g t y) (Rate v q f g t) (Bend q) (held_wide d)

-- within a size, and so within a greater one
at_most_away : (a : ℤ) (m n : ℕ) → unsigned_abs a ≤ m → m ≤ n → IsAtMostAway n a
at_most_away a m n h k = record { from = omega (arith, ints); to = omega (arith, ints) }

pub seen_terms : (s v q d f g t y : ℤ) → IsCurve s v q d f g → unsigned_abs t ≤ 30000000 → unsigned_abs y ≤ 180000000 → SeenTerms s v q d f g t y
seen_terms s v q d f g t y c ht hy =
    let fs : FitsSigned w128 s = wide s (10 ^ 30) c.start_size (omega arith) in
    let fv : FitsSigned w128 v = wide v (2 * 10 ^ 23) c.slope_size (omega arith) in
    let fq : FitsSigned w64 q = small q (6 * 10 ^ 15) c.bend_size (omega arith) in
    let fq' : FitsSigned w128 q = wide q (6 * 10 ^ 15) c.bend_size (omega arith) in
    let dm : unsigned_abs d ≤ 10 ^ 22 = den_most d c.den_range in
    let fd : FitsSigned w128 d = wide d (10 ^ 22) dm (omega arith) in
    let ff : FitsSigned w64 f = small f 30000000 c.first_size (omega arith) in
    let fg : FitsSigned w64 g = small g 30000000 c.second_size (omega arith) in
    let ft : FitsSigned w64 t = small t 30000000 ht (omega arith) in
    let fy : FitsSigned w64 y = small y 180000000 hy (omega arith) in
    let fy' : FitsSigned w128 y = wide y 180000000 hy (omega arith) in
    let am : unsigned_abs (f -ℤ t) ≤ 60000000 = difference_most f t 30000000 30000000 c.first_size ht in
    let bm : unsigned_abs (g -ℤ t) ≤ 60000000 = difference_most g t 30000000 30000000 c.second_size ht in
    let fa : FitsSigned w64 (f -ℤ t) = small (f -ℤ t) 60000000 am (omega arith) in
    let fb : FitsSigned w64 (g -ℤ t) = small (g -ℤ t) 60000000 bm (omega arith) in
    let fa' : FitsSigned w128 (f -ℤ t) = wide (f -ℤ t) 60000000 am (omega arith) in
    let fb' : FitsSigned w128 (g -ℤ t) = wide (g -ℤ t) 60000000 bm (omega arith) in
    let lm : unsigned_abs (y *ℤ d) ≤ 1800000000000000000000000000000 = product_most y d 180000000 (10 ^ 22) hy dm in
    let fl : FitsSigned w128 (y *ℤ d) = wide (y *ℤ d) 1800000000000000000000000000000 lm (omega arith) in
    let sm : unsigned_abs (s -ℤ (y *ℤ d)) ≤ 2800000000000000000000000000000 = difference_most s (y *ℤ d) (10 ^ 30) 1800000000000000000000000000000 c.start_size lm in
    let fst : FitsSigned w128 (s -ℤ (y *ℤ d)) = wide (s -ℤ (y *ℤ d)) 2800000000000000000000000000000 sm (omega arith) in
    let vm : unsigned_abs (v *ℤ (f -ℤ t)) ≤ 12000000000000000000000000000000 = product_most v (f -ℤ t) (2 * 10 ^ 23) 60000000 c.slope_size am in
    let fsl : FitsSigned w128 (v *ℤ (f -ℤ t)) = wide (v *ℤ (f -ℤ t)) 12000000000000000000000000000000 vm (omega arith) in
    let rm : unsigned_abs ((s -ℤ (y *ℤ d)) -ℤ (v *ℤ (f -ℤ t))) ≤ 14800000000000000000000000000000 = difference_most (s -ℤ (y *ℤ d)) (v *ℤ (f -ℤ t)) 2800000000000000000000000000000 12000000000000000000000000000000 sm vm in
    let fr : FitsSigned w128 ((s -ℤ (y *ℤ d)) -ℤ (v *ℤ (f -ℤ t))) = wide ((s -ℤ (y *ℤ d)) -ℤ (v *ℤ (f -ℤ t))) 14800000000000000000000000000000 rm (omega arith) in
    let pm : unsigned_abs ((f -ℤ t) *ℤ (g -ℤ t)) ≤ 3600000000000000 = product_most (f -ℤ t) (g -ℤ t) 60000000 60000000 am bm in
    let fp : FitsSigned w128 ((f -ℤ t) *ℤ (g -ℤ t)) = wide ((f -ℤ t) *ℤ (g -ℤ t)) 3600000000000000 pm (omega arith) in
    let km : unsigned_abs (q *ℤ ((f -ℤ t) *ℤ (g -ℤ t))) ≤ 21600000000000000000000000000000 = product_most q ((f -ℤ t) *ℤ (g -ℤ t)) (6 * 10 ^ 15) 3600000000000000 c.bend_size pm in
    let fk : FitsSigned w128 (q *ℤ ((f -ℤ t) *ℤ (g -ℤ t))) = wide (q *ℤ ((f -ℤ t) *ℤ (g -ℤ t))) 21600000000000000000000000000000 km (omega arith) in
    let cm : unsigned_abs (((s -ℤ (y *ℤ d)) -ℤ (v *ℤ (f -ℤ t))) +ℤ (q *ℤ ((f -ℤ t) *ℤ (g -ℤ t)))) ≤ 36400000000000000000000000000000 = sum_most ((s -ℤ (y *ℤ d)) -ℤ (v *ℤ (f -ℤ t))) (q *ℤ ((f -ℤ t) *ℤ (g -ℤ t))) 14800000000000000000000000000000 21600000000000000000000000000000 rm km in
    let fc : FitsSigned w128 (((s -ℤ (y *ℤ d)) -ℤ (v *ℤ (f -ℤ t))) +ℤ (q *ℤ ((f -ℤ t) *ℤ (g -ℤ t)))) = wide (((s -ℤ (y *ℤ d)) -ℤ (v *ℤ (f -ℤ t))) +ℤ (q *ℤ ((f -ℤ t) *ℤ (g -ℤ t)))) 36400000000000000000000000000000 cm (omega arith) in
    let zm : unsigned_abs ((f -ℤ t) +ℤ (g -ℤ t)) ≤ 120000000 = sum_most (f -ℤ t) (g -ℤ t) 60000000 60000000 am bm in
    let fz : FitsSigned w128 ((f -ℤ t) +ℤ (g -ℤ t)) = wide ((f -ℤ t) +ℤ (g -ℤ t)) 120000000 zm (omega arith) in
    let um : unsigned_abs (q *ℤ ((f -ℤ t) +ℤ (g -ℤ t))) ≤ 720000000000000000000000 = product_most q ((f -ℤ t) +ℤ (g -ℤ t)) (6 * 10 ^ 15) 120000000 c.bend_size zm in
    let fu : FitsSigned w128 (q *ℤ ((f -ℤ t) +ℤ (g -ℤ t))) = wide (q *ℤ ((f -ℤ t) +ℤ (g -ℤ t))) 720000000000000000000000 um (omega arith) in
    let nm : unsigned_abs (v -ℤ (q *ℤ ((f -ℤ t) +ℤ (g -ℤ t)))) ≤ 920000000000000000000000 = difference_most v (q *ℤ ((f -ℤ t) +ℤ (g -ℤ t))) (2 * 10 ^ 23) 720000000000000000000000 c.slope_size um in
    let fn : FitsSigned w128 (v -ℤ (q *ℤ ((f -ℤ t) +ℤ (g -ℤ t)))) = wide (v -ℤ (q *ℤ ((f -ℤ t) +ℤ (g -ℤ t)))) 920000000000000000000000 nm (omega arith) in
    let sizes : AreCoefficients (((s -ℤ (y *ℤ d)) -ℤ (v *ℤ (f -ℤ t))) +ℤ (q *ℤ ((f -ℤ t) *ℤ (g -ℤ t)))) (v -ℤ (q *ℤ ((f -ℤ t) +ℤ (g -ℤ t)))) q d = record {
      p_range = at_most_away (((s -ℤ (y *ℤ d)) -ℤ (v *ℤ (f -ℤ t))) +ℤ (q *ℤ ((f -ℤ t) *ℤ (g -ℤ t)))) 36400000000000000000000000000000 (63 * 10 ^ 36) cm (omega arith);
      v_range = at_most_away (v -ℤ (q *ℤ ((f -ℤ t) +ℤ (g -ℤ t)))) 920000000000000000000000 (14 * 10 ^ 29) nm (omega arith);
      q_range = at_most_away q (6 * 10 ^ 15) (11 * 10 ^ 22) c.bend_size (omega arith);
      d_range = let r = c.den_range in record { from = r.from; to = omega (arith, ints, r.to) };
    } in
    record {
      start_fits = simp to_z-of_z fst;
      sloped_fits = simp to_z-of_z fsl;
      straight_fits = simp to_z-of_z fr;
      product_fits = simp to_z-of_z fp;
      bent_fits = simp to_z-of_z fk;
      constant_fits = simp to_z-of_z fc;
      turned_fits = simp to_z-of_z fu;
      rate_fits = simp to_z-of_z fn;
      constant_is = simp to_z-of_z refl;
      rate_is = simp to_z-of_z refl;
      bend_is = simp to_z-of_z refl;
      den_is = to_z-of_z w128 d fd;
      sizes = sizes;
      are = simp to_z-of_z sizes;
    }
