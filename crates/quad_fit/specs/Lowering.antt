-- A quadratic as seen from another point, and in lowest terms.
use Rattle.std.specs.Prelude.{◌≡◌, ℕ, ℤ, pos, ◌-ℤ◌, ◌*ℤ◌, ◌<ℤ◌, ◌*◌, ◌^◌}
use Rattle.std.specs.Int.{◌∣◌}
use Rattle.std.specs.Int.RustNames.{unsigned_abs}
use Rattle.sky_math.specs.Quadratics.{Point, Quadratic, residual}
use Rattle.sky_units.specs.QuadData.{HaveNoCommonDivisor, IsAtMostAway}
use Rattle.sky_units.specs.Ranges.{IsBetween}

-- the numbers of a quadratic before they are lowered
pub record AreCoefficients (p v q d : ℤ) : Type 0 where
  pub p_range : IsAtMostAway (63 * 10 ^ 36) p
  pub v_range : IsAtMostAway (14 * 10 ^ 29) v
  pub q_range : IsAtMostAway (11 * 10 ^ 22) q
  pub d_range : IsBetween (pos 1) (pos (21 * 10 ^ 28)) d

-- g is f as seen from another time and position: it bends alike, and lies as far above each point
pub record IsSeenFrom (time position : ℤ) (f g : Quadratic) : Type 0 where
  pub same_den : g.d ≡ f.d
  pub same_bend : g.q ≡ f.q
  pub same_residual : (x : Point) → residual g (record { time = x.time -ℤ time; position = x.position -ℤ position }) ≡ residual f x

-- the greatest number that divides all four numbers
pub record IsDivisorOf (f : Quadratic) (g : ℕ) : Type 0 where
  pub divides_d : g ∣ unsigned_abs f.d
  pub divides_p : g ∣ unsigned_abs f.p
  pub divides_v : g ∣ unsigned_abs f.v
  pub divides_q : g ∣ unsigned_abs f.q
  pub greatest : (k : ℕ) → k ∣ unsigned_abs f.d → k ∣ unsigned_abs f.p → k ∣ unsigned_abs f.v → k ∣ unsigned_abs f.q → k ∣ g

-- g is f in lowest terms
pub record IsLowered (f g : Quadratic) : Type 0 where
  pub divisor : ℤ
  pub positive : pos 0 <ℤ divisor
  pub p_is : g.p *ℤ divisor ≡ f.p
  pub v_is : g.v *ℤ divisor ≡ f.v
  pub q_is : g.q *ℤ divisor ≡ f.q
  pub d_is : g.d *ℤ divisor ≡ f.d
  pub lowest : HaveNoCommonDivisor g.d g.p g.v g.q
