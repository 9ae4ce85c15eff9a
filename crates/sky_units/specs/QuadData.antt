-- A quadratic that is told: the motion of a track on one axis.
use Rattle.std.specs.Prelude.{◌≡◌, ℕ, ℤ, pos, neg_ℤ, ◌*◌, ◌^◌}
use Rattle.std.specs.Int.{◌∣◌}
use Rattle.std.specs.Int.RustNames.{unsigned_abs}
use Rattle.sky_math.specs.Quadratics.{Quadratic}
use Rattle.sky_units.specs.Ranges.{IsBetween}

-- at the epoch start + s, in ticks, the position is base + (p + v*s + q*s^2) / den, in 10^-6 degree
pub record QuadData : Type 0 where
  pub base : ℤ
  pub start : ℤ
  pub den : ℤ
  pub p : ℤ
  pub v : ℤ
  pub q : ℤ

-- the quadratic alone, counted from the base and the start
abbrev pub quadratic_of : QuadData → Quadratic
quadratic_of quad = record { p = quad.p; v = quad.v; q = quad.q; d = quad.den }

-- nothing above 1 divides all four numbers
abbrev pub HaveNoCommonDivisor : ℤ → ℤ → ℤ → ℤ → Type 0
HaveNoCommonDivisor d p v q = (k : ℕ) → k ∣ unsigned_abs d → k ∣ unsigned_abs p → k ∣ unsigned_abs v → k ∣ unsigned_abs q → k ≡ 1

-- x is at most n in absolute value
abbrev pub IsAtMostAway : ℕ → ℤ → Type 0
IsAtMostAway n = IsBetween (neg_ℤ (pos n)) (pos n)

-- the quadratics that are told: their numbers are bounded and in lowest terms
pub record IsQuad (den p v q : ℤ) : Type 0 where
  pub den_in_range : IsBetween (pos 1) (pos (21 * 10 ^ 28)) den
  pub p_in_range : IsAtMostAway (63 * 10 ^ 36) p
  pub v_in_range : IsAtMostAway (14 * 10 ^ 29) v
  pub q_in_range : IsAtMostAway (11 * 10 ^ 22) q
  pub lowest : HaveNoCommonDivisor den p v q
