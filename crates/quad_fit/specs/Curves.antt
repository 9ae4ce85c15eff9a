-- Curves of time in Newton's form: (start + (slope + bend * (t - second)) * (t - first)) / den at the time t.
use Rattle.std.specs.Prelude.{◌*◌, ◌≤◌, ◌^◌, ℤ, pos, ◌+ℤ◌, ◌-ℤ◌, ◌*ℤ◌}
use Rattle.std.specs.Int.RustNames.{unsigned_abs}
use Rattle.sky_math.specs.Quadratics.{Quadratic}
use Rattle.sky_units.specs.Ranges.{IsBetween}

pub record CurveData : Type 0 where
  pub start : ℤ
  pub slope : ℤ
  pub bend : ℤ
  pub den : ℤ
  pub first : ℤ
  pub second : ℤ

-- the same curve by its coefficients
abbrev pub quadratic_of : CurveData → Quadratic
quadratic_of c = record {
  p = (c.start -ℤ (c.slope *ℤ c.first)) +ℤ (c.bend *ℤ (c.first *ℤ c.second));
  v = c.slope -ℤ (c.bend *ℤ (c.first +ℤ c.second));
  q = c.bend;
  d = c.den;
}

-- the numbers of a curve that stays near an arc
pub record IsCurve (start slope bend den first second : ℤ) : Type 0 where
  pub start_size : unsigned_abs start ≤ 10 ^ 30
  pub slope_size : unsigned_abs slope ≤ 2 * 10 ^ 23
  pub bend_size : unsigned_abs bend ≤ 6 * 10 ^ 15
  pub den_range : IsBetween (pos 1) (pos (10 ^ 22)) den
  pub first_size : unsigned_abs first ≤ 30000000
  pub second_size : unsigned_abs second ≤ 30000000

abbrev pub IsCurveData : CurveData → Type 0
IsCurveData c = IsCurve c.start c.slope c.bend c.den c.first c.second
