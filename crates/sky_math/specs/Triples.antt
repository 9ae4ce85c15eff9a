-- The leading coefficients of the quadratics within a tolerance of three points are those of one interval.
use Rattle.std.specs.Prelude.{ℤ, ◌+ℤ◌, ◌-ℤ◌, ◌*ℤ◌}
use Rattle.sky_math.specs.Quadratics.{Point, IsWithin}

-- what the second slope of three points exceeds the first by, times both stretches of time
abbrev pub bend : Point → Point → Point → ℤ
bend x y z = ((z.position -ℤ y.position) *ℤ (y.time -ℤ x.time)) -ℤ ((y.position -ℤ x.position) *ℤ (z.time -ℤ y.time))

-- the product of the three stretches of time between three points
abbrev pub stretch : Point → Point → Point → ℤ
stretch x y z = ((y.time -ℤ x.time) *ℤ (z.time -ℤ y.time)) *ℤ (z.time -ℤ x.time)

-- twice the tolerance, over the whole stretch of time of three points
abbrev pub slack : ℤ → Point → Point → ℤ
slack tol x z = (tol +ℤ tol) *ℤ (z.time -ℤ x.time)

-- a/b, with b above 0, is the leading coefficient of some quadratic within `tol` of the three points
abbrev pub Suits : ℤ → ℤ → ℤ → Point → Point → Point → Type 0
Suits tol a b x y z = IsWithin (slack tol x z *ℤ b) ((a *ℤ stretch x y z) -ℤ (bend x y z *ℤ b))
