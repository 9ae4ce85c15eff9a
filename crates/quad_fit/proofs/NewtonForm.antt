-- Newton's form of a curve and its coefficients tell the same residuals.
use Rattle.std.proofs.Common.{◌≡◌, arith}
use Rattle.std.specs.Prelude.{ℤ, ◌+ℤ◌, ◌-ℤ◌, ◌*ℤ◌}
use Rattle.sky_math.proofs.Order.{linear}
use Rattle.sky_math.proofs.Ring.{ring}

pub residual_is : (s v q d f g t y : ℤ) →
    (((((s -ℤ (v *ℤ f)) +ℤ (q *ℤ (f *ℤ g))) +ℤ ((v -ℤ (q *ℤ (f +ℤ g))) *ℤ t)) +ℤ (q *ℤ (t *ℤ t))) -ℤ (y *ℤ d))
    ≡ (s +ℤ ((v +ℤ (q *ℤ (t -ℤ g))) *ℤ (t -ℤ f))) -ℤ (y *ℤ d)
residual_is s v q d f g t y = simp ring (omega (arith, linear))
