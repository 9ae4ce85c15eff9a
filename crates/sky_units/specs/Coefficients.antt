-- The leading coefficients of the quadratics within a tolerance of spots, whatever their acceleration.
use Rattle.std.specs.Prelude.{ℤ, pos, ◌*ℤ◌, ◌≤ℤ◌, ◌<ℤ◌, List}
use Rattle.std.specs.List.{All}
use Rattle.sky_math.specs.Quadratics.{Quadratic, Passes, PassesWith}
use Rattle.sky_units.specs.FracData.{FracData, IsInLowestTerms}
use Rattle.sky_units.specs.Motion.{points}
use Rattle.sky_units.specs.SpotData.{SpotData}
use Rattle.sky_units.specs.declared.axis.Axis.{Axis}

-- some quadratic with the leading coefficient a/b is within `tol` of all the spots on the axis
abbrev pub HasCoefficient : Axis → ℤ → List SpotData → ℤ → ℤ → Type 0
HasCoefficient axis tol spots a b = PassesWith tol a b (points axis spots)

-- no quadratic is within `tol` of all the spots on the axis
abbrev pub NoCoefficient : Axis → ℤ → List SpotData → Type 0
NoCoefficient axis tol spots = (f : Quadratic) → pos 0 <ℤ f.d → ¬ All (Passes tol f) (points axis spots)

-- the fractions are the least and the greatest of these leading coefficients, in lowest terms
pub record IsCoefficientRange (axis : Axis) (tol : ℤ) (spots : List SpotData) (low high : FracData) : Type 0 where
  pub low_is_one : HasCoefficient axis tol spots low.num low.den
  pub low_is_least : (a b : ℤ) → pos 0 <ℤ b → HasCoefficient axis tol spots a b → (low.num *ℤ b) ≤ℤ (a *ℤ low.den)
  pub low_is_lowest : IsInLowestTerms low
  pub high_is_one : HasCoefficient axis tol spots high.num high.den
  pub high_is_greatest : (a b : ℤ) → pos 0 <ℤ b → HasCoefficient axis tol spots a b → (a *ℤ high.den) ≤ℤ (high.num *ℤ b)
  pub high_is_lowest : IsInLowestTerms high
