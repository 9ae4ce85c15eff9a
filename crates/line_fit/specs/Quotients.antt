-- Slopes as quotients of whole numbers, compared by cross products.
use Rattle.std.specs.Prelude.{ℤ, pos, neg_ℤ, ◌*ℤ◌, ◌≤ℤ◌}
use Rattle.sky_units.specs.FracData.{FracData}
use Rattle.sky_units.specs.Ranges.{IsBetween}

-- the numbers of a slope that is kept: at most 10^9 above, and from 1 to 10^6 below
pub record IsSlope (num den : ℤ) : Type 0 where
  pub num_in_range : IsBetween (neg_ℤ (pos 1000000000)) (pos 1000000000) num
  pub den_in_range : IsBetween (pos 1) (pos 1000000) den

-- the fraction is at most the quotient a/b, whose b is above 0
abbrev pub IsAtMost : FracData → ℤ → ℤ → Type 0
IsAtMost f a b = (f.num *ℤ b) ≤ℤ (a *ℤ f.den)

-- the fraction is at least the quotient a/b, whose b is above 0
abbrev pub IsAtLeast : FracData → ℤ → ℤ → Type 0
IsAtLeast f a b = (a *ℤ f.den) ≤ℤ (f.num *ℤ b)
