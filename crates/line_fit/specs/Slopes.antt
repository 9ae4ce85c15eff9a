-- The slopes of the lines near some spots on one axis are those from a least to a greatest one.
use Rattle.std.specs.Prelude.{◌≡◌, ℕ, ◌<◌, ℤ, pos, ◌-ℤ◌, ◌*ℤ◌, ◌≤ℤ◌, ◌<ℤ◌, ◌↔◌, Option, MatchOption, List, slice_index_or}
use Rattle.std.specs.List.{All}
use Rattle.sky_math.specs.Lists.{EachTwo}
use Rattle.sky_units.specs.FracData.{FracData, IsInLowestTerms}
use Rattle.sky_units.specs.Motion.{points}
use Rattle.sky_units.specs.SpotData.{SpotData}
use Rattle.sky_units.specs.declared.axis.Axis.{Axis}
use Rattle.line_fit.specs.Lines.{Line, IsNearPoint, least_slope, greatest_slope}
use Rattle.line_fit.specs.Quotients.{IsAtMost, IsAtLeast}
use Rattle.line_fit.specs.declared.slopes.Slopes.{Slopes}

-- some line of the slope a/b is within `tol` of all the spots on the axis
abbrev pub HasSlope : Axis → ℤ → List SpotData → ℤ → ℤ → Type 0
HasSlope axis tol spots a b = (f : Line) × (pos 0 <ℤ f.d) × (f.v *ℤ b ≡ a *ℤ f.d) × All (IsNearPoint tol f) (points axis spots)

-- no line is within `tol` of all the spots on the axis
abbrev pub NoSlope : Axis → ℤ → List SpotData → Type 0
NoSlope axis tol spots = (f : Line) → pos 0 <ℤ f.d → ¬ All (IsNearPoint tol f) (points axis spots)

-- the fractions are the least and the greatest of these slopes, in lowest terms
pub record IsSlopeRange (axis : Axis) (tol : ℤ) (spots : List SpotData) (low high : FracData) : Type 0 where
  pub low_is_one : HasSlope axis tol spots low.num low.den
  pub low_is_least : (a b : ℤ) → pos 0 <ℤ b → HasSlope axis tol spots a b → (low.num *ℤ b) ≤ℤ (a *ℤ low.den)
  pub low_is_lowest : IsInLowestTerms low
  pub high_is_one : HasSlope axis tol spots high.num high.den
  pub high_is_greatest : (a b : ℤ) → pos 0 <ℤ b → HasSlope axis tol spots a b → (a *ℤ high.den) ≤ℤ (high.num *ℤ b)
  pub high_is_lowest : IsInLowestTerms high

-- each two spots are of one day, of 10^6 ticks
abbrev pub AreOfOneDay : List SpotData → Type 0
AreOfOneDay = EachTwo (λ (a b : SpotData). (b.epoch -ℤ a.epoch) ≤ℤ pos 1000000)

-- ---- slopes between two bounds
-- the quotient a/b, with b above 0, lies between the bounds
abbrev pub Holds : Slopes → ℤ → ℤ → Type 0
Holds r a b = IsAtMost r.low a b × IsAtLeast r.high a b

-- the bounds have denominators above 0, and something between them
abbrev pub IsFilled : Slopes → Type 0
IsFilled r = IsAtMost r.low r.high.num r.high.den × (pos 0 <ℤ r.low.den) × (pos 0 <ℤ r.high.den)

-- what is left where slopes must be `Wanted` too: filled bounds of exactly these, or nothing
abbrev pub IsNarrowed : Slopes → (ℤ → ℤ → Type 0) → Option Slopes → Type 0
IsNarrowed from Wanted result =
    MatchOption result ((a b : ℤ) → pos 0 <ℤ b → Holds from a b → ¬ Wanted a b)
    (λ r. IsFilled r × ((a b : ℤ) → pos 0 <ℤ b → Holds r a b ↔ (Holds from a b × Wanted a b)))

-- a/b is the slope of some line within `tol` of two spots, the second one later
abbrev pub Suits : Axis → ℤ → ℤ → ℤ → SpotData → SpotData → Type 0
Suits axis tol a b x y = IsAtMost (least_slope axis tol (x, y)) a b × IsAtLeast (greatest_slope axis tol (x, y)) a b

-- a/b suits the spot at the place k and each before it
abbrev pub SuitsEarlier : Axis → ℤ → List SpotData → ℕ → ℤ → ℤ → Type 0
SuitsEarlier axis tol spots k a b = (i : ℕ) (d : SpotData) → i < k → Suits axis tol a b (slice_index_or spots i d) (slice_index_or spots k d)

-- a/b suits the first spot and each other one before the place n
abbrev pub AreSuited : Axis → ℤ → ℤ → ℤ → List SpotData → ℕ → Type 0
AreSuited axis tol a b spots n = (i : ℕ) (d : SpotData) → 0 < i → i < n → Suits axis tol a b (slice_index_or spots 0 d) (slice_index_or spots i d)
