-- Intervals of leading coefficients, and how they are narrowed.
use Rattle.std.specs.Prelude.{ℤ, pos, ◌*ℤ◌, ◌≤ℤ◌, ◌<ℤ◌, ◌↔◌, Option, MatchOption}
use Rattle.sky_units.specs.FracData.{FracData}

-- the coefficients from a lower to an upper end, both among them
pub record Interval : Type 0 where
  pub low : FracData
  pub high : FracData

-- the fraction is at most the quotient a/b, whose b is above 0
abbrev pub IsAtMost : FracData → ℤ → ℤ → Type 0
IsAtMost f a b = (f.num *ℤ b) ≤ℤ (a *ℤ f.den)

-- the fraction is at least the quotient a/b, whose b is above 0
abbrev pub IsAtLeast : FracData → ℤ → ℤ → Type 0
IsAtLeast f a b = (a *ℤ f.den) ≤ℤ (f.num *ℤ b)

-- the quotient a/b, with b above 0, lies in the interval
abbrev pub Holds : Interval → ℤ → ℤ → Type 0
Holds r a b = IsAtMost r.low a b × IsAtLeast r.high a b

-- the interval isn't empty, and its ends have denominators above 0
abbrev pub IsFilled : Interval → Type 0
IsFilled r = IsAtMost r.low r.high.num r.high.den × (pos 0 <ℤ r.low.den) × (pos 0 <ℤ r.high.den)

-- the interval holds exactly the quotients that are `Wanted`
abbrev pub HoldsExactly : (ℤ → ℤ → Type 0) → Interval → Type 0
HoldsExactly Wanted r = (a b : ℤ) → pos 0 <ℤ b → Holds r a b ↔ Wanted a b

-- what is left of an interval where its quotients must be `Wanted` too: a filled interval, or nothing
abbrev pub IsNarrowed : Interval → (ℤ → ℤ → Type 0) → Option Interval → Type 0
IsNarrowed from Wanted result = MatchOption result ((a b : ℤ) → pos 0 <ℤ b → Holds from a b → ¬ Wanted a b) (λ r. IsFilled r × HoldsExactly (λ a b. Holds from a b × Wanted a b) r)
