-- The leading coefficients of the quadratics within a tolerance of three spots, told by the two steps between them.
use Rattle.std.specs.Prelude.{◌≡◌, ℤ, pos, neg_ℤ, ◌+ℤ◌, ◌-ℤ◌, ◌*ℤ◌, ◌≤ℤ◌, ◌<ℤ◌}
use Rattle.sky_units.specs.FracData.{FracData}
use Rattle.sky_units.specs.Motion.{offset}
use Rattle.sky_units.specs.Limits.{arc_ticks}
use Rattle.sky_units.specs.SpotData.{SpotData}
use Rattle.sky_units.specs.declared.axis.Axis.{Axis}

-- how much later a spot is than another one, and where it lies on an axis as seen from it
pub record StepData : Type 0 where
  pub time : ℤ
  pub rise : ℤ

-- a step between two spots of an arc
pub record IsStep (time rise : ℤ) : Type 0 where
  pub later : pos 0 <ℤ time
  pub brief : time <ℤ arc_ticks
  pub above : neg_ℤ (pos 90000000) <ℤ rise
  pub below : rise <ℤ pos 90000000

abbrev pub step_of : Axis → SpotData → SpotData → StepData
step_of axis from to = record { time = to.epoch -ℤ from.epoch; rise = offset axis from to }

-- what the second slope of two steps exceeds the first by, times both times
abbrev pub bend_of : StepData → StepData → ℤ
bend_of s t = (t.rise *ℤ s.time) -ℤ (s.rise *ℤ t.time)

-- twice the tolerance, over the time of both steps
abbrev pub slack_of : ℤ → StepData → StepData → ℤ
slack_of tol s t = (tol +ℤ tol) *ℤ (s.time +ℤ t.time)

-- the product of the times of the steps and of both together
abbrev pub stretch_of : StepData → StepData → ℤ
stretch_of s t = (s.time *ℤ t.time) *ℤ (s.time +ℤ t.time)

-- the least and the greatest leading coefficient of the quadratics within the tolerance of three spots
abbrev pub least_coefficient : ℤ → StepData → StepData → FracData
least_coefficient tol s t = record { num = bend_of s t -ℤ slack_of tol s t; den = stretch_of s t }

abbrev pub greatest_coefficient : ℤ → StepData → StepData → FracData
greatest_coefficient tol s t = record { num = bend_of s t +ℤ slack_of tol s t; den = stretch_of s t }

-- the fractions are the least and the greatest leading coefficient of three spots
pub record AreEnds (axis : Axis) (tol : ℤ) (x y z : SpotData) (low high : FracData) : Type 0 where
  pub low_is : low ≡ least_coefficient tol (step_of axis x y) (step_of axis y z)
  pub high_is : high ≡ greatest_coefficient tol (step_of axis x y) (step_of axis y z)

-- one fraction is at most another one
abbrev pub IsAtMost : FracData → FracData → Type 0
IsAtMost f g = (f.num *ℤ g.den) ≤ℤ (g.num *ℤ f.den)

-- the greatest leading coefficient of an acceleration, over twice the squared ticks of a day
abbrev pub coefficient_of : ℤ → FracData
coefficient_of acc = record { num = acc; den = pos 2000000000000 }

-- some coefficient from the least to the greatest one has an acceleration of at most `acc`
abbrev pub KeepsLimit : ℤ → FracData → FracData → Type 0
KeepsLimit acc low high = IsAtMost low (coefficient_of acc) × IsAtMost (coefficient_of (neg_ℤ acc)) high

-- coefficients from a least to a greatest one, and others, have some in common
abbrev pub HaveCommon : FracData → FracData → FracData → FracData → Type 0
HaveCommon low high other_low other_high = IsAtMost low other_high × IsAtMost other_low high
