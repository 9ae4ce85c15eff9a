-- The least-squares line of position over time: its residuals add up to 0, and so do the residuals times their times.
use Rattle.std.specs.Prelude.{◌≡◌, ◌≤◌, ℤ, pos, ◌+ℤ◌, ◌-ℤ◌, ◌*ℤ◌, ◌<ℤ◌, List, [], ◌∷◌, length}
use Rattle.std.specs.List.{All}
use Rattle.sky_math.specs.Quadratics.{Point}
use Rattle.sky_units.specs.Arcs.{HaveRisingEpochs}
use Rattle.sky_units.specs.Motion.{points}
use Rattle.sky_units.specs.SpotData.{SpotData}
use Rattle.sky_units.specs.declared.axis.Axis.{Axis}
use Rattle.line_fit.specs.Lines.{Line}

-- the sum of what f gives of each point
abbrev pub total : (Point → ℤ) → List Point → ℤ
total f [] = pos 0
total f (x ∷ rest) = f x +ℤ total f rest

-- how far the point lies above the line, times the line's denominator
abbrev pub residual : Line → Point → ℤ
residual f x = (x.position *ℤ f.d) -ℤ (f.p +ℤ (f.v *ℤ x.time))

-- the line is the least-squares line of the points, by its normal equations
pub record IsLeastSquares (f : Line) (xs : List Point) : Type 0 where
  pub positive : pos 0 <ℤ f.d
  pub residuals : total (residual f) xs ≡ pos 0
  pub moments : total (λ x. residual f x *ℤ x.time) xs ≡ pos 0

-- ---- the same in whole numbers alone
-- how many points there are, as a whole number
abbrev pub count : List Point → ℤ
count xs = pos (length xs)

abbrev pub times : List Point → ℤ
times = total (λ x. x.time)

abbrev pub squares : List Point → ℤ
squares = total (λ x. x.time *ℤ x.time)

abbrev pub positions : List Point → ℤ
positions = total (λ x. x.position)

abbrev pub products : List Point → ℤ
products = total (λ x. x.time *ℤ x.position)

-- the denominator of the least-squares line: it depends on the times alone
abbrev pub time_spread : List Point → ℤ
time_spread xs = (count xs *ℤ squares xs) -ℤ (times xs *ℤ times xs)

-- the least-squares line
abbrev pub line_over : List Point → Line
line_over xs = record {
  p = (positions xs *ℤ squares xs) -ℤ (times xs *ℤ products xs);
  v = (count xs *ℤ products xs) -ℤ (times xs *ℤ positions xs);
  d = time_spread xs;
}

-- of spots of rising epochs the line is the least-squares line on each axis, with one denominator for both, and each other
-- least-squares line has the same residuals: those of this line are its own times the denominator, by its own denominator
pub record HasResiduals (axis : Axis) (spots : List SpotData) (scale : ℤ) : Type 0 where
  pub scaled : (line_over (points axis spots)).d ≡ scale
  pub is_one : IsLeastSquares (line_over (points axis spots)) (points axis spots)
  pub are_all : (f : Line) → IsLeastSquares f (points axis spots) → All (λ x. residual (line_over (points axis spots)) x *ℤ f.d ≡ scale *ℤ residual f x) (points axis spots)

-- the whole numbers that are compared are the residuals of the least-squares lines times one positive number for both axes
abbrev pub ResidualsAreScaled : Type 0
ResidualsAreScaled = (spots : List SpotData) → 2 ≤ length spots → HaveRisingEpochs spots → (scale : ℤ) × (pos 0 <ℤ scale) × ((axis : Axis) → HasResiduals axis spots scale)
