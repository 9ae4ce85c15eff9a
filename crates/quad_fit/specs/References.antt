-- References: the two or three points on which a curve is levelled, that is lies exactly the tolerance above and below them by turns.
use Rattle.std.specs.Prelude.{◌≡◌, ℕ, ℤ, pos, neg_ℤ, ◌+ℤ◌, ◌-ℤ◌, ◌*ℤ◌, ◌<ℤ◌, Bool, true, false, List, Option, Some, None, MatchOption, ◌⊎◌}
use Rattle.std.specs.List.{All, Contains}
use Rattle.sky_math.specs.Quadratics.{Point, Quadratic, IsWithin, Passes, residual}
use Rattle.sky_math.specs.Triples.{bend, slack, stretch}
use Rattle.sky_units.specs.Limits.{arc_ticks}
use Rattle.quad_fit.specs.Curves.{CurveData, quadratic_of}
use Rattle.quad_fit.specs.declared.exchange.Outside.{Outside}
use Rattle.quad_fit.specs.declared.references.Pair.{Pair}
use Rattle.quad_fit.specs.declared.references.Triple.{Triple}

-- x where a curve bends up, and -x where it bends down: what is said of one is said of the other in a mirror
abbrev pub signed : Bool → ℤ → ℤ
signed true x = x
signed false x = neg_ℤ x

-- ---- three points
pub record IsTriple (t : Triple) : Type 0 where
  pub before : t.first.time <ℤ t.middle.time
  pub after : t.middle.time <ℤ t.last.time
  pub brief : (t.last.time -ℤ t.first.time) <ℤ arc_ticks

pub record IsTripleOf (points : List Point) (t : Triple) : Type 0 where
  pub is : IsTriple t
  pub has_first : Contains points t.first
  pub has_middle : Contains points t.middle
  pub has_last : Contains points t.last

-- the least bend, in its direction, of a curve within the tolerance of three points, times their stretch
abbrev pub least_bend : ℤ → Bool → Triple → ℤ
least_bend tol up t = signed up (bend t.first t.middle t.last) -ℤ slack tol t.first t.last

-- the curve of the least bend: it lies the tolerance beyond the first and the last point, and this side of the middle one
pub record IsLevelled (tol : ℤ) (up : Bool) (t : Triple) (c : CurveData) : Type 0 where
  pub leads : signed up c.bend ≡ least_bend tol up t
  pub over : c.den ≡ stretch t.first t.middle t.last
  pub at_first : signed up (residual (quadratic_of c) t.first) ≡ neg_ℤ (tol *ℤ c.den)
  pub at_middle : signed up (residual (quadratic_of c) t.middle) ≡ tol *ℤ c.den
  pub at_last : signed up (residual (quadratic_of c) t.last) ≡ neg_ℤ (tol *ℤ c.den)

-- ---- two points
pub record IsPairOf (points : List Point) (pair : Pair) : Type 0 where
  pub before : pair.first.time <ℤ pair.last.time
  pub has_first : Contains points pair.first
  pub has_last : Contains points pair.last

-- the least slope of a line within the tolerance of two points, times the time between them
abbrev pub least_slope : ℤ → Pair → ℤ
least_slope tol pair = (pair.last.position -ℤ pair.first.position) -ℤ (tol +ℤ tol)

-- the line of the least slope: it lies the tolerance above the first point, and below the last one
pub record IsLevelLine (tol : ℤ) (pair : Pair) (c : CurveData) : Type 0 where
  pub straight : c.bend ≡ pos 0
  pub leads : c.slope ≡ least_slope tol pair
  pub over : c.den ≡ pair.last.time -ℤ pair.first.time
  pub at_first : residual (quadratic_of c) pair.first ≡ tol *ℤ c.den
  pub at_last : residual (quadratic_of c) pair.last ≡ neg_ℤ (tol *ℤ c.den)

-- ---- exchanges
-- a point that the curve misses, with the side on which the curve lies
pub record IsOutsideOf (tol : ℤ) (c : CurveData) (points : List Point) (o : Outside) : Type 0 where
  pub among : Contains points o.mark
  pub beyond : (tol *ℤ c.den) <ℤ signed o.above (residual (quadratic_of c) o.mark)

-- either nothing was found and the point isn't outside, or something is: what was found before, or the point
abbrev pub IsFarther : CurveData → Point → ℕ → Option Outside → Option Outside → Type 0
IsFarther c x within found result = MatchOption result
    ((found ≡ None) × IsWithin (pos within) (residual (quadratic_of c) x))
    (λ o. (found ≡ Some o) ⊎ ((o.mark ≡ x) × (pos within <ℤ signed o.above (residual (quadratic_of c) x))))

-- no quadratic is within the tolerance of all the points
abbrev pub NonePasses : ℤ → List Point → Type 0
NonePasses tol points = (f : Quadratic) → pos 0 <ℤ f.d → ¬ All (Passes tol f) points

-- three points ask for more bend than a curve has
abbrev pub AsksMoreBend : ℤ → Bool → CurveData → Triple → Type 0
AsksMoreBend tol up c t = (signed up c.bend *ℤ stretch t.first t.middle t.last) <ℤ (least_bend tol up t *ℤ c.den)

-- two points ask for more slope than a line has
abbrev pub AsksMoreSlope : ℤ → CurveData → Pair → Type 0
AsksMoreSlope tol c pair = (c.slope *ℤ (pair.last.time -ℤ pair.first.time)) <ℤ (least_slope tol pair *ℤ c.den)
