-- The reported quadratic: of those that pass all detections the one of least acceleration, then of least rate, then of least constant.
use Rattle.std.specs.Prelude.{◌≡◌, ℤ, pos, false, ◌+ℤ◌, ◌-ℤ◌, ◌*ℤ◌, ◌↔◌, List, [], ◌∷◌, map}
use Rattle.std.specs.Int.{int_div_euclid}
use Rattle.std.specs.Int.RustNames.{unsigned_abs}
use Rattle.std.specs.List.{All}
use Rattle.std.specs.Ordering.{int_cmp, is_gt, ordering_then}
use Rattle.std.specs.declared.cmp.Ordering.{Ordering}
use Rattle.sky_math.specs.Circle.{wrapped}
use Rattle.sky_math.specs.Quadratics.{Point, Quadratic, Admits, IsAdmitted, Passes}
use Rattle.sky_units.specs.Motion.{AxisAdmits, acceleration, tolerance}
use Rattle.sky_units.specs.QuadData.{QuadData, HaveNoCommonDivisor, quadratic_of}
use Rattle.sky_units.specs.SettingsData.{SettingsData}
use Rattle.sky_units.specs.SpotData.{SpotData}
use Rattle.sky_units.specs.declared.axis.Axis.{Axis}
use Rattle.sky_units.specs.declared.axis.Axis.TheVariants.{Ra, Dec}

-- where a spot lies on an axis
abbrev pub position_of : Axis → SpotData → ℤ
position_of Ra spot = spot.ra
position_of Dec spot = spot.dec

-- where a spot lies as seen from a position; right ascension goes the short way round the circle
abbrev pub offset_from : Axis → ℤ → SpotData → ℤ
offset_from Ra base spot = wrapped (spot.ra -ℤ base)
offset_from Dec base spot = spot.dec -ℤ base

-- a spot on an axis, its position counted from a base and its time from an origin
abbrev pub point_at : Axis → ℤ → ℤ → SpotData → Point
point_at axis base origin spot = record { time = spot.epoch -ℤ origin; position = offset_from axis base spot }

-- the position of the first spot
abbrev pub first_position : Axis → List SpotData → ℤ
first_position axis [] = pos 0
first_position axis (first ∷ rest) = position_of axis first

-- the epoch of the last spot, or this one where there is none
abbrev pub last_epoch : ℤ → List SpotData → ℤ
last_epoch epoch [] = epoch
last_epoch epoch (first ∷ rest) = last_epoch first.epoch rest

-- the epoch in the middle between the first and the last spot, rounded down
abbrev pub middle_epoch : List SpotData → ℤ
middle_epoch [] = pos 0
middle_epoch (first ∷ rest) = int_div_euclid (first.epoch +ℤ last_epoch first.epoch rest) (pos 2)

-- how two quadratics compare: by the size of q/d, then by v/d, then by p/d
abbrev pub quadratic_cmp : Quadratic → Quadratic → Ordering
quadratic_cmp f g =
    ordering_then (int_cmp (pos (unsigned_abs f.q) *ℤ g.d) (pos (unsigned_abs g.q) *ℤ f.d))
    (ordering_then (int_cmp (f.v *ℤ g.d) (g.v *ℤ f.d)) (int_cmp (f.p *ℤ g.d) (g.p *ℤ f.d)))

-- it is admitted, and passes all the spots, as counted from its own base and start
pub record PassesAll (axis : Axis) (settings : SettingsData) (base start : ℤ) (f : Quadratic) (spots : List SpotData) : Type 0 where
  pub admitted : IsAdmitted (acceleration axis settings) f
  pub passes : All (Passes (tolerance axis settings) f) (map (point_at axis base start) spots)

-- the quadratic that a report tells of two or more spots, in order of time, on an axis
pub record IsReported (axis : Axis) (settings : SettingsData) (spots : List SpotData) (quad : QuadData) : Type 0 where
  pub base_is : quad.base ≡ first_position axis spots
  pub start_is : quad.start ≡ middle_epoch spots
  pub passes : PassesAll axis settings quad.base quad.start (quadratic_of quad) spots
  pub least : (f : Quadratic) → PassesAll axis settings quad.base quad.start f spots → is_gt (quadratic_cmp (quadratic_of quad) f) ≡ false
  pub lowest : HaveNoCommonDivisor quad.den quad.p quad.v quad.q

-- whether an axis admits spots does not depend on the origin of time
abbrev pub OriginIsFree : Type 0
OriginIsFree = (axis : Axis) (settings : SettingsData) (spots : List SpotData) (origin : ℤ) → AxisAdmits axis settings spots ↔ Admits (acceleration axis settings) (tolerance axis settings) (map (point_at axis (first_position axis spots) origin) spots)

-- spots have one reported quadratic on an axis at most
abbrev pub ReportedIsUnique : Type 0
ReportedIsUnique = (axis : Axis) (settings : SettingsData) (spots : List SpotData) (one other : QuadData) → IsReported axis settings spots one → IsReported axis settings spots other → one ≡ other
