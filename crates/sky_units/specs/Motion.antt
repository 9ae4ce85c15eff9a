-- How spots move on each axis: an axis admits spots where some admitted quadratic passes all of them.
use Rattle.std.specs.Prelude.{ℤ, ◌-ℤ◌, List, [], ◌∷◌, map}
use Rattle.sky_math.specs.Circle.{wrapped}
use Rattle.sky_math.specs.Quadratics.{Point, Admits}
use Rattle.sky_units.specs.SettingsData.{SettingsData}
use Rattle.sky_units.specs.SpotData.{SpotData}
use Rattle.sky_units.specs.declared.axis.Axis.{Axis}
use Rattle.sky_units.specs.declared.axis.Axis.TheVariants.{Ra, Dec}

-- where `to` lies as seen from `from`, in 10^-6 degree; right ascension goes the short way round the circle
abbrev pub offset : Axis → SpotData → SpotData → ℤ
offset Ra from to = wrapped (to.ra -ℤ from.ra)
offset Dec from to = to.dec -ℤ from.dec

-- a spot on an axis, its time and its position counted from those of `from`
abbrev pub point_from : Axis → SpotData → SpotData → Point
point_from axis from spot = record { time = spot.epoch -ℤ from.epoch; position = offset axis from spot }

-- the spots on an axis, counted from the first of them
abbrev pub points : Axis → List SpotData → List Point
points axis [] = []
points axis (first ∷ rest) = map (point_from axis first) (first ∷ rest)

-- the tolerance of an axis
abbrev pub tolerance : Axis → SettingsData → ℤ
tolerance Ra s = s.tol_ra
tolerance Dec s = s.tol_dec

-- the greatest acceleration of an axis
abbrev pub acceleration : Axis → SettingsData → ℤ
acceleration Ra s = s.acc_ra
acceleration Dec s = s.acc_dec

-- some admitted quadratic of the axis passes all the spots
abbrev pub AxisAdmits : Axis → SettingsData → List SpotData → Type 0
AxisAdmits axis settings spots = Admits (acceleration axis settings) (tolerance axis settings) (points axis spots)

-- both axes admit the spots
abbrev pub Fits : SettingsData → List SpotData → Type 0
Fits settings spots = AxisAdmits Ra settings spots × AxisAdmits Dec settings spots
