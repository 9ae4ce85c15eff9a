-- What the spread rule is for.
use Rattle.std.specs.Prelude.{◌≡◌, ℤ, ◌-ℤ◌, List}
use Rattle.std.specs.List.{Contains}
use Rattle.sky_math.specs.Circle.{lifted}
use Rattle.sky_units.specs.Arcs.{MeetSpreadRule}
use Rattle.sky_units.specs.SpotData.{SpotData}
use Rattle.sky_units.specs.declared.axis.Axis.{Axis}
use Rattle.sky_units.specs.declared.axis.Axis.TheVariants.{Ra, Dec}

-- where a spot lies on an axis; right ascension is lifted against that of a base
abbrev pub lifted_position : Axis → SpotData → SpotData → ℤ
lifted_position Ra base spot = lifted base.ra spot.ra
lifted_position Dec base spot = spot.dec

-- how far one spot lies from another one, both lifted against a base
abbrev pub lifted_difference : Axis → SpotData → SpotData → SpotData → ℤ
lifted_difference axis base from to = lifted_position axis base to -ℤ lifted_position axis base from

-- among spots that meet the spread rule a lifted difference is the same against every base
abbrev pub LiftedDifferencesAgree : Type 0
LiftedDifferencesAgree = (axis : Axis) (spots : List SpotData) (base other from to : SpotData) → MeetSpreadRule spots → Contains spots base → Contains spots other → Contains spots from → Contains spots to → lifted_difference axis base from to ≡ lifted_difference axis other from to
