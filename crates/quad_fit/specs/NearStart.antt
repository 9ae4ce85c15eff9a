-- Of which spots it may be asked whether a quadratic passes them: they lie near its start in time, and its base is a position of the axis.
use Rattle.std.specs.Prelude.{ℤ, pos, ◌-ℤ◌, List}
use Rattle.std.specs.List.{All}
use Rattle.sky_math.specs.Quadratics.{IsWithin}
use Rattle.sky_units.specs.Ranges.{IsDeclination, IsRightAscension}
use Rattle.sky_units.specs.SpotData.{SpotData}
use Rattle.sky_units.specs.declared.axis.Axis.{Axis}
use Rattle.sky_units.specs.declared.axis.Axis.TheVariants.{Ra, Dec}

-- a position that spots may have on an axis
abbrev pub IsPositionOn : Axis → ℤ → Type 0
IsPositionOn Ra = IsRightAscension
IsPositionOn Dec = IsDeclination

-- a spot is at most half the time of an arc away from an epoch
abbrev pub IsNearInTime : ℤ → SpotData → Type 0
IsNearInTime epoch spot = IsWithin (pos 15000000) (spot.epoch -ℤ epoch)

abbrev pub AreNearInTime : ℤ → List SpotData → Type 0
AreNearInTime epoch = All (IsNearInTime epoch)
