-- How far two spots of a line may be apart.
use Rattle.std.specs.Prelude.{ℤ, pos, neg_ℤ, ◌+ℤ◌, ◌-ℤ◌, ◌*ℤ◌, Bool, ◌&&◌}
use Rattle.std.specs.Int.Signed.{le_z, lt_z}
use Rattle.sky_units.specs.Motion.{offset}
use Rattle.sky_units.specs.SettingsData.{SettingsData}
use Rattle.sky_units.specs.SpotData.{SpotData}
use Rattle.sky_units.specs.declared.axis.Axis.TheVariants.{Ra, Dec}

-- a difference of positions over so many ticks is at most what the rate, per day of 10^6 ticks, allows and twice the tolerance
abbrev pub is_in_reach : ℤ → ℤ → ℤ → ℤ → Bool
is_in_reach tol rate ticks moved =
    let reach = (rate *ℤ ticks) +ℤ ((tol +ℤ tol) *ℤ pos 1000000) in
    le_z (neg_ℤ reach) (moved *ℤ pos 1000000) && le_z (moved *ℤ pos 1000000) reach

-- the second spot is later, and within reach of the first one on both axes
abbrev pub are_in_reach : SettingsData → SpotData → SpotData → Bool
are_in_reach settings from to =
    lt_z from.epoch to.epoch
    && is_in_reach settings.line_tol settings.rate_dec (to.epoch -ℤ from.epoch) (offset Dec from to)
    && is_in_reach settings.line_tol settings.rate_ra (to.epoch -ℤ from.epoch) (offset Ra from to)
