-- What each setting may be.
use Rattle.std.specs.Prelude.{ℤ, pos}
use Rattle.sky_units.specs.Ranges.{IsBetween}
use Rattle.sky_units.specs.declared.setting_names.Setting.{Setting}
use Rattle.sky_units.specs.declared.setting_names.Setting.TheVariants.{TolRa, TolDec, AccRa, AccDec, RateRa, RateDec, LineTol, PurgeTol, PairGap, NightShift, Stages}

-- the least value of a setting
abbrev pub lowest : Setting → ℤ
lowest PairGap = pos 1
lowest Stages = pos 1
lowest _ = pos 0

-- the greatest value of a setting
abbrev pub highest : Setting → ℤ
highest TolRa = pos 100000
highest TolDec = pos 100000
highest AccRa = pos 1000000
highest AccDec = pos 1000000
highest RateRa = pos 10000000
highest RateDec = pos 10000000
highest LineTol = pos 100000
highest PurgeTol = pos 100000
highest PairGap = pos 1000000
highest NightShift = pos 999999
highest Stages = pos 3

-- a value that a setting may have
abbrev pub IsInRange : Setting → ℤ → Type 0
IsInRange setting = IsBetween (lowest setting) (highest setting)

-- a night shift: less than a day
abbrev pub IsNightShift : ℤ → Type 0
IsNightShift = IsInRange NightShift
