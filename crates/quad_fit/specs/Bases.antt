-- What a test that found spots to fit leaves for the next one: on each axis a curve that passes them all, and what it rests on.
use Rattle.std.specs.Prelude.{List, map, MatchOption, Option}
use Rattle.std.specs.List.{Contains}
use Rattle.sky_units.specs.Motion.{acceleration, AxisAdmits, Fits, point_from, tolerance}
use Rattle.sky_units.specs.SettingsData.{SettingsData}
use Rattle.sky_units.specs.SpotData.{SpotData}
use Rattle.sky_units.specs.declared.axis.Axis.{Axis}
use Rattle.sky_units.specs.declared.axis.Axis.TheVariants.{Ra, Dec}
use Rattle.quad_fit.specs.Levels.{IsLevel}
use Rattle.quad_fit.specs.declared.growing.Basis.{Basis}
use Rattle.quad_fit.specs.declared.levelling.Levelled.{Levelled}

-- on one axis, counted from a base, a curve keeps the limit of acceleration, passes all the spots, and rests on a few of them
abbrev pub IsLevelOn : Axis → SettingsData → SpotData → List SpotData → Levelled → Type 0
IsLevelOn axis settings base spots = IsLevel (acceleration axis settings) (tolerance axis settings) (map (point_from axis base) spots)

-- the curves of a basis pass all the spots
pub record IsBasis (settings : SettingsData) (spots : List SpotData) (basis : Basis) : Type 0 where
  pub among : Contains spots basis.base
  pub on_ra : IsLevelOn Ra settings basis.base spots basis.ra
  pub on_dec : IsLevelOn Dec settings basis.base spots basis.dec

-- where an axis admits the spots a curve that passes them, and else none
abbrev pub GivesLevel : Axis → SettingsData → SpotData → List SpotData → Option Levelled → Type 0
GivesLevel axis settings base spots result = MatchOption result (¬ AxisAdmits axis settings spots) (IsLevelOn axis settings base spots)

-- where the spots fit their basis, and else none
abbrev pub GivesBasis : SettingsData → List SpotData → Option Basis → Type 0
GivesBasis settings spots result = MatchOption result (¬ Fits settings spots) (λ basis. Fits settings spots × IsBasis settings spots basis)
