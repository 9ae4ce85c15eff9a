-- The settings by name, and how one is changed.
use Rattle.std.specs.Prelude.{ℕ, ℤ, Bool, ◌&&◌, nat_eq, Option, Some, None, Result, Ok, Err, List, codes, if◌then◌else◌}
use Rattle.std.specs.Cmp.Lexicographic.{pointwise}
use Rattle.std.specs.Int.Signed.{le_z}
use Rattle.sky_units.specs.SettingRanges.{lowest, highest}
use Rattle.sky_units.specs.SettingsData.{SettingsData}
use Rattle.sky_units.specs.declared.setting_names.Setting.{Setting}
use Rattle.sky_units.specs.declared.setting_names.Setting.TheVariants.{TolRa, TolDec, AccRa, AccDec, RateRa, RateDec, LineTol, PurgeTol, PairGap, NightShift, Stages}
use Rattle.sky_units.specs.declared.setting_names.SetError.{SetError}
use Rattle.sky_units.specs.declared.setting_names.SetError.TheVariants as errors

-- two texts are the same
abbrev pub is_text : List ℕ → List ℕ → Bool
is_text = pointwise nat_eq

-- the setting of a name
abbrev pub setting_named : List ℕ → Option Setting
setting_named name =
    if is_text name (codes "tol_ra") then Some TolRa else
    (if is_text name (codes "tol_dec") then Some TolDec else
    (if is_text name (codes "acc_ra") then Some AccRa else
    (if is_text name (codes "acc_dec") then Some AccDec else
    (if is_text name (codes "rate_ra") then Some RateRa else
    (if is_text name (codes "rate_dec") then Some RateDec else
    (if is_text name (codes "line_tol") then Some LineTol else
    (if is_text name (codes "purge_tol") then Some PurgeTol else
    (if is_text name (codes "pair_gap") then Some PairGap else
    (if is_text name (codes "night_shift") then Some NightShift else
    (if is_text name (codes "stages") then Some Stages else None))))))))))

-- the settings with one of them changed
abbrev pub with_value : Setting → ℤ → SettingsData → SettingsData
with_value TolRa v s = record s { tol_ra = v }
with_value TolDec v s = record s { tol_dec = v }
with_value AccRa v s = record s { acc_ra = v }
with_value AccDec v s = record s { acc_dec = v }
with_value RateRa v s = record s { rate_ra = v }
with_value RateDec v s = record s { rate_dec = v }
with_value LineTol v s = record s { line_tol = v }
with_value PurgeTol v s = record s { purge_tol = v }
with_value PairGap v s = record s { pair_gap = v }
with_value NightShift v s = record s { night_shift = v }
with_value Stages v s = record s { stages = v }

-- the settings after one was set, or why it can't be: an unknown name first, then a value out of its range
abbrev pub set_found : Option Setting → ℤ → SettingsData → Result SettingsData SetError
set_found None value s = Err errors.Name
set_found (Some setting) value s = if le_z (lowest setting) value && le_z value (highest setting) then Ok (with_value setting value s) else Err errors.Range

abbrev pub set_named : List ℕ → ℤ → SettingsData → Result SettingsData SetError
set_named name = set_found (setting_named name)
