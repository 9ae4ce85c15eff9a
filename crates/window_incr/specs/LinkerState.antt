-- The linker's state, what it keeps beside it, and what a setting does to the state.
use Rattle.std.specs.Prelude.{is_some, Result, Ok, Err, if◌then◌else◌, List, ℕ, ℤ}
use Rattle.night_tree.specs.Nights.{NightData}
use Rattle.set_grow.specs.Nights.{NumberedNightData}
use Rattle.sky_units.specs.SettingsData.{SettingsData}
pub use Rattle.kept_nights.specs.LinkerState.{LinkerState}
use Rattle.sky_units.specs.SettingNames.{set_named}
use Rattle.sky_units.specs.declared.setting_names.SetError.{SetError}
use Rattle.sky_units.specs.declared.setting_names.SetError.TheVariants.{Late}

-- a linker: its state, the nights that it keeps, their tracklets with lasting numbers, and the sets of these numbers that it keeps
pub record LinkerData : Type 0 where
  pub state : LinkerState
  pub nights : List NightData
  pub numbered : List NumberedNightData
  pub sets : List (List ℕ)

-- the state under these settings, by which nights are counted too
abbrev pub under : LinkerState → SettingsData → LinkerState
under s settings = record { settings = settings; log = record s.log { night_shift = settings.night_shift } }

-- the state under changed settings: once a window was set it is too late to change them
abbrev pub under_changed : LinkerState → Result SettingsData SetError → Result LinkerState SetError
under_changed s (Err error) = Err error
under_changed s (Ok settings) = if is_some s.log.window then Err Late else Ok (under s settings)

-- the state after a setting, or why it can't be set: an unknown name, a value out of its range, a window that was set
abbrev pub after_setting : List ℕ → ℤ → LinkerState → Result LinkerState SetError
after_setting name value s = under_changed s (set_named name value s.settings)
