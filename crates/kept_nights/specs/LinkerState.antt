-- What a linker answers from.
use Rattle.exposure_log.specs.Held.{LogData}
use Rattle.sky_units.specs.SettingsData.{SettingsData}

-- the settings, and the log of held exposures with its window
pub record LinkerState : Type 0 where
  pub settings : SettingsData
  pub log : LogData
