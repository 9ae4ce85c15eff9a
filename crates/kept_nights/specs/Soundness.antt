-- What a linker's state keeps to.
use Rattle.std.specs.Prelude.{◌≡◌}
use Rattle.exposure_log.specs.Orderly.{IsOrderly}
use Rattle.kept_nights.specs.LinkerState.{LinkerState}

-- the log counts nights as the settings say, and is orderly
pub record IsSoundState (s : LinkerState) : Type 0 where
  pub shift : s.log.night_shift ≡ s.settings.night_shift
  pub orderly : IsOrderly s.log
