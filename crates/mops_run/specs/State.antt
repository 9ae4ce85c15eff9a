-- The program's state: the linker, and the detections of the delivery that is under way.
use Rattle.std.specs.Prelude.{None, List, []}
use Rattle.miti_text.specs.Observation.{Observation}
use Rattle.sky_units.specs.SettingsData.{standard_settings}
use Rattle.window_incr.specs.LinkerState.{LinkerState}

pub record State : Type 0 where
  pub linker : LinkerState
  pub waiting : List Observation

-- the state of these
abbrev pub state_of : LinkerState → List Observation → State
state_of linker waiting = record { linker = linker; waiting = waiting }

-- at first: the standard settings, no window, nothing held and nothing waiting
abbrev pub start : State
start = record {
  linker = record {
    settings = standard_settings;
    log = record { night_shift = standard_settings.night_shift; window = None; exposures = [] };
  };
  waiting = [];
}
