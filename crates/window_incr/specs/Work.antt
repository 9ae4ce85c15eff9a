-- The fit tests that a change of the kept results may cost: those of what came.
use Rattle.std.specs.Prelude.{◌≡◌, ◌⊎◌, ℕ, List, map}
use Rattle.std.specs.List.{All, Contains}
use Rattle.exposure_log.specs.Held.{ExposureData, LogData, TakesIn}
use Rattle.exposure_log.specs.Outcomes.{HoldsAll}
use Rattle.exposure_log.specs.declared.outcomes.Outcome.{Outcome}
use Rattle.kept_nights.specs.KeptNights.{nights_of}
use Rattle.kept_tracks.specs.Stages.{tracklets_of_night}
use Rattle.night_tree.specs.Nights.{NightData}
use Rattle.set_grow.specs.Costs.{IsBounded}
use Rattle.set_grow.specs.Nights.{NumberedNightData}
use Rattle.set_grow.specs.declared.places.Place.{Place}
use Rattle.sky_units.specs.SettingsData.{SettingsData}
use Rattle.sky_units.specs.declared.tallies.Tally.{Tally}
use Rattle.tracklet_register.specs.Exchanges.{AreExchanged}
use Rattle.window_incr.specs.LinkerState.{LinkerData}
use Rattle.window_incr.specs.Results.{plain_night}

-- a count rises by no more than growing what came allows (`IsBounded`): some tracklets of the numbered nights went, others came
pub record IsWorkFor (settings : SettingsData) (old : List NumberedNightData) (new : List NightData) (before after : ℕ) : Type 0 where
  pub numbered : List NumberedNightData
  pub table : List Place
  pub went : List ℕ
  pub came : List ℕ
  pub are : map plain_night numbered ≡ new
  pub exchanged : AreExchanged went came old numbered
  pub bounded : IsBounded (record { settings = settings; nights = numbered; table = table }) came before after

-- no night has a tracklet that it did not have before
abbrev pub NothingCame : List NightData → List NightData → Type 0
NothingCame old new = (night : NightData) → Contains new night → All (Contains (tracklets_of_night old night.number)) night.tracklets

-- the tally stays where no tracklet came, and otherwise rises by no more than the work for those that came
pub record IsWork (settings : SettingsData) (nights : List NightData) (numbered : List NumberedNightData) (new : List NightData) (before after : Tally) : Type 0 where
  pub none : NothingCame nights new → after ≡ before
  pub bounded : (after ≡ before) ⊎ IsWorkFor settings numbered new before.tests after.tests

-- the work of a log that follows on that of a linker
abbrev pub IsWorkTo : LinkerData → LogData → Tally → Tally → Type 0
IsWorkTo old log = IsWork old.state.settings old.nights old.numbered (nights_of (record { settings = old.state.settings; log = log }))

-- the work of holding one exposure more
abbrev pub IsWorkOfAdding : LinkerData → ExposureData → Tally → Tally → Type 0
IsWorkOfAdding old exposure before after = (after ≡ before) ⊎ ((log : LogData) × TakesIn old.state.log log exposure × IsWorkTo old log before after)

-- the work of holding some exposures
abbrev pub IsWorkOfHolding : LinkerData → List ExposureData → Tally → Tally → Type 0
IsWorkOfHolding old exposures before after =
    (after ≡ before) ⊎ ((outcomes : List Outcome) × (log : LogData) × HoldsAll old.state.log exposures outcomes log × IsWorkTo old log before after)
