-- Kept results of a log, and nights that are built anew when it has changed.
use Rattle.std.specs.Prelude.{◌≡◌, ℤ, List}
use Rattle.std.specs.List.{All}
use Rattle.exposure_log.specs.Held.{LogData}
use Rattle.exposure_log.specs.Orderly.{IsOrderly}
use Rattle.exposure_log.specs.Outcomes.{CameBy}
use Rattle.exposure_log.specs.declared.outcomes.Outcome.{Outcome}
use Rattle.kept_nights.specs.KeptNights.{night_data, nights_of, with_night}
use Rattle.kept_nights.specs.Renewed.{HaveDifferentNumbers, IsNightOf, with_nights}
use Rattle.kept_nights.specs.Soundness.{IsSoundState}
use Rattle.kept_tracks.specs.KeptFor.{AreKeptFor, KeptData}
use Rattle.night_tree.specs.Nights.{NightData}
use Rattle.sky_units.specs.SettingsData.{SettingsData}

-- the nights of a log under these settings
abbrev pub nights_under : SettingsData → LogData → List NightData
nights_under settings log = nights_of (record { settings = settings; log = log })

-- what is kept for a sound state: its nights, and the results of these
pub record AreResults (settings : SettingsData) (log : LogData) (nights : List NightData) (kept : KeptData) : Type 0 where
  pub sound : IsSoundState (record { settings = settings; log = log })
  pub are : nights ≡ nights_under settings log
  pub sets : AreKeptFor settings nights kept

-- nights that were those of an earlier log are those of this one when the changed ones take the places of those of their numbers
pub record WereNights (settings : SettingsData) (log : LogData) (nights changed : List NightData) : Type 0 where
  pub before : LogData
  pub was_orderly : IsOrderly before
  pub orderly : IsOrderly log
  pub are : nights ≡ nights_under settings before
  pub each : All (IsNightOf (record { settings = settings; log = log })) changed
  pub once : HaveDifferentNumbers changed
  pub renewed : with_nights changed nights ≡ nights_under settings log

-- the same of one night
pub record WereNightsBut (settings : SettingsData) (log : LogData) (nights : List NightData) (number : ℤ) : Type 0 where
  pub before : LogData
  pub was_orderly : IsOrderly before
  pub orderly : IsOrderly log
  pub are : nights ≡ nights_under settings before
  pub renewed : with_night (night_data (record { settings = settings; log = log }) number) nights ≡ nights_under settings log

-- nights of an earlier log, which has come to this one by some outcomes
pub record HadNights (settings : SettingsData) (log : LogData) (nights : List NightData) (outcomes : List Outcome) : Type 0 where
  pub before : LogData
  pub was_orderly : IsOrderly before
  pub came : CameBy before outcomes log
  pub are : nights ≡ nights_under settings before
