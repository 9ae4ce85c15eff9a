-- Nights that are renewed for exposures that were taken.
use Rattle.std.specs.Prelude.{◌≡◌, ℤ, Bool, true, false, List, [], ◌∷◌}
use Rattle.std.specs.List.{All, Contains, list_any}
use Rattle.std.specs.Ordering.{int_eq}
use Rattle.sky_math.specs.Lists.{EachTwo}
use Rattle.sky_math.specs.Night.{night_at}
use Rattle.sky_units.specs.SettingsData.{SettingsData}
use Rattle.exposure_log.specs.Held.{LogData}
use Rattle.exposure_log.specs.Orderly.{IsOrderly}
use Rattle.exposure_log.specs.Outcomes.{CameBy}
use Rattle.exposure_log.specs.declared.outcomes.Outcome.{Outcome}
use Rattle.exposure_log.specs.declared.outcomes.Outcome.TheVariants.{Taken, Refused}
use Rattle.night_tree.specs.Nights.{NightData}
use Rattle.kept_nights.specs.LinkerState.{LinkerState}
use Rattle.kept_nights.specs.KeptNights.{is_held_night, night_data, nights_of, with_night}

-- the exposure of an outcome was taken, and lies in a night
abbrev pub lies_in : ℤ → ℤ → Outcome → Bool
lies_in shift night (Taken epoch site count) = int_eq (night_at shift epoch) night
lies_in shift night (Refused cause back) = false

-- a night with held exposures, with the tracklets of its held detections
abbrev pub IsNightOf : LinkerState → NightData → Type 0
IsNightOf s kept = (is_held_night s.log kept.number ≡ true) × (kept ≡ night_data s kept.number)

-- no two nights have one number
abbrev pub HaveDifferentNumbers : List NightData → Type 0
HaveDifferentNumbers nights = EachTwo (λ (one other : NightData). one.number ≡ other.number → ⊥) nights

-- nights with held exposures, each once, those of the outcomes among them
pub record AreRenewed (s : LinkerState) (outcomes : List Outcome) (nights : List NightData) : Type 0 where
  pub are : All (IsNightOf s) nights
  pub once : HaveDifferentNumbers nights
  pub each : (night : ℤ) → list_any (lies_in s.log.night_shift night) outcomes ≡ true → Contains nights (night_data s night)

-- the nights with some more, each in place of that of its number
abbrev pub with_nights : List NightData → List NightData → List NightData
with_nights [] nights = nights
with_nights (night ∷ rest) nights = with_night night (with_nights rest nights)

-- nights that were those of an orderly log are those of what it has come to by these outcomes
abbrev pub NightsFollow : SettingsData → List Outcome → LogData → List NightData → List NightData → Type 0
NightsFollow settings outcomes log old new =
    (before : LogData) → IsOrderly before → CameBy before outcomes log → old ≡ nights_of (record { settings = settings; log = before }) → new ≡ nights_of (record { settings = settings; log = log })
