-- What came of exposures that were handed over one after another.
use Rattle.std.specs.Prelude.{◌≡◌, ◌≢◌, Bool, true, false, not, None, Some, ⊤, List, [], ◌∷◌, length}
use Rattle.std.specs.List.{All, filter, list_any}
use Rattle.sky_units.specs.Ranges.{IsEpoch}
use Rattle.exposure_log.specs.declared.errors.AddError.TheVariants.{NoMemory as no_memory}
use Rattle.exposure_log.specs.declared.outcomes.Outcome.{Outcome}
use Rattle.exposure_log.specs.declared.outcomes.Outcome.TheVariants.{Taken, Refused}
use Rattle.exposure_log.specs.Held.{LogData, HeldExposure, ExposureData, TakesIn, refusal, stands_at}

-- the exposure is held from now on; or it comes back whole with the first cause that refuses it, and nothing changes
abbrev pub HoldsOne : LogData → ExposureData → Outcome → LogData → Type 0
HoldsOne old x (Taken epoch site count) new = (refusal old x ≡ None) × TakesIn old new x × (epoch ≡ x.epoch) × (site ≡ x.site) × (count ≡ length x.detections)
HoldsOne old x (Refused cause back) new = (refusal old x ≡ Some cause) × (cause ≢ no_memory) × (back ≡ x) × (new ≡ old)

-- exposures are held one after another
abbrev pub HoldsAll : LogData → List ExposureData → List Outcome → LogData → Type 0
HoldsAll old [] outcomes new = (outcomes ≡ []) × (new ≡ old)
HoldsAll old (x ∷ xs) outcomes new =
    (outcome : Outcome) × (later : List Outcome) × (between : LogData) × HoldsOne old x outcome between × HoldsAll between xs later new × (outcomes ≡ outcome ∷ later)

-- an outcome is that of a held exposure
abbrev pub is_of : HeldExposure → Outcome → Bool
is_of x (Taken epoch site count) = stands_at epoch site x
is_of x (Refused cause back) = false

-- the held exposures without that of an outcome, and without those of all of some
abbrev pub without_one : Outcome → List HeldExposure → List HeldExposure
without_one outcome held = filter (λ x. not (is_of x outcome)) held

abbrev pub without_taken : List Outcome → List HeldExposure → List HeldExposure
without_taken outcomes held = filter (λ x. not (list_any (is_of x) outcomes)) held

-- the exposure of an outcome is held, if it was taken
abbrev pub IsThere : List HeldExposure → Outcome → Type 0
IsThere held (Taken epoch site count) = IsEpoch epoch × (list_any (stands_at epoch site) held ≡ true)
IsThere held (Refused cause back) = ⊤

-- a log has come to this by what was taken: the exposures are held, and without them it is as it was
pub record CameBy (old : LogData) (outcomes : List Outcome) (new : LogData) : Type 0 where
  pub there : All (IsThere new.exposures) outcomes
  pub undone : old ≡ record new { exposures = without_taken outcomes new.exposures }
