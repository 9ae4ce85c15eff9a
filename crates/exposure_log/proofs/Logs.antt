-- A log of which one part changes.
use Rattle.std.proofs.Common.{◌≡◌, ℤ, Option, Some, None, List, [], ◌∷◌, map, refl}
use Rattle.miti_text.specs.Observation.{Observation}
use Rattle.exposure_log.specs.declared.numbered.NumberedExposure.{NumberedExposure}
use Rattle.exposure_log.specs.Held.{LogData, HeldExposure}
use Rattle.exposure_log.specs.Numbered.{exposure_of}
use Rattle.exposure_log.specs.Orderly.{LieInWindow, IsOrderly}

abbrev pub with_held : ℤ → Option (ℤ × ℤ) → List HeldExposure → LogData
with_held shift window xs = record { night_shift = shift; window = window; exposures = xs }

-- without a window there are no exposures
none_of : (slots : List (Option Observation)) (listed : List NumberedExposure) → map (exposure_of slots) listed ≡ [] → listed ≡ []
none_of slots [] e = refl
none_of slots (g ∷ gs) e = cc

none_lies : (shift : ℤ) (window : Option (ℤ × ℤ)) (xs : List HeldExposure) → window ≡ None → LieInWindow shift window xs → xs ≡ []
none_lies shift None xs e h = h
none_lies shift (Some w) xs e h = cc

pub no_listed : (shift : ℤ) (window : Option (ℤ × ℤ)) (slots : List (Option Observation)) (listed : List NumberedExposure) → window ≡ None → IsOrderly (with_held shift window (map (exposure_of slots) listed)) → listed ≡ []
no_listed shift window slots listed e o = none_of slots listed (none_lies shift window (map (exposure_of slots) listed) e o.in_window)
