-- What holds of each log.
use Rattle.std.specs.Prelude.{◌≡◌, ℕ, ℤ, ◌<◌, ◌≤ℤ◌, Option, None, Some, IsTrue, List, [], length, map, ◌≤◌}
use Rattle.std.specs.List.{All, AllPairs, Contains}
use Rattle.std.specs.List.Sorted.{IsStrictlySortedBy}
use Rattle.std.specs.declared.cmp.Ordering.TheVariants.{Less}
use Rattle.sky_math.specs.Night.{night_at}
use Rattle.sky_units.specs.Limits.{IsWindow}
use Rattle.miti_text.specs.Observation.{Observation, is_id}
use Rattle.miti_text.specs.CanonicalOrder.{canonical_cmp}
use Rattle.exposure_log.specs.Held.{LogData, HeldExposure, exposure_cmp, detections_of, most_detections}

-- a held exposure lies in a night of the window
abbrev pub IsInside : ℤ → ℤ × ℤ → HeldExposure → Type 0
IsInside shift window x = (window.0 ≤ℤ night_at shift x.epoch) × (night_at shift x.epoch ≤ℤ window.1)

-- the window has no more nights than it may, and what is held lies in them; without a window nothing is held
abbrev pub LieInWindow : ℤ → Option (ℤ × ℤ) → List HeldExposure → Type 0
LieInWindow shift None exposures = exposures ≡ []
LieInWindow shift (Some window) exposures = IsWindow window × All (IsInside shift window) exposures

-- the first of two held exposures stands before the second, by epoch and then by the bytes of the site
abbrev pub GoesBefore : HeldExposure → HeldExposure → Type 0
GoesBefore x y = exposure_cmp y.epoch y.site x ≡ Less

-- a held exposure has detections
abbrev pub HasSome : HeldExposure → Type 0
HasSome x = 0 < length x.detections

-- the detections of a held exposure are of its epoch and site
abbrev pub AreOfOneExposure : HeldExposure → Type 0
AreOfOneExposure x = All (λ d. (d.1.epoch ≡ x.epoch) × (d.1.site ≡ x.site)) x.detections

-- the ids of a held exposure keep their rule
abbrev pub HasIds : HeldExposure → Type 0
HasIds x = All (λ d. IsTrue (is_id d.1.id)) x.detections

-- no two held detections have one number
abbrev pub HaveNumbersApart : List HeldExposure → Type 0
HaveNumbersApart exposures = (n : ℕ) (d e : Observation) → Contains (detections_of exposures) (n, d) → Contains (detections_of exposures) (n, e) → d ≡ e

-- and no two have one id
abbrev pub HaveIdsApart : List HeldExposure → Type 0
HaveIdsApart exposures = (m n : ℕ) (d e : Observation) → Contains (detections_of exposures) (m, d) → Contains (detections_of exposures) (n, e) → d.id ≡ e.id → m ≡ n

-- the held detections stand in canonical order, strictly, exposure after exposure; each exposure has some, of its epoch and site;
-- their numbers and ids are apart, and their ids keep their rule; there are no more than may be held, and they lie in the window
pub record IsOrderly (log : LogData) : Type 0 where
  pub in_order : IsStrictlySortedBy canonical_cmp (map (λ d. d.1) (detections_of log.exposures))
  pub one_by_one : AllPairs GoesBefore log.exposures
  pub some : All HasSome log.exposures
  pub of_one : All AreOfOneExposure log.exposures
  pub numbers : HaveNumbersApart log.exposures
  pub ids_apart : HaveIdsApart log.exposures
  pub ids : All HasIds log.exposures
  pub few : length (detections_of log.exposures) ≤ most_detections
  pub in_window : LieInWindow log.night_shift log.window log.exposures
