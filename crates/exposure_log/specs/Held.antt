-- The held exposures, the window of nights, and what a call does to them.
use Rattle.std.specs.Prelude.{◌≡◌, ℕ, ◌+◌, ◌≤◌, nat_lt, nat_le, nat_eq, ℤ, pos, ◌-ℤ◌, Bool, false, not, ◌||◌, ◌==◌, if◌then◌else◌, Option, Some, None, List, ◌∷◌, ◌++◌, length, take, slice_get, map, Result, MatchResult}
use Rattle.std.specs.List.{AllWithin, find, filter, flat_map, list_any, range_with_len}
use Rattle.std.specs.Map.{lookup}
use Rattle.std.specs.Option.{option_map_or}
use Rattle.std.specs.Int.Signed.{lt_z, le_z}
use Rattle.std.specs.declared.cmp.Ordering.{Ordering}
use Rattle.std.specs.declared.cmp.Ordering.TheVariants.{Less, Greater}
use Rattle.std.specs.Ordering.{int_cmp, int_eq, nat_cmp, ordering_then, is_lt, is_eq, is_gt}
use Rattle.std.specs.Cmp.Lexicographic.{pointwise, slice_cmp}
use Rattle.sky_math.specs.Lists.{EachTwo}
use Rattle.sky_math.specs.Night.{night_at}
use Rattle.sky_units.specs.Limits.{most_nights}
use Rattle.sky_units.specs.SpotData.{SpotData}
use Rattle.miti_text.specs.Observation.{Observation}
use Rattle.number_register.specs.Numbering.{TakeLeast}
use Rattle.exposure_log.specs.declared.errors.AddError.{AddError}
use Rattle.exposure_log.specs.declared.errors.AddError.TheVariants.{NoWindow, Old, New, Held, Id, NightFull, Full}
use Rattle.exposure_log.specs.declared.errors.WindowError.{WindowError}
use Rattle.exposure_log.specs.declared.errors.WindowError.TheVariants.{Order, Wide, Back}

-- an exposure that is handed in: one or more detections of one epoch and one site
pub record ExposureData : Type 0 where
  pub epoch : ℤ
  pub site : List ℕ
  pub detections : List Observation

-- an exposure that is held: its detections in order of id, each with its number
pub record HeldExposure : Type 0 where
  pub epoch : ℤ
  pub site : List ℕ
  pub detections : List (ℕ × Observation)

-- the log: how nights are counted, the window from its first to its last night, and the held exposures in order of epoch and site
pub record LogData : Type 0 where
  pub night_shift : ℤ
  pub window : Option (ℤ × ℤ)
  pub exposures : List HeldExposure

-- the held detections with their numbers, in canonical order
abbrev pub detections_of : List HeldExposure → List (ℕ × Observation)
detections_of exposures = flat_map (λ x. x.detections) exposures

-- the held detection of a number
abbrev pub held_at : List HeldExposure → ℕ → Option Observation
held_at exposures n = lookup (λ k. k == n) (detections_of exposures)

-- how an exposure compares with another epoch and site, by its epoch and then by the bytes of its site
abbrev pub exposure_cmp : ℤ → List ℕ → HeldExposure → Ordering
exposure_cmp epoch site x = ordering_then (int_cmp x.epoch epoch) (slice_cmp nat_cmp x.site site)

abbrev pub stands_before : ℤ → List ℕ → HeldExposure → Bool
stands_before epoch site x = is_lt (exposure_cmp epoch site x)

abbrev pub stands_at : ℤ → List ℕ → HeldExposure → Bool
stands_at epoch site x = is_eq (exposure_cmp epoch site x)

abbrev pub stands_after : ℤ → List ℕ → HeldExposure → Bool
stands_after epoch site x = is_gt (exposure_cmp epoch site x)

-- the place among the exposures where one of an epoch and a site would stand, where none stands there
pub record IsFreePlace (epoch : ℤ) (site : List ℕ) (held : List HeldExposure) (i : ℕ) : Type 0 where
  pub within : i ≤ length held
  pub earlier : AllWithin (λ x. exposure_cmp epoch site x ≡ Less) held 0 i
  pub later : AllWithin (λ x. exposure_cmp epoch site x ≡ Greater) held i (length held)

-- the exposures with one more, at its place
abbrev pub with_exposure : HeldExposure → List HeldExposure → List HeldExposure
with_exposure x held = filter (stands_before x.epoch x.site) held ++ x ∷ filter (stands_after x.epoch x.site) held

-- the exposures without that of an epoch and a site
abbrev pub without_exposure : ℤ → List ℕ → List HeldExposure → List HeldExposure
without_exposure epoch site held = filter (λ x. not (stands_at epoch site x)) held

-- the exposures of a night, and those of a night and later
abbrev pub of_night : ℤ → ℤ → List HeldExposure → List HeldExposure
of_night shift night held = filter (λ x. int_eq (night_at shift x.epoch) night) held

abbrev pub from_night : ℤ → ℤ → List HeldExposure → List HeldExposure
from_night shift night held = filter (λ x. not (lt_z (night_at shift x.epoch) night)) held

-- an id is held
abbrev pub is_held_id : List HeldExposure → List ℕ → Bool
is_held_id exposures id = list_any (λ d. pointwise nat_eq d.1.id id) (detections_of exposures)

-- the detection at place i has an id that is held, or that stands earlier in the list
abbrev pub is_taken : List HeldExposure → List Observation → ℕ → Bool
is_taken exposures list i = option_map_or (λ d. is_held_id exposures d.id || list_any (λ e. pointwise nat_eq e.id d.id) (take i list)) (slice_get list i) false

-- the first such place
abbrev pub first_taken : List HeldExposure → List Observation → Option ℕ
first_taken exposures list = find (is_taken exposures list) (range_with_len 0 (length list))

-- the most exposures of a night, and the most detections in all
abbrev pub most_of_a_night : ℕ
most_of_a_night = 4096

abbrev pub most_detections : ℕ
most_detections = 1048576

-- the exposure can't be taken for want of room
abbrev pub room_refusal : LogData → ExposureData → Option AddError
room_refusal log x =
    if nat_le most_of_a_night (length (of_night log.night_shift (night_at log.night_shift x.epoch) log.exposures)) then Some NightFull
    else (if nat_lt most_detections (length (detections_of log.exposures) + length x.detections) then Some Full else None)

-- the exposure, of a night in the window, can't be taken as it is held, or for an id, or for want of room
abbrev pub held_refusal : LogData → ExposureData → Option AddError
held_refusal log x =
    if list_any (stands_at x.epoch x.site) log.exposures then Some Held
    else option_map_or (λ i. Some (Id i)) (first_taken log.exposures x.detections) (room_refusal log x)

-- why the log doesn't take an exposure: the first cause that holds, or none
abbrev pub refusal : LogData → ExposureData → Option AddError
refusal log x =
    option_map_or (λ window.
    if lt_z (night_at log.night_shift x.epoch) window.0 then Some Old
    else (if lt_z window.1 (night_at log.night_shift x.epoch) then Some New else held_refusal log x))
    log.window (Some NoWindow)

-- the exposure is held from now on, its detections with the least numbers that no held one had
pub record TakesIn (old new : LogData) (x : ExposureData) : Type 0 where
  pub held : HeldExposure
  pub epoch : held.epoch ≡ x.epoch
  pub site : held.site ≡ x.site
  pub detections : map (λ d. d.1) held.detections ≡ x.detections
  pub numbers : TakeLeast (held_at old.exposures) (map (λ d. d.0) held.detections) x.detections
  pub is : new ≡ record old { exposures = with_exposure held old.exposures }

-- why the window can't be moved so: the first cause that holds, or none
abbrev pub window_refusal : Option (ℤ × ℤ) → ℤ → ℤ → Option WindowError
window_refusal window lo hi =
    if lt_z hi lo then Some Order
    else (if le_z (pos most_nights) (hi -ℤ lo) then Some Wide
    else option_map_or (λ old. if lt_z lo old.0 || lt_z hi old.1 then Some Back else None) window None)

-- the window is moved, and the nights before it are forgotten
abbrev pub moved : LogData → ℤ → ℤ → LogData
moved log lo hi = record log { window = Some (lo, hi); exposures = from_night log.night_shift lo log.exposures }

-- where a held detection stands, its number as the label
abbrev pub spot_of : ℕ × Observation → SpotData
spot_of d = record { num = d.0; epoch = d.1.epoch; ra = d.1.ra; dec = d.1.dec }

-- the spots of a night, in canonical order
abbrev pub spots_of_night : LogData → ℤ → List SpotData
spots_of_night log night = map spot_of (detections_of (of_night log.night_shift night log.exposures))

-- the held exposures of a night are all of one epoch
abbrev pub AreOfOneEpoch : LogData → ℤ → Type 0
AreOfOneEpoch log night = EachTwo (λ (x y : HeldExposure). x.epoch ≡ y.epoch) (of_night log.night_shift night log.exposures)

-- an answer that is Ok where nothing refuses, and names the cause where something does
abbrev pub IsAnsweredAs : {T E : Type 0} → Option E → Result T E → Type 0
IsAnsweredAs cause result = MatchResult result (λ _. cause ≡ None) (λ e. cause ≡ Some e)
