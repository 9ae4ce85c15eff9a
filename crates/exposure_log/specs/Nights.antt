-- The exposures of held exposures, night by night.
use Rattle.std.specs.Prelude.{◌≡◌, ℕ, ◌<◌, ◌≤◌, ◌<ℤ◌, ℤ, Bool, not, Option, Some, List, length}
use Rattle.std.specs.BTreeMap.{is_at}
use Rattle.std.specs.Global.{Vec}
use Rattle.std.specs.List.{All, filter, flat_map, insert as insert_at}
use Rattle.std.specs.List.Sorted.{IsPartitionPoint, IsStrictlySortedBy}
use Rattle.std.specs.Map.{keys_of, lookup}
use Rattle.std.specs.Option.{option_to_list}
use Rattle.std.specs.Ordering.{int_cmp, int_eq, is_eq}
use Rattle.std.specs.Vec.{vec_capacity}
use Rattle.std.specs.declared.cmp.Ordering.TheVariants.{Less, Greater}
use Rattle.sky_math.specs.Night.{night_at}
use Rattle.exposure_log.specs.declared.numbered.NumberedExposure.{NumberedExposure}
use Rattle.exposure_log.specs.declared.nights.NightPlace.{NightPlace}
use Rattle.exposure_log.specs.Numbered.{numbered_cmp}
use Rattle.exposure_log.specs.Held.{LogData, ExposureData, IsFreePlace, of_night}

-- all exposures, night after night
abbrev pub all_listed : List (ℤ × Vec NumberedExposure) → List NumberedExposure
all_listed by_night = flat_map (λ n. n.1.items) by_night

-- the list of a night's exposures, if the night has one
abbrev pub list_of : List (ℤ × Vec NumberedExposure) → ℤ → Option (Vec NumberedExposure)
list_of by_night night = lookup (is_at (int_cmp night)) by_night

-- an exposure is of a night
abbrev pub is_of_night : ℤ → ℤ → NumberedExposure → Bool
is_of_night shift night g = int_eq (night_at shift g.epoch) night

-- the nights rise, and each exposure stands under its night
pub record AreByNight (shift : ℤ) (by_night : List (ℤ × Vec NumberedExposure)) : Type 0 where
  pub nights_rise : IsStrictlySortedBy int_cmp (keys_of by_night)
  pub under_their_night : All (λ n. All (λ g. night_at shift g.epoch ≡ n.0) n.1.items) by_night

-- a night has a list, with room for one exposure more
abbrev pub HasRoom : List (ℤ × Vec NumberedExposure) → ℤ → Type 0
HasRoom by_night night = (listed : Vec NumberedExposure) × (list_of by_night night ≡ Some listed) × (length listed.items < vec_capacity listed)

-- the shift by which nights are counted, and each night with its exposures
pub record NightsData : Type 0 where
  pub shift : ℤ
  pub by_night : List (ℤ × Vec NumberedExposure)

abbrev pub listed_of : NightsData → List NumberedExposure
listed_of nights = all_listed nights.by_night

-- the exposures of a night
abbrev pub listed_of_night : NightsData → ℤ → List NumberedExposure
listed_of_night nights night = filter (is_of_night nights.shift night) (listed_of nights)

-- the place where an exposure of an epoch and a site would stand, where none stands there
abbrev pub IsFree : ℤ → List ℕ → List NumberedExposure → ℕ → Type 0
IsFree epoch site listed i = (i ≤ length listed) × IsPartitionPoint (λ g. numbered_cmp epoch site g ≡ Less) (λ g. numbered_cmp epoch site g ≡ Greater) listed i

-- one exposure more, at its place
abbrev pub PutsIn : List NumberedExposure → NumberedExposure → List NumberedExposure → Type 0
PutsIn old g new = (i : ℕ) × IsFree g.epoch g.site old i × (new ≡ insert_at old i g)

-- the exposure of an epoch and a site goes, if there is one
pub record TakesPlace (epoch : ℤ) (site : List ℕ) (old : List NumberedExposure) (out : Option NumberedExposure) (new : List NumberedExposure) : Type 0 where
  pub goes : filter (λ g. is_eq (numbered_cmp epoch site g)) old ≡ option_to_list out
  pub stay : new ≡ filter (λ g. not (is_eq (numbered_cmp epoch site g))) old

-- the exposures of the first night go, which lies before a night
abbrev pub TakesNight : ℤ → NightsData → List NumberedExposure → NightsData → Type 0
TakesNight night old out new =
    (first : ℤ) × (first <ℤ night) × (out ≡ listed_of_night old first) × (listed_of new ≡ filter (λ g. not (is_of_night old.shift first g)) (listed_of old))

-- the place of an exposure's night where its exposure would stand
pub record IsPlaceFor (log : LogData) (x : ExposureData) (place : NightPlace) : Type 0 where
  pub night : place.night ≡ night_at log.night_shift x.epoch
  pub free : IsFreePlace x.epoch x.site (of_night log.night_shift place.night log.exposures) place.index
