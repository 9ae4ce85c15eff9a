-- The numbers of the tracklets of some nights, and the table that leads from each to its tracklet's place.
use Rattle.std.specs.Prelude.{ℕ, ◌≡◌, ◌<◌, ◌^◌, ℤ, ◌<ℤ◌, Bool, true, false, if◌then◌else◌, List, [], ◌∷◌, length, map, Some, slice_get, slice_index_or}
use Rattle.std.specs.List.{Contains}
use Rattle.std.specs.Ordering.{int_eq}
use Rattle.night_tree.specs.Nights.{NightData}
use Rattle.sky_units.specs.TrackletData.{NightTracklets, TrackletData}
use Rattle.set_grow.specs.Nights.{NumberedNightData, numbered_by}
use Rattle.set_grow.specs.declared.places.Place.{Place}
use Rattle.tracklet_register.specs.declared.nights.NightNumbers.{NightNumbers}

-- the numbers of the tracklets of a night, in the order of these; none of a night that isn't there
abbrev pub numbers_of : List NightNumbers → ℤ → List ℕ
numbers_of [] number = []
numbers_of (night ∷ nights) number = if int_eq night.number number then night.numbers.items else numbers_of nights number

-- some entry is of the night of this number
abbrev pub HasNight : List NightNumbers → ℤ → Type 0
HasNight nights number = Contains (map (λ (night : NightNumbers). night.number) nights) number

-- whether a number is taken: it is that of a tracklet, or was that of one that went, and has not been released
abbrev pub is_taken : List Bool → ℕ → Bool
is_taken taken number = slice_index_or taken number false

-- a table leads from each number to the night and the place of its tracklet
abbrev pub LeadsToPlaces : List Place → List NightNumbers → Type 0
LeadsToPlaces table nights = (night : ℤ) (place number : ℕ) → slice_get (numbers_of nights night) place ≡ Some number → slice_get table number ≡ Some (record { night = night; place = place })

-- the numbers of nights have a table, and are taken; so no two tracklets have one number. What is taken has an entry in the table
pub record IsRegister (nights : List NightNumbers) (table : List Place) (taken : List Bool) : Type 0 where
  pub leads : LeadsToPlaces table nights
  pub held : (night : ℤ) (number : ℕ) → Contains (numbers_of nights night) number → is_taken taken number ≡ true
  pub within : (number : ℕ) → is_taken taken number ≡ true → number < length table
  pub few : (night : ℤ) → length (numbers_of nights night) < 2 ^ 32

-- what a register is seen as: the numbers of the tracklets of its nights, and which numbers are taken
pub record RegisterData : Type 0 where
  pub nights : List NightNumbers
  pub taken : List Bool

-- the same numbers of each night, and the same numbers are taken
pub record AreAlike (old new : RegisterData) : Type 0 where
  pub nights : (night : ℤ) → numbers_of new.nights night ≡ numbers_of old.nights night
  pub taken : (number : ℕ) → is_taken new.taken number ≡ is_taken old.taken number

-- a number of a tracklet of a night before one
abbrev pub IsBefore : List NightNumbers → ℤ → ℕ → Type 0
IsBefore nights first number = (night : ℤ) × (night <ℤ first) × Contains (numbers_of nights night) number

-- a register has a number for each tracklet of some nights
abbrev pub HasNumbersOf : List NightNumbers → List NightData → Type 0
HasNumbersOf register nights = (night : NightData) → Contains nights night → length (numbers_of register night.number) ≡ length night.tracklets

-- nights with the numbers that a register has for their tracklets
abbrev pub with_numbers : List NightNumbers → List NightData → List NumberedNightData
with_numbers register nights = map (λ (night : NightData). record { number = night.number; tracklets = numbered_by (numbers_of register night.number) night.tracklets }) nights

-- two lists of nights that differ in the tracklets of one night at most; where that night isn't there, it has none
pub record DifferAt (night : ℤ) (before after : NightTracklets) (old new : List NightData) : Type 0 where
  pub stay : (kept : NightData) → ¬ (kept.number ≡ night) → Contains old kept → Contains new kept
  pub stood : (kept : NightData) → ¬ (kept.number ≡ night) → Contains new kept → Contains old kept
  pub was : (kept : NightData) → kept.number ≡ night → Contains old kept → kept.tracklets ≡ before
  pub is : (kept : NightData) → kept.number ≡ night → Contains new kept → kept.tracklets ≡ after
  pub had : (tracklet : TrackletData) → Contains before tracklet → (kept : NightData) × Contains old kept × (kept.number ≡ night)
  pub has : (tracklet : TrackletData) → Contains after tracklet → (kept : NightData) × Contains new kept × (kept.number ≡ night)

-- of two lists of nights the second has those of the first that are not before a night
pub record IsCutBefore (first : ℤ) (old new : List NightData) : Type 0 where
  pub stay : (kept : NightData) → ¬ (kept.number <ℤ first) → Contains old kept → Contains new kept
  pub stood : (kept : NightData) → Contains new kept → Contains old kept
  pub late : (kept : NightData) → Contains new kept → ¬ (kept.number <ℤ first)

-- of two lists of nights the second has those of the first that are not the night of a number
pub record IsWithout (number : ℤ) (old new : List NightData) : Type 0 where
  pub stay : (kept : NightData) → ¬ (kept.number ≡ number) → Contains old kept → Contains new kept
  pub stood : (kept : NightData) → Contains new kept → Contains old kept
  pub other : (kept : NightData) → Contains new kept → ¬ (kept.number ≡ number)
