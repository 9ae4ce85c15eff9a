-- Nights whose tracklets have numbers, and the table that leads from a number to the place of its tracklet.
use Rattle.std.specs.Prelude.{ℕ, ◌≡◌, ℤ, ◌<ℤ◌, List, [], ◌∷◌, map, Some, slice_get}
use Rattle.std.specs.List.{Contains}
use Rattle.sky_math.specs.Lists.{EachTwo}
use Rattle.sky_units.specs.TrackletData.{NightTracklets}
use Rattle.sky_units.specs.Tracks.{AreNights}
use Rattle.set_grow.specs.Numbered.{NumberedTracklet, NumberedTracklets, tracklets_in}
use Rattle.set_grow.specs.declared.places.Place.{Place}

-- a night's number, and its tracklets with their numbers
pub record NumberedNightData : Type 0 where
  pub number : ℤ
  pub tracklets : NumberedTracklets

-- tracklets with numbers that stand in the same order
abbrev pub numbered_by : List ℕ → NightTracklets → NumberedTracklets
numbered_by [] tracklets = []
numbered_by (num ∷ rest) [] = []
numbered_by (num ∷ rest) (tracklet ∷ tracklets) = record { num = num; tracklet = tracklet } ∷ numbered_by rest tracklets

-- the numbered tracklets of each night
abbrev pub by_night : List NumberedNightData → List NumberedTracklets
by_night nights = map (λ (night : NumberedNightData). night.tracklets) nights

-- the numbers of the nights rise
abbrev pub HaveRisingNumbers : List NumberedNightData → Type 0
HaveRisingNumbers = EachTwo (λ one other. one.number <ℤ other.number)

-- a table leads from the number of each tracklet to its night and its place there
abbrev pub LeadsToEach : List Place → List NumberedNightData → Type 0
LeadsToEach table nights = (night : NumberedNightData) (place : ℕ) (one : NumberedTracklet) → Contains nights night → slice_get night.tracklets place ≡ Some one → slice_get table one.num ≡ Some (record { night = night.number; place = place })

-- nights in order of time, which follow one another within the time of an arc, and a table of their tracklets
pub record AreInPlace (nights : List NumberedNightData) (table : List Place) : Type 0 where
  pub in_time : AreNights (tracklets_in (by_night nights))
  pub rising : HaveRisingNumbers nights
  pub leads : LeadsToEach table nights
