-- The order of a made sky: by night, then by exposure, then by object.
use Rattle.std.specs.Prelude.{ℕ, ◌+◌, ◌-◌, ◌<◌, List, [], ◌++◌, map, Option, Some, None}
use Rattle.std.specs.List.{flat_map, range_with_len}
use Rattle.made_sky.specs.declared.sightings.Sighting.{Sighting}

abbrev pub sighting : ℕ → ℕ → ℕ → Sighting
sighting night exposure object = record { night = night; exposure = exposure; object = object }

-- those of an exposure, one for each object
abbrev pub exposure_sightings : ℕ → ℕ → ℕ → List Sighting
exposure_sightings objects night exposure = map (sighting night exposure) (range_with_len 0 objects)

-- those of a night, with two exposures
abbrev pub night_sightings : ℕ → ℕ → List Sighting
night_sightings objects night = flat_map (exposure_sightings objects night) (range_with_len 0 2)

-- all of them
abbrev pub sightings : ℕ → ℕ → List Sighting
sightings nights objects = flat_map (night_sightings objects) (range_with_len 0 nights)

-- those from one on: the rest of its exposure, of its night and of the nights
abbrev pub sightings_from : ℕ → ℕ → Sighting → List Sighting
sightings_from nights objects s =
    map (sighting s.night s.exposure) (range_with_len s.object (objects - s.object))
    ++ flat_map (exposure_sightings objects s.night) (range_with_len (s.exposure + 1) (1 - s.exposure))
    ++ flat_map (night_sightings objects) (range_with_len (s.night + 1) (nights - (s.night + 1)))

abbrev pub sightings_left : ℕ → ℕ → Option Sighting → List Sighting
sightings_left nights objects None = []
sightings_left nights objects (Some s) = sightings_from nights objects s

-- a sighting of a sky of so many nights and objects
pub record IsSighting (nights objects : ℕ) (s : Sighting) : Type 0 where
  pub night : s.night < nights
  pub exposure : s.exposure < 2
  pub object : s.object < objects

-- a walk through the sightings of a sky: its nights, its objects, and the sightings that are left
pub record Walk : Type 0 where
  pub nights : ℕ
  pub objects : ℕ
  pub left : List Sighting
