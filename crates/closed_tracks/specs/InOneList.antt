-- The tracklets of some nights in one list, one night after the other, and numbered by their places in it.
use Rattle.std.specs.Prelude.{ℕ, ℤ, ◌+◌, ◌<◌, List, [], ◌∷◌, ◌++◌, length, map, get_or}
use Rattle.std.specs.List.{All, range_with_len}
use Rattle.night_tree.specs.Nights.{NightData}
use Rattle.sky_units.specs.TrackletData.{IsTrackSet, TrackletData, TrackSetData}
use Rattle.set_grow.specs.Nights.{NumberedNightData, numbered_by}
use Rattle.set_grow.specs.declared.places.Place.{Place}

-- the tracklets of all nights
abbrev pub all_tracklets : List NightData → List TrackletData
all_tracklets [] = []
all_tracklets (night ∷ nights) = night.tracklets ++ all_tracklets nights

-- a place among the tracklets of a night
abbrev pub place_in : ℤ → ℕ → Place
place_in night place = record { night = night; place = place }

-- the places of the tracklets of all nights
abbrev pub all_places : List NightData → List Place
all_places [] = []
all_places (night ∷ nights) = map (place_in night.number) (range_with_len 0 (length night.tracklets)) ++ all_places nights

-- the nights with numbers for their tracklets, which begin with this one and follow one another
abbrev pub numbered_from : ℕ → List NightData → List NumberedNightData
numbered_from first [] = []
numbered_from first (night ∷ nights) =
    record { number = night.number; tracklets = numbered_by (range_with_len first (length night.tracklets)) night.tracklets } ∷ numbered_from (first + length night.tracklets) nights

-- the tracklets of some numbers, which are places in a list of tracklets
abbrev pub tracklets_numbered : List TrackletData → List ℕ → TrackSetData
tracklets_numbered tracklets numbers = map (λ number. get_or tracklets number []) numbers

-- numbers whose tracklets are a set of tracklets
pub record AreOfSet (tracklets : List TrackletData) (numbers : List ℕ) : Type 0 where
  pub within : All (λ number. number < length tracklets) numbers
  pub set : IsTrackSet (tracklets_numbered tracklets numbers)
