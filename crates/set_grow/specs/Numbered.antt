-- Tracklets with numbers, the choices of them, and the tracklets that a set of numbers stands for.
use Rattle.std.specs.Prelude.{ℕ, ◌≡◌, ◌⊎◌, List, [], ◌∷◌, map}
use Rattle.std.specs.List.{Contains}
use Rattle.sky_units.specs.TrackletData.{TrackletData, TrackSetData, NightTracklets}
use Rattle.sky_units.specs.Tracks.{AreAmong}

-- a tracklet and its number
pub record NumberedTracklet : Type 0 where
  pub num : ℕ
  pub tracklet : TrackletData

-- the tracklets of a night with their numbers
abbrev pub NumberedTracklets : Type 0
NumberedTracklets = List NumberedTracklet

-- the numbers of some tracklets
abbrev pub numbers_in : NumberedTracklets → List ℕ
numbers_in list = map (λ (one : NumberedTracklet). one.num) list

-- the same tracklets without their numbers
abbrev pub without_numbers : NumberedTracklets → List TrackletData
without_numbers list = map (λ (one : NumberedTracklet). one.tracklet) list

-- the tracklets of each night without their numbers
abbrev pub tracklets_in : List NumberedTracklets → List NightTracklets
tracklets_in nights = map without_numbers nights

-- at most one tracklet of each night, in the order of the nights
abbrev pub IsNumberedChoice : List NumberedTracklets → NumberedTracklets → Type 0
IsNumberedChoice [] chosen = chosen ≡ []
IsNumberedChoice (night ∷ nights) chosen = IsNumberedChoice nights chosen ⊎ ((first : NumberedTracklet) × (rest : NumberedTracklets) × Contains night first × (chosen ≡ first ∷ rest) × IsNumberedChoice nights rest)

-- a numbered tracklet of some night
abbrev pub IsNumberedIn : List NumberedTracklets → NumberedTracklet → Type 0
IsNumberedIn nights one = (night : NumberedTracklets) × Contains nights night × Contains night one

-- no two tracklets have one number, and no two numbers are of one tracklet
pub record AreNumbered (nights : List NumberedTracklets) : Type 0 where
  pub by_number : (one other : NumberedTracklet) → IsNumberedIn nights one → IsNumberedIn nights other → one.num ≡ other.num → one ≡ other
  pub by_tracklet : (one other : NumberedTracklet) → IsNumberedIn nights one → IsNumberedIn nights other → one.tracklet ≡ other.tracklet → one ≡ other

-- the tracklets of a set of numbers: those of a choice that has exactly these numbers
pub record AreTrackletsOf (nights : List NumberedTracklets) (set : List ℕ) (tracklets : TrackSetData) : Type 0 where
  pub chosen : NumberedTracklets
  pub choice : IsNumberedChoice nights chosen
  pub found : AreAmong set (numbers_in chosen)
  pub wanted : AreAmong (numbers_in chosen) set
  pub are : tracklets ≡ without_numbers chosen
