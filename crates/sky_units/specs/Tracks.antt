-- Fitting sets of tracklets, tracks, and maximal tracks of some nights. `nights` has, for each night in order of time, its tracklets.
use Rattle.std.specs.Prelude.{ℕ, ◌≡◌, ◌≤◌, ◌-ℤ◌, ◌<ℤ◌, ◌⊎◌, ◌↔◌, List, [], ◌∷◌, length, map}
use Rattle.std.specs.List.{All, Contains}
use Rattle.sky_math.specs.Lists.{EachTwo}
use Rattle.sky_units.specs.Arcs.{MeetSpreadRule}
use Rattle.sky_units.specs.Limits.{arc_ticks}
use Rattle.sky_units.specs.Motion.{Fits}
use Rattle.sky_units.specs.SettingsData.{SettingsData}
use Rattle.sky_units.specs.SpotData.{SpotData}
use Rattle.sky_units.specs.TrackletData.{TrackletData, TrackSetData, NightTracklets, IsTracklet, spots_of}

-- a set has at most one tracklet of each night, in the order of the nights
abbrev pub IsChoice : List NightTracklets → TrackSetData → Type 0
IsChoice [] set = set ≡ []
IsChoice (night ∷ nights) set = IsChoice nights set ⊎ ((tracklet : TrackletData) × (rest : TrackSetData) × Contains night tracklet × (set ≡ tracklet ∷ rest) × IsChoice nights rest)

-- a fitting set: at most one tracklet of each night, whose spots meet the spread rule and are admitted on both axes
pub record IsFittingSet (settings : SettingsData) (nights : List NightTracklets) (set : TrackSetData) : Type 0 where
  pub choice : IsChoice nights set
  pub spread : MeetSpreadRule (spots_of set)
  pub fits : Fits settings (spots_of set)

-- a track: a fitting set with tracklets of three or more nights
pub record IsTrack (settings : SettingsData) (nights : List NightTracklets) (set : TrackSetData) : Type 0 where
  pub fitting : IsFittingSet settings nights set
  pub three : 3 ≤ length set

-- all elements of one list are among those of another
abbrev pub AreAmong : {X : Type 0} → List X → List X → Type 0
AreAmong {X} xs ys = All (Contains ys) xs

-- a maximal track: its spots aren't properly contained in those of another track
pub record IsMaximalTrack (settings : SettingsData) (nights : List NightTracklets) (set : TrackSetData) : Type 0 where
  pub track : IsTrack settings nights set
  pub maximal : (other : TrackSetData) → IsTrack settings nights other → AreAmong (spots_of set) (spots_of other) → AreAmong (spots_of other) (spots_of set)

-- the maximal tracks, each once
pub record AreMaximalTracks (settings : SettingsData) (nights : List NightTracklets) (list : List TrackSetData) : Type 0 where
  pub once : EachTwo (λ one other. one ≡ other → ⊥) list
  pub listed : (set : TrackSetData) → Contains list set ↔ IsMaximalTrack settings nights set

-- the numbers of the spots of a set, in their order
abbrev pub numbers_of : TrackSetData → List ℕ
numbers_of set = map (λ (spot : SpotData). spot.num) (spots_of set)

-- a spot of a tracklet of a night
abbrev pub IsOfNight : NightTracklets → SpotData → Type 0
IsOfNight night spot = (tracklet : TrackletData) × Contains night tracklet × Contains tracklet spot

-- a spot of a tracklet of some night
abbrev pub IsHeld : List NightTracklets → SpotData → Type 0
IsHeld nights spot = (night : NightTracklets) × Contains nights night × IsOfNight night spot

-- each spot of one night is before each of another
abbrev pub IsNightBefore : NightTracklets → NightTracklets → Type 0
IsNightBefore one other = (spot later : SpotData) → IsOfNight one spot → IsOfNight other later → spot.epoch <ℤ later.epoch

-- the tracklets of nights that follow one another within the time of an arc; no two spots have one number
pub record AreNights (nights : List NightTracklets) : Type 0 where
  pub tracklets : All (All IsTracklet) nights
  pub follow : EachTwo IsNightBefore nights
  pub short : (spot later : SpotData) → IsHeld nights spot → IsHeld nights later → (later.epoch -ℤ spot.epoch) <ℤ arc_ticks
  pub numbered : (spot other : SpotData) → IsHeld nights spot → IsHeld nights other → spot.num ≡ other.num → spot ≡ other
