-- What holds of fitting sets as sets of numbers: of their parts, of the closed sets, and of the maximal tracks.
use Rattle.std.specs.Prelude.{ℕ, ◌≡◌, ◌↔◌, List}
use Rattle.std.specs.List.{Contains}
use Rattle.closed_sets.specs.Families.{IsClosed, IsHereditary, IsSet}
use Rattle.sky_units.specs.SettingsData.{SettingsData}
use Rattle.sky_units.specs.TrackletData.{TrackSetData, spots_of}
use Rattle.sky_units.specs.Tracks.{AreAmong, AreNights, IsMaximalTrack}
use Rattle.set_grow.specs.Fitting.{FitsByNumber, HasClosedSets}
use Rattle.set_grow.specs.Numbered.{AreNumbered, AreTrackletsOf, NumberedTracklets, tracklets_in}

-- every part of a fitting set fits
abbrev pub PartsFit : Type 0
PartsFit = (settings : SettingsData) (nights : List NumberedTracklets) → AreNights (tracklets_in nights) → IsHereditary (FitsByNumber settings nights)

-- every fitting set lies in a closed one
abbrev pub ClosedSetsHoldAll : Type 0
ClosedSetsHoldAll = (settings : SettingsData) (nights : List NumberedTracklets) (set : List ℕ) → AreNights (tracklets_in nights) → FitsByNumber settings nights set →
    (closed : List ℕ) × IsClosed (FitsByNumber settings nights) closed × AreAmong set closed

-- the tracklets of each of some sets of numbers, and no others
pub record AreTracksOf (nights : List NumberedTracklets) (sets : List (List ℕ)) (tracks : List TrackSetData) : Type 0 where
  pub each : (set : List ℕ) → Contains sets set → (track : TrackSetData) × Contains tracks track × AreTrackletsOf nights set track
  pub only : (track : TrackSetData) → Contains tracks track → (set : List ℕ) × Contains sets set × AreTrackletsOf nights set track

-- the spots of a track are properly contained in those of none of some tracks
abbrev pub IsInNone : List TrackSetData → TrackSetData → Type 0
IsInNone tracks track = (other : TrackSetData) → Contains tracks other → AreAmong (spots_of track) (spots_of other) → AreAmong (spots_of other) (spots_of track)

-- the maximal tracks are the tracklets of closed sets of three or more whose spots are properly contained in those of no other
abbrev pub MaximalTracksAreClosed : Type 0
MaximalTracksAreClosed = (settings : SettingsData) (nights : List NumberedTracklets) (sets : List (List ℕ)) (tracks : List TrackSetData) → AreNights (tracklets_in nights) → AreNumbered nights → HasClosedSets settings nights sets → AreTracksOf nights sets tracks →
    (track : TrackSetData) → IsMaximalTrack settings (tracklets_in nights) track ↔ (Contains tracks track × IsInNone tracks track)

-- two sets of numbers whose tracklets have the same spots are one
abbrev pub SpotsTellTheSet : Type 0
SpotsTellTheSet = (nights : List NumberedTracklets) (one other : List ℕ) (track rival : TrackSetData) → AreNights (tracklets_in nights) → AreNumbered nights → IsSet one → IsSet other → AreTrackletsOf nights one track → AreTrackletsOf nights other rival →
    AreAmong (spots_of track) (spots_of rival) → AreAmong (spots_of rival) (spots_of track) → one ≡ other
