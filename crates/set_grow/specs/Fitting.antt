-- Fitting sets of tracklets as sets of numbers.
use Rattle.std.specs.Prelude.{ℕ, ◌≤◌, ◌↔◌, List, length}
use Rattle.std.specs.List.{Contains}
use Rattle.closed_sets.specs.Families.{IsClosed, IsSet}
use Rattle.sky_units.specs.Arcs.{MeetSpreadRule}
use Rattle.sky_units.specs.Motion.{Fits}
use Rattle.sky_units.specs.SettingsData.{SettingsData}
use Rattle.sky_units.specs.TrackletData.{TrackSetData, spots_of}
use Rattle.set_grow.specs.Numbered.{AreTrackletsOf, NumberedTracklets}

-- a set of numbers fits: the spots of its tracklets, at most one of each night, meet the spread rule and are admitted on both axes
pub record FitsByNumber (settings : SettingsData) (nights : List NumberedTracklets) (set : List ℕ) : Type 0 where
  pub is_set : IsSet set
  pub tracklets : TrackSetData
  pub are : AreTrackletsOf nights set tracklets
  pub spread : MeetSpreadRule (spots_of tracklets)
  pub fits : Fits settings (spots_of tracklets)

-- exactly the closed sets of three or more numbers
abbrev pub HasClosedSets : SettingsData → List NumberedTracklets → List (List ℕ) → Type 0
HasClosedSets settings nights sets = (set : List ℕ) → Contains sets set ↔ (IsClosed (FitsByNumber settings nights) set × (3 ≤ length set))
