-- How fitting sets grow by a tracklet of the next night.
use Rattle.std.specs.Prelude.{◌≡◌, List, [], ◌∷◌, ◌++◌}
use Rattle.std.specs.List.{Contains}
use Rattle.sky_units.specs.Arcs.{HaveRisingEpochs, AreWithinArcTime, MeetSpreadRule}
use Rattle.sky_units.specs.Motion.{Fits}
use Rattle.sky_units.specs.SettingsData.{SettingsData}
use Rattle.sky_units.specs.SpotData.{SpotData}
use Rattle.sky_units.specs.TrackletData.{TrackletData, TrackSetData, NightTracklets, spots_of}

-- spots that may be tested together: their epochs rise, over less time than an arc may last
pub record AreTestable (spots : List SpotData) : Type 0 where
  pub rising : HaveRisingEpochs spots
  pub short : AreWithinArcTime spots

-- spots that fit together: near one another, and admitted on both axes
pub record FitTogether (settings : SettingsData) (spots : List SpotData) : Type 0 where
  pub spread : MeetSpreadRule spots
  pub fits : Fits settings spots

-- the set may be tested with each tracklet of a night after it
abbrev pub MayGrow : TrackSetData → NightTracklets → Type 0
MayGrow set night = (tracklet : TrackletData) → Contains night tracklet → AreTestable (spots_of (set ++ tracklet ∷ []))

-- a set with one tracklet of a night after it, all of whose spots fit together
pub record IsGrown (settings : SettingsData) (set : TrackSetData) (night : NightTracklets) (grown : TrackSetData) : Type 0 where
  pub tracklet : TrackletData
  pub of_night : Contains night tracklet
  pub is : grown ≡ set ++ tracklet ∷ []
  pub fit : FitTogether settings (spots_of grown)

-- one of some sets, grown
abbrev pub IsSomeGrown : SettingsData → List TrackSetData → NightTracklets → TrackSetData → Type 0
IsSomeGrown settings sets night grown = (set : TrackSetData) × Contains sets set × IsGrown settings set night grown
