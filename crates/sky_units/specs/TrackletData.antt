-- A tracklet is two or more spots of rising epochs. A set of tracklets is a list of them whose spots, one tracklet after the other,
-- have rising epochs.
use Rattle.std.specs.Prelude.{◌≤◌, List, [], ◌∷◌, ◌++◌, length}
use Rattle.sky_units.specs.Arcs.{HaveRisingEpochs}
use Rattle.sky_units.specs.SpotData.{SpotData}

-- a tracklet: its spots, in order of time
abbrev pub TrackletData : Type 0
TrackletData = List SpotData

-- a set of tracklets, in order of time
abbrev pub TrackSetData : Type 0
TrackSetData = List TrackletData

-- the tracklets of a night, in the order in which they are listed
abbrev pub NightTracklets : Type 0
NightTracklets = List TrackletData

pub record IsTracklet (spots : TrackletData) : Type 0 where
  pub two : 2 ≤ length spots
  pub rising : HaveRisingEpochs spots

-- the spots of tracklets, one tracklet after the other
abbrev pub spots_of : TrackSetData → List SpotData
spots_of [] = []
spots_of (tracklet ∷ rest) = tracklet ++ spots_of rest

pub record IsTrackSet (tracklets : TrackSetData) : Type 0 where
  pub rising : HaveRisingEpochs (spots_of tracklets)
