-- What sets of places are, whose spots belong together.
use Rattle.std.specs.Prelude.{ℕ, ◌<◌, List, length}
use Rattle.std.specs.List.{All}
use Rattle.sky_units.specs.Arcs.{IsArc}
use Rattle.sky_units.specs.AtPlaces.{spots_at}
use Rattle.sky_units.specs.SpotData.{SpotData}
use Rattle.sky_units.specs.TrackletData.{IsTracklet}
use Rattle.line_fit.specs.Slopes.{AreOfOneDay}

-- places of spots that are an arc within one day
pub record IsGroup (spots : List SpotData) (places : List ℕ) : Type 0 where
  pub within : All (λ p. p < length spots) places
  pub arc : IsArc (spots_at spots places)
  pub day : AreOfOneDay (spots_at spots places)

-- places of spots that are a tracklet
pub record IsSet (spots : List SpotData) (places : List ℕ) : Type 0 where
  pub within : All (λ p. p < length spots) places
  pub tracklet : IsTracklet (spots_at spots places)
