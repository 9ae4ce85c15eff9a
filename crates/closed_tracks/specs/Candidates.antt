-- Tracks among which the maximal ones are found.
use Rattle.std.specs.Prelude.{◌≡◌, ◌↔◌, List}
use Rattle.std.specs.List.{Contains}
use Rattle.sky_math.specs.Lists.{EachTwo}
use Rattle.sky_units.specs.SettingsData.{SettingsData}
use Rattle.sky_units.specs.TrackletData.{NightTracklets, TrackSetData}
use Rattle.sky_units.specs.Tracks.{IsChoice, IsMaximalTrack}
use Rattle.set_grow.specs.Laws.{IsInNone}

-- choices of tracklets, each once; those of them whose spots lie properly in those of no other are exactly the maximal tracks
pub record AreCandidates (settings : SettingsData) (nights : List NightTracklets) (tracks : List TrackSetData) : Type 0 where
  pub choices : (track : TrackSetData) → Contains tracks track → IsChoice nights track
  pub once : EachTwo (λ one other. one ≡ other → ⊥) tracks
  pub maximal : (track : TrackSetData) → IsMaximalTrack settings nights track ↔ (Contains tracks track × IsInNone tracks track)
