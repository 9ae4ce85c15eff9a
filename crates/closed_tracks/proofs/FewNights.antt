-- Fewer than three nights have no track.
use Rattle.std.proofs.Common.{◌≡◌, ℕ, ◌<◌, ◌≤◌, List, [], ◌∷◌, length, ap, inl, inr, arith}
use Rattle.sky_units.proofs.Members.{in_none}
use Rattle.sky_units.specs.SettingsData.{SettingsData}
use Rattle.sky_units.specs.TrackletData.{NightTracklets, TrackSetData}
use Rattle.sky_units.specs.Tracks.{AreMaximalTracks, IsChoice, IsMaximalTrack}

-- a choice has at most one tracklet of each night
choice_is_few : (nights : List NightTracklets) (set : TrackSetData) → IsChoice nights set → length set ≤ length nights
choice_is_few [] set choice = omega (arith, ap length choice)
choice_is_few (night ∷ nights) set (inl without) = omega (arith, choice_is_few nights set without)
choice_is_few (night ∷ nights) set (inr with) = omega (arith, ap length with.3, choice_is_few nights with.1 with.4)

no_track : (settings : SettingsData) (nights : List NightTracklets) → length nights < 3 → (set : TrackSetData) → IsMaximalTrack settings nights set → ⊥
no_track settings nights few set track = omega (arith, few, choice_is_few nights set track.track.fitting.choice, track.track.three)

pub none_of_few : (settings : SettingsData) (nights : List NightTracklets) → length nights < 3 → AreMaximalTracks settings nights []
none_of_few settings nights few = record {
  once = λ i j d before within same. omega (arith, within);
  listed = λ set. (λ none. absurd (in_none set none), λ track. absurd (no_track settings nights few set track));
}
