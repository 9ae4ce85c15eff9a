-- What the steps of a change and of a list of tracks rely on.
use Rattle.std.specs.Prelude.{ℕ, ◌≡◌, ℤ, List, [], ◌∷◌}
use Rattle.std.specs.List.{find}
use Rattle.std.specs.Option.{option_map_or}
use Rattle.std.specs.Ordering.{int_eq}
use Rattle.closed_sets.specs.Families.{IsSet}
use Rattle.kept_sets.specs.Kept.{AreKept}
use Rattle.night_tree.specs.Nights.{NightData}
use Rattle.set_grow.specs.Fitting.{FitsByNumber}
use Rattle.set_grow.specs.Nights.{HaveRisingNumbers, NumberedNightData, by_night}
use Rattle.set_grow.specs.Numbered.{AreTrackletsOf, NumberedTracklets, tracklets_in}
use Rattle.sky_units.specs.SettingsData.{SettingsData}
use Rattle.sky_units.specs.TrackletData.{NightTracklets, TrackSetData}
use Rattle.sky_units.specs.Tracks.{AreNights}
use Rattle.tracklet_register.specs.Exchanges.{AreExchanged}

-- the tracklets of the night of a number, none where it isn't there
abbrev pub tracklets_of_night : List NightData → ℤ → NightTracklets
tracklets_of_night nights number = option_map_or (λ (night : NightData). night.tracklets) (find (λ (night : NightData). int_eq night.number number) nights) []

-- the sets are those that are kept of nights from which some tracklets went and to which others came
pub record IsExchangeOf (settings : SettingsData) (went came : List ℕ) (sets : List (List ℕ)) (new : List NumberedNightData) : Type 0 where
  pub old : List NumberedNightData
  pub rising : HaveRisingNumbers old
  pub in_time : AreNights (tracklets_in (by_night old))
  pub exchanged : AreExchanged went came old new
  pub kept : AreKept (FitsByNumber settings (by_night old)) sets

-- a set of the numbers of tracklets of different nights
pub record HasTracklets (nights : List NumberedTracklets) (set : List ℕ) : Type 0 where
  pub is_set : IsSet set
  pub tracklets : TrackSetData
  pub are : AreTrackletsOf nights set tracklets

-- the tracklets of each set, in the order of the sets
abbrev pub AreTracksInOrder : List NumberedTracklets → List (List ℕ) → List TrackSetData → Type 0
AreTracksInOrder nights [] tracks = tracks ≡ []
AreTracksInOrder nights (set ∷ sets) tracks = (track : TrackSetData) × (rest : List TrackSetData) × (tracks ≡ track ∷ rest) × AreTrackletsOf nights set track × AreTracksInOrder nights sets rest
