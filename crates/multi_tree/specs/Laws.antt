-- What fitting triples are to the nights that they are of: the fitting sets of three.
use Rattle.std.specs.Prelude.{ℕ, ◌≡◌, ◌-ℤ◌, ◌<ℤ◌, ◌↔◌, Some, List, [], ◌∷◌, map}
use Rattle.std.specs.List.{All, slice_get}
use Rattle.sky_math.specs.Lists.{EachTwo}
use Rattle.sky_units.specs.Limits.{arc_ticks}
use Rattle.sky_units.specs.SettingsData.{SettingsData}
use Rattle.sky_units.specs.SpotData.{SpotData}
use Rattle.sky_units.specs.TrackletData.{NightTracklets}
use Rattle.sky_units.specs.Tracks.{IsFittingSet, IsHeld, IsNightBefore}
use Rattle.bound_prune.specs.Boxes.{BoxedTracklet}
use Rattle.bound_prune.specs.Wanted.{HasTolerances}
use Rattle.multi_tree.specs.Triples.{IsFittingTriple}

-- the tracklets in some boxes
abbrev pub tracklets_in : List BoxedTracklet → NightTracklets
tracklets_in boxes = map (λ (box : BoxedTracklet). box.spots) boxes

-- the tracklets of three nights
abbrev pub three_nights : List BoxedTracklet → List BoxedTracklet → List BoxedTracklet → List NightTracklets
three_nights xs ys zs = tracklets_in xs ∷ tracklets_in ys ∷ tracklets_in zs ∷ []

-- three nights that follow one another within the time of an arc, in boxes that were made with the tolerances of the settings
pub record AreThreeNights (settings : SettingsData) (xs ys zs : List BoxedTracklet) : Type 0 where
  pub first : All (HasTolerances settings) xs
  pub second : All (HasTolerances settings) ys
  pub third : All (HasTolerances settings) zs
  pub follow : EachTwo IsNightBefore (three_nights xs ys zs)
  pub short : (spot later : SpotData) → IsHeld (three_nights xs ys zs) spot → IsHeld (three_nights xs ys zs) later → (later.epoch -ℤ spot.epoch) <ℤ arc_ticks

-- of such nights the fitting triples are the fitting sets of three tracklets
abbrev pub FittingTriplesAreFittingSets : Type 0
FittingTriplesAreFittingSets = (settings : SettingsData) (xs ys zs : List BoxedTracklet) (triple : ℕ × ℕ × ℕ) (x y z : BoxedTracklet) → AreThreeNights settings xs ys zs →
    slice_get xs triple.0 ≡ Some x → slice_get ys triple.1 ≡ Some y → slice_get zs triple.2 ≡ Some z →
    IsFittingTriple settings xs ys zs triple ↔ IsFittingSet settings (three_nights xs ys zs) (x.spots ∷ y.spots ∷ z.spots ∷ [])
