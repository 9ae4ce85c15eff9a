-- Which tracklets a join wants: those that fit together, in boxes that were made with the tolerances of the settings.
use Rattle.std.specs.Prelude.{◌≡◌, ◌++◌}
use Rattle.sky_units.specs.Arcs.{IsArc}
use Rattle.sky_units.specs.Motion.{Fits}
use Rattle.sky_units.specs.SettingsData.{SettingsData}
use Rattle.sky_units.specs.TrackletData.{IsTracklet}
use Rattle.bound_prune.specs.Boxes.{BoxedTracklet}

-- a tracklet in a box that was made with the tolerances of the settings
pub record HasTolerances (settings : SettingsData) (box : BoxedTracklet) : Type 0 where
  pub tracklet : IsTracklet box.spots
  pub ra : box.tol_ra ≡ settings.tol_ra
  pub dec : box.tol_dec ≡ settings.tol_dec

-- two tracklets may be tested: their boxes were made with the tolerances of the settings, and the one after the other they are an arc
pub record AreArc (settings : SettingsData) (a b : BoxedTracklet) : Type 0 where
  pub first : HasTolerances settings a
  pub second : HasTolerances settings b
  pub arc : IsArc (a.spots ++ b.spots)

-- two tracklets are wanted: they may be tested, and fit
pub record AreWanted (settings : SettingsData) (a b : BoxedTracklet) : Type 0 where
  pub tested : AreArc settings a b
  pub fits : Fits settings (a.spots ++ b.spots)

-- three tracklets may be tested
pub record AreArcOfThree (settings : SettingsData) (a b c : BoxedTracklet) : Type 0 where
  pub first : HasTolerances settings a
  pub second : HasTolerances settings b
  pub third : HasTolerances settings c
  pub arc : IsArc (a.spots ++ b.spots ++ c.spots)

-- three tracklets are wanted
pub record AreWantedThree (settings : SettingsData) (a b c : BoxedTracklet) : Type 0 where
  pub tested : AreArcOfThree settings a b c
  pub fits : Fits settings (a.spots ++ b.spots ++ c.spots)
