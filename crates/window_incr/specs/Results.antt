-- The results that a linker keeps: they are those of a run from scratch.
use Rattle.std.specs.Prelude.{◌≡◌, map}
use Rattle.kept_nights.specs.KeptNights.{nights_of}
use Rattle.kept_sets.specs.Kept.{AreKept}
use Rattle.night_tree.specs.Nights.{NightData}
use Rattle.set_grow.specs.Fitting.{FitsByNumber}
use Rattle.set_grow.specs.Nights.{NumberedNightData, by_night}
use Rattle.set_grow.specs.Numbered.{without_numbers}
use Rattle.window_incr.specs.LinkerState.{LinkerData}

-- a night without the numbers of its tracklets
abbrev pub plain_night : NumberedNightData → NightData
plain_night night = record { number = night.number; tracklets = without_numbers night.tracklets }

-- the kept nights are those with held exposures, each with exactly the tracklets of its held detections; each tracklet has a number, and the kept sets are exactly
-- the closed sets of three or more tracklets, each once
pub record KeepsResults (l : LinkerData) : Type 0 where
  pub nights : l.nights ≡ nights_of l.state
  pub numbered : map plain_night l.numbered ≡ l.nights
  pub sets : AreKept (FitsByNumber l.state.settings (by_night l.numbered)) l.sets
