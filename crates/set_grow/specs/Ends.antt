-- The ends of the boxes of the tracklets of some nights, and which tracklets may be of one object by them.
use Rattle.std.specs.Prelude.{ℕ, ◌<◌, ◌⊎◌, List, map}
use Rattle.sky_units.specs.SettingsData.{SettingsData}
use Rattle.sky_units.specs.TrackletData.{NightTracklets, TrackletData}
use Rattle.bound_prune.specs.BoxEnds.{boxed, ends_of}
use Rattle.bound_prune.specs.Bounds.{May}
use Rattle.bound_prune.specs.EndsData.{EndsData, bounds_of}
use Rattle.set_grow.specs.Nights.{NumberedNightData}
use Rattle.set_grow.specs.Numbered.{without_numbers}
use Rattle.set_grow.specs.Seats.{one_at}
use Rattle.set_grow.specs.declared.seats.Seat.{Seat}

-- the ends of a tracklet's box, by the tolerances of the settings
abbrev pub ends_at : SettingsData → TrackletData → EndsData
ends_at settings tracklet = ends_of (boxed tracklet settings.tol_ra settings.tol_dec)

-- those of each tracklet of a night, and of each night
abbrev pub ends_in : SettingsData → NightTracklets → List EndsData
ends_in settings tracklets = map (ends_at settings) tracklets

abbrev pub ends_by_night : SettingsData → List NumberedNightData → List (List EndsData)
ends_by_night settings nights = map (λ (night : NumberedNightData). ends_in settings (without_numbers night.tracklets)) nights

-- the ends of the tracklet at a seat
abbrev pub ends_there : SettingsData → List NumberedNightData → Seat → EndsData
ends_there settings nights seat = ends_at settings (one_at nights seat).tracklet

-- ends in two nights, one of them later, may be of one object
abbrev pub MayGo : SettingsData → ℕ → EndsData → ℕ → EndsData → Type 0
MayGo settings night ends other_night other_ends =
    ((night < other_night) × May settings (bounds_of ends) (bounds_of other_ends)) ⊎ ((other_night < night) × May settings (bounds_of other_ends) (bounds_of ends))
