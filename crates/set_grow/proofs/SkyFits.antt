-- A set of numbers fits exactly where the spots of its tracklets are an arc that fits.
use Rattle.std.proofs.Common.{◌≡◌, ℕ, List, sym, subst, ◌↔◌}
use Rattle.closed_sets.specs.Families.{IsClosed, IsSet}
use Rattle.sky_units.specs.Arcs.{IsArc, MeetSpreadRule}
use Rattle.sky_units.specs.Motion.{Fits}
use Rattle.sky_units.specs.SettingsData.{SettingsData}
use Rattle.sky_units.specs.TrackletData.{spots_of}
use Rattle.sky_units.specs.Tracks.{IsChoice}
use Rattle.set_grow.specs.Fitting.{FitsByNumber}
use Rattle.set_grow.specs.Nights.{AreInPlace, NumberedNightData, by_night}
use Rattle.set_grow.specs.Numbered.{tracklets_in}
use Rattle.set_grow.specs.Seats.{AreSeatsOf, tracklets_at}
use Rattle.set_grow.specs.SkyData.{FitsWithParts, SkyData}
use Rattle.set_grow.specs.declared.places.Place.{Place}
use Rattle.set_grow.specs.declared.seats.Seat.{Seat}
use Rattle.set_grow.proofs.Choices.{arc_of_choice}
use Rattle.set_grow.proofs.Chosen.{plain_choice}
use Rattle.set_grow.proofs.Heredity.{parts_fit}
use Rattle.set_grow.proofs.Seating.{one_list, tracklets_there}

abbrev pub sky_of : SettingsData → List NumberedNightData → List Place → SkyData
sky_of settings nights table = record { settings = settings; nights = nights; table = table }

pub with_its_parts : (settings : SettingsData) (nights : List NumberedNightData) (table : List Place) (set : List ℕ) → AreInPlace nights table → FitsByNumber settings (by_night nights) set → FitsWithParts (sky_of settings nights table) set
with_its_parts settings nights table set p f = record { parts = parts_fit settings (by_night nights) p.in_time; fits = f }

pub fits_there : (settings : SettingsData) (nights : List NumberedNightData) (table : List Place) (set : List ℕ) (seats : List Seat) → AreInPlace nights table → IsSet set → AreSeatsOf nights set seats →
    (IsArc (spots_of (tracklets_at nights seats)) × Fits settings (spots_of (tracklets_at nights seats))) ↔ FitsWithParts (sky_of settings nights table) set
fits_there settings nights table set seats p is_set s = (
  λ w. with_its_parts settings nights table set p (record {
    is_set = is_set;
    tracklets = tracklets_at nights seats;
    are = tracklets_there nights set seats s;
    spread = w.0.spread;
    fits = w.1;
  }),
  λ f.
      let there = tracklets_there nights set seats s in
      let same : f.fits.tracklets ≡ tracklets_at nights seats = one_list nights table set f.fits.tracklets (tracklets_at nights seats) p f.fits.are there in
      let spread : MeetSpreadRule (spots_of (tracklets_at nights seats)) = subst (λ t. MeetSpreadRule (spots_of t)) same f.fits.spread in
      let choice : IsChoice (tracklets_in (by_night nights)) (tracklets_at nights seats) = subst (IsChoice (tracklets_in (by_night nights))) (sym there.are) (plain_choice (by_night nights) there.chosen there.choice) in
      (arc_of_choice (tracklets_in (by_night nights)) (tracklets_at nights seats) p.in_time choice spread, subst (λ t. Fits settings (spots_of t)) same f.fits.fits),
)

-- the closed sets of the two families are the same
pub closed_alike : (settings : SettingsData) (nights : List NumberedNightData) (table : List Place) (set : List ℕ) → AreInPlace nights table → IsClosed (FitsWithParts (sky_of settings nights table)) set ↔ IsClosed (FitsByNumber settings (by_night nights)) set
closed_alike settings nights table set p = (
  λ c. record { fits = c.fits.fits; full = λ other f a. c.full other (with_its_parts settings nights table other p f) a },
  λ c. record { fits = with_its_parts settings nights table set p c.fits; full = λ other f a. c.full other f.fits a },
)
