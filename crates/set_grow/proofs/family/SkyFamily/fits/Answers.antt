use Rattle.std.proofs.Common.{◌≡◌, ◌↔◌, ◌∙◌, List, IsTrue, false, get_or, sym, subst, ap}
use Rattle.std.proofs.lemmas.Bool.{false≢true}
use Rattle.std.proofs.lemmas.List.Elements.{Contains-get_or}
use Rattle.std.specs.List.{All}
use Rattle.sky_units.specs.Arcs.{IsArc}
use Rattle.sky_units.specs.Motion.{Fits}
use Rattle.sky_units.specs.SpotData.{SpotData}
use Rattle.sky_units.specs.TrackletData.{TrackSetData, spots_of}
use Rattle.set_grow.specs.Nights.{by_night}
use Rattle.set_grow.specs.Numbered.{AreTrackletsOf}
use Rattle.set_grow.specs.Seats.{AreSeatsOf, IsSeat, tracklets_at}
use Rattle.set_grow.specs.SkyData.{FitsWithParts, SkyData}
use Rattle.set_grow.specs.declared.seats.Seat.{Seat}
use Rattle.set_grow.proofs.Seating.{are_seats}
use Rattle.set_grow.proofs.SkyFits.{fits_there, sky_of}
use Rattle.set_grow.proofs.family.SkyFamily.fits.Goals as goal

pub returns-in_default-clause-fits : goal.returns-in_default-clause-fits
returns-in_default-clause-fits c =
    let none : (tracklets : TrackSetData) → ¬ AreTrackletsOf (by_night c.self.inside.nights.now) c.args.set.now tracklets = rw c.in_default.is at c.in_ok-seats.ensures in
    let says : IsTrue false ↔ FitsWithParts (sky_of c.self.inside.settings.now c.self.inside.nights.now c.self.inside.table.now) c.args.set.now = (
      λ t. absurd (false≢true t),
      λ f. absurd (none f.fits.tracklets f.fits.are),
    ) in
    subst (λ (s : SkyData). IsTrue false ↔ FitsWithParts s c.args.set.now) c.self.view_is says

pub joined-requires : goal.joined-requires
joined-requires c =
    let seats : AreSeatsOf c.self.inside.nights.now c.args.set.now c.in-Some.seats.items = rw c.in-Some.is at c.in_ok-seats.ensures in
    let all : All (IsSeat c.self.inside.nights.now) c.in-Some.seats.items = λ k d l. are_seats c.self.inside.nights.now c.args.set.now c.in-Some.seats.items seats (get_or c.in-Some.seats.items k d) (Contains-get_or c.in-Some.seats.items k d l) in
    subst (All (IsSeat c.self.inside.nights.now)) (sym c.as_slice.ensures.value) all

pub returns-clause-fits : goal.returns-clause-fits
returns-clause-fits c =
    let seats : AreSeatsOf c.self.inside.nights.now c.args.set.now c.in-Some.seats.items = rw c.in-Some.is at c.in_ok-seats.ensures in
    let there = fits_there c.self.inside.settings.now c.self.inside.nights.now c.self.inside.table.now c.args.set.now c.in-Some.seats.items c.self.invariant.0 c.requires seats in
    let spots : c.as_slice-2.result.now ≡ spots_of (tracklets_at c.self.inside.nights.now c.in-Some.seats.items) = c.as_slice-2.ensures.value ∙ (c.in_ok-spots.ensures ∙ ap (λ (list : List Seat). spots_of (tracklets_at c.self.inside.nights.now list)) c.as_slice.ensures.value) in
    let test : IsTrue c.is_fitting_arc.result ↔ (IsArc (spots_of (tracklets_at c.self.inside.nights.now c.in-Some.seats.items)) × Fits c.self.inside.settings.now (spots_of (tracklets_at c.self.inside.nights.now c.in-Some.seats.items))) =
    subst (λ (list : List SpotData). IsTrue c.is_fitting_arc.result ↔ (IsArc list × Fits c.self.inside.settings.now list)) spots c.is_fitting_arc.ensures.fits in
    let says : IsTrue c.is_fitting_arc.result ↔ FitsWithParts (sky_of c.self.inside.settings.now c.self.inside.nights.now c.self.inside.table.now) c.args.set.now = (λ t. there.0 (test.0 t), λ f. test.1 (there.1 f)) in
    subst (λ (s : SkyData). IsTrue c.is_fitting_arc.result ↔ FitsWithParts s c.args.set.now) c.self.view_is says
