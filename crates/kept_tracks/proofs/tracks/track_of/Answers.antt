use Rattle.std.proofs.Common.{◌≡◌, get_or, sym, subst, ap, ◌∙◌}
use Rattle.std.proofs.lemmas.List.Elements.{Contains-get_or}
use Rattle.std.specs.List.{All}
use Rattle.set_grow.proofs.Seating.{are_seats, tracklets_there}
use Rattle.set_grow.specs.Nights.{by_night}
use Rattle.set_grow.specs.Numbered.{AreTrackletsOf}
use Rattle.set_grow.specs.Seats.{AreSeatsOf, IsSeat, tracklets_at}
use Rattle.sky_units.specs.TrackletData.{IsTrackSet, TrackSetData}
use Rattle.kept_tracks.proofs.Listed.{is_track_set}
use Rattle.kept_tracks.proofs.tracks.track_of.Goals as goal

pub copies_at-requires : goal.copies_at-requires
copies_at-requires c =
    let seats : AreSeatsOf c.args.nights.now c.args.numbers.now c.in-Some.seats.items = rw c.in-Some.is at c.in_ok-seats.ensures in
    let all : All (IsSeat c.args.nights.now) c.in-Some.seats.items = λ k d l. are_seats c.args.nights.now c.args.numbers.now c.in-Some.seats.items seats (get_or c.in-Some.seats.items k d) (Contains-get_or c.in-Some.seats.items k d l) in
    subst (All (IsSeat c.args.nights.now)) (sym c.as_slice.ensures.value) all

pub of_rising-requires : goal.of_rising-requires
of_rising-requires c =
    let seats : AreSeatsOf c.args.nights.now c.args.numbers.now c.in-Some.seats.items = rw c.in-Some.is at c.in_ok-seats.ensures in
    let copies : c.in_ok-copies-in-Some.copies.items ≡ tracklets_at c.args.nights.now c.in-Some.seats.items = c.in_ok-copies-in-Some.ensures ∙ ap (tracklets_at c.args.nights.now) c.as_slice.ensures.value in
    subst IsTrackSet (sym copies) (is_track_set c.args.nights.now c.args.table.now c.args.numbers.now _ c.requires.place (tracklets_there c.args.nights.now c.args.numbers.now c.in-Some.seats.items seats))

pub unreachable-requires : goal.unreachable-requires
unreachable-requires c =
    let none : (tracklets : TrackSetData) → ¬ AreTrackletsOf (by_night c.args.nights.now) c.args.numbers.now tracklets = rw c.in-None.is at c.in_ok-seats.ensures in
    none c.requires.set.tracklets c.requires.set.are

pub returns : goal.returns
returns c =
    let seats : AreSeatsOf c.args.nights.now c.args.numbers.now c.in-Some.seats.items = rw c.in-Some.is at c.in_ok-seats.ensures in
    let copies : c.in_ok-copies-in-Some.copies.items ≡ tracklets_at c.args.nights.now c.in-Some.seats.items = c.in_ok-copies-in-Some.ensures ∙ ap (tracklets_at c.args.nights.now) c.as_slice.ensures.value in
    subst (AreTrackletsOf (by_night c.args.nights.now) c.args.numbers.now) (sym (c.of_rising.ensures ∙ copies)) (tracklets_there c.args.nights.now c.args.numbers.now c.in-Some.seats.items seats)
