use Rattle.std.proofs.Common.{◌≡◌, ◌<◌, ◌∙◌, length, rules}
use Rattle.set_grow.proofs.Seating.{place_within, seat_within, tracklet_there}
use Rattle.set_grow.specs.Seats.{one_at}
use Rattle.kept_tracks.proofs.tracks.copy_at.Goals as goal

pub bounds-nights-seat : goal.bounds-nights-seat
bounds-nights-seat c = seat_within c.args.nights.now c.args.seat c.requires

pub offset_bounds-nights-seat : goal.offset_bounds-nights-seat
offset_bounds-nights-seat c =
    let l : c.args.seat.night < length c.args.nights.now = seat_within c.args.nights.now c.args.seat c.requires in
    search rules

pub bounds-tracklets-seat : goal.bounds-tracklets-seat
bounds-tracklets-seat c = rw (c.tracklets.ensures, c.index-nights-seat.is) (place_within c.args.nights.now _ _ c.requires)

pub offset_bounds-tracklets-seat : goal.offset_bounds-tracklets-seat
offset_bounds-tracklets-seat c =
    let l : c.args.seat.place < length c.tracklets.result.now = rw (c.tracklets.ensures, c.index-nights-seat.is) (place_within c.args.nights.now _ _ c.requires) in
    search rules

pub returns : goal.returns
returns c =
    let there : c.index-tracklets-seat.result ≡ (one_at c.args.nights.now c.args.seat).tracklet = c.index-tracklets-seat.is ∙ rw (c.tracklets.ensures, c.index-nights-seat.is) (tracklet_there c.args.nights.now _ _ _ c.requires) in
    c.of_rising.ensures ∙ (c.in_ok-spots.ensures.items ∙ (c.spots.ensures.value ∙ there))
