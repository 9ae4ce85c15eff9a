use Rattle.std.proofs.Common.{◌≡◌, ◌<◌, length, get_or, sym, ◌∙◌, rules}
use Rattle.set_grow.specs.Seats.{IsSeat, one_at}
use Rattle.set_grow.specs.declared.seats.Seat.{Seat}
use Rattle.set_grow.proofs.Seating.{place_within, seat_within, spots_more, tracklet_there}
use Rattle.set_grow.proofs.seats.joined.Goals as goal

pub bounds-nights-seat : goal.bounds-nights-seat
bounds-nights-seat c = seat_within c.args.nights.now _ (c.requires c.loop-seat.seat-index (record { night = 0; place = 0 }) c.loop-seat-test.true)

pub offset_bounds-nights-seat : goal.offset_bounds-nights-seat
offset_bounds-nights-seat c =
    let l : (get_or c.args.seats.now c.loop-seat.seat-index (record { night = 0; place = 0 })).night < length c.args.nights.now = seat_within c.args.nights.now _ (c.requires c.loop-seat.seat-index (record { night = 0; place = 0 }) c.loop-seat-test.true) in
    search rules

pub bounds-tracklets-seat : goal.bounds-tracklets-seat
bounds-tracklets-seat c =
    let w : IsSeat c.args.nights.now (get_or c.args.seats.now c.loop-seat.seat-index (record { night = 0; place = 0 })) = c.requires c.loop-seat.seat-index (record { night = 0; place = 0 }) c.loop-seat-test.true in
    rw (c.tracklets.ensures, c.index-nights-seat.is) (place_within c.args.nights.now _ _ w)

pub offset_bounds-tracklets-seat : goal.offset_bounds-tracklets-seat
offset_bounds-tracklets-seat c =
    let w : IsSeat c.args.nights.now (get_or c.args.seats.now c.loop-seat.seat-index (record { night = 0; place = 0 })) = c.requires c.loop-seat.seat-index (record { night = 0; place = 0 }) c.loop-seat-test.true in
    let l : (get_or c.args.seats.now c.loop-seat.seat-index (record { night = 0; place = 0 })).place < length c.tracklets.result.now = rw (c.tracklets.ensures, c.index-nights-seat.is) (place_within c.args.nights.now _ _ w) in
    search rules

pub loop-seat-preserved : goal.loop-seat-preserved
loop-seat-preserved c =
    let seat : Seat = get_or c.args.seats.now c.loop-seat.seat-index (record { night = 0; place = 0 }) in
    let w : IsSeat c.args.nights.now (get_or c.args.seats.now c.loop-seat.seat-index (record { night = 0; place = 0 })) = c.requires c.loop-seat.seat-index (record { night = 0; place = 0 }) c.loop-seat-test.true in
    let there : c.index-tracklets-seat.result ≡ (one_at c.args.nights.now (get_or c.args.seats.now c.loop-seat.seat-index (record { night = 0; place = 0 }))).tracklet = c.index-tracklets-seat.is ∙ rw (c.tracklets.ensures, c.index-nights-seat.is) (tracklet_there c.args.nights.now _ _ _ w) in
    rw (c.in_ok-extend_from_slice.ensures.items, c.loop-seat.invariant, c.spots.ensures.value, there) (sym (spots_more c.args.nights.now c.args.seats.now c.loop-seat.seat-index (record { night = 0; place = 0 }) c.loop-seat-test.true))
