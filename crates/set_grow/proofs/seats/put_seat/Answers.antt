use Rattle.std.proofs.Common.{List, arith}
use Rattle.set_grow.specs.Seats.{HaveRisingNights, IsPlaceAmong}
use Rattle.set_grow.specs.declared.seats.Seat.{Seat}
use Rattle.set_grow.proofs.Putting.{of_put, put_in, put_rising}
use Rattle.set_grow.proofs.seats.put_seat.Goals as goal

pub returns : goal.returns
returns c =
    let seats : List Seat = c.args.seats.now.items in
    let place : IsPlaceAmong c.args.seats.now.items c.args.seat.night c.in-Some.index = rw c.as_slice.ensures.value at c.in-Some.ensures in
    let rise : HaveRisingNights c.args.seats.now.items = c.requires in
    rw c.in_ok-insert.ensures.items (
      put_rising seats c.in-Some.index c.args.seat rise place.before place.after,
      λ other. (of_put seats c.in-Some.index c.args.seat other, put_in seats c.in-Some.index c.args.seat other),
    )

pub insert-requires : goal.insert-requires
insert-requires c =
    let place : IsPlaceAmong c.args.seats.now.items c.args.seat.night c.in-Some.index = rw c.as_slice.ensures.value at c.in-Some.ensures in
    let w = place.within in
    omega (arith, w, c.well_formed)
