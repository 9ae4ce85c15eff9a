use Rattle.std.proofs.Common.{◌<◌, arith}
use Rattle.std.proofs.lemmas.List.Elements.{All-more}
use Rattle.set_grow.specs.declared.seats.Seat.{Seat}
use Rattle.set_grow.proofs.seats.place_among.Goals as goal

pub loop-index-preserved : goal.loop-index-preserved
loop-index-preserved c =
    let n = c.if-seats-index.false in
    let m = c.if-seats-index-2.false in
    All-more (λ (seat : Seat). seat.night < c.args.night) c.args.seats.now c.loop-index.index (record { night = 0; place = 0 }) c.loop-index-test.true c.loop-index.invariant (omega (arith, n, m))
