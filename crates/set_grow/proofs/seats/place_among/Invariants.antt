use Rattle.std.proofs.Common.{◌<◌, take}
use Rattle.std.specs.List.{All}
use Rattle.set_grow.specs.declared.seats.Seat.{Seat}
use Rattle.set_grow.proofs.seats.place_among.Given as goal

abbrev pub invariant-loop-index : goal.invariant-loop-index
invariant-loop-index l = All (λ (seat : Seat). seat.night < l.fn.night) (take l.index l.fn.seats)
