use Rattle.std.proofs.Common.{take}
use Rattle.set_grow.specs.Seats.{AreSeatsOf}
use Rattle.set_grow.proofs.seats.seats_of.Given as goal

abbrev pub invariant-loop-number : goal.invariant-loop-number
invariant-loop-number l = AreSeatsOf l.fn.nights (take l.number-index l.fn.numbers) l.seats.items
