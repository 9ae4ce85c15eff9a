use Rattle.std.proofs.Common.{◌≡◌, take}
use Rattle.sky_units.specs.TrackletData.{spots_of}
use Rattle.set_grow.specs.Seats.{tracklets_at}
use Rattle.set_grow.proofs.seats.joined.Given as goal

abbrev pub invariant-loop-seat : goal.invariant-loop-seat
invariant-loop-seat l = l.spots.items ≡ spots_of (tracklets_at l.fn.nights (take l.seat-index l.fn.seats))
