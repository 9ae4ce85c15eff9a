use Rattle.std.proofs.Common.{◌≡◌, take}
use Rattle.set_grow.specs.Seats.{tracklets_at}
use Rattle.kept_tracks.proofs.tracks.copies_at.Given as goal

abbrev pub invariant-loop-seat : goal.invariant-loop-seat
invariant-loop-seat l = l.copies.items ≡ tracklets_at l.nights (take l.seat-index l.seats)
