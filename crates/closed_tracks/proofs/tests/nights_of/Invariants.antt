use Rattle.std.proofs.Common.{pos, ◌+◌, ◌*◌}
use Rattle.closed_tracks.proofs.NextNights.{AreMade}
use Rattle.closed_tracks.proofs.tests.nights_of.Given as goal

abbrev pub invariant-loop-day : goal.invariant-loop-day
invariant-loop-day l = AreMade (pos 59000250000) (pos (59000250000 + 1000000 * l.day)) (2 * l.day) (pos (59000 + l.day)) l.nights.items
