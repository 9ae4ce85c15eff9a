use Rattle.std.proofs.Common.{pos, ◌+◌, ◌*◌}
use Rattle.night_tree.specs.Nights.{tracklets_of_each}
use Rattle.plain_tracks.proofs.MoreNights.{AreUpTo}
use Rattle.plain_tracks.proofs.tests.nights_of.Given as goal

abbrev pub invariant-loop-day : goal.invariant-loop-day
invariant-loop-day l = AreUpTo (pos 59000250000) (pos (59000250000 + 1000000 * l.day)) (2 * l.day) (tracklets_of_each l.nights.items)
