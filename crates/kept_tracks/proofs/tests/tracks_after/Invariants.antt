use Rattle.std.proofs.Common.{pos, ◌+◌, ◌*◌}
use Rattle.closed_tracks.proofs.NextNights.{AreMade}
use Rattle.kept_tracks.specs.KeptFor.{AreKeptFor}
use Rattle.kept_tracks.proofs.tests.tracks_after.Given as goal

abbrev pub invariant-loop-day : goal.invariant-loop-day
invariant-loop-day l = record {
  made : AreMade (pos 59000250000) (pos (59000250000 + 1000000 * l.day)) (2 * l.day) (pos (59000 + l.day)) l.nights.items;
  kept : AreKeptFor l.settings l.nights.items l.kept;
}
