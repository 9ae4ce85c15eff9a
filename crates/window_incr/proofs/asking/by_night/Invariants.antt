use Rattle.std.proofs.Common.{◌≤◌, ℕ, List, take}
use Rattle.kept_nights.specs.KeptNights.{held_nights}
use Rattle.window_incr.specs.Asking.{AreAsked}
use Rattle.window_incr.specs.LinkerState.{LinkerState}
use Rattle.window_incr.proofs.AskedNights.{SoFar}
use Rattle.window_incr.proofs.asking.by_night.Given as goal

abbrev pub invariant-loop-night : goal.invariant-loop-night
invariant-loop-night l = record {
  few : l.found.nights ≤ l.night-index;
  so_far : (s : LinkerState) (ids : List (List ℕ)) → AreAsked l.log l.nights l.numbers s ids → SoFar s ids (take l.night-index (held_nights s.log)) l.found.nights l.found.spots.items;
}
