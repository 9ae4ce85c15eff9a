use Rattle.closed_tracks.proofs.Walks.{AreNumberedTo}
use Rattle.closed_tracks.proofs.numbering.numbered.Given as goal

abbrev pub invariant-loop-night : goal.invariant-loop-night
invariant-loop-night l = AreNumberedTo l.nights l.night-index l.left l.numbered.items
