use Rattle.tracklet_register.proofs.Marks.{AreWritten}
use Rattle.tracklet_register.proofs.marking.write_places.Given as goal

abbrev pub invariant-loop-place : goal.invariant-loop-place
invariant-loop-place l = AreWritten l.initial.table.items l.table.items l.night l.numbers l.place
