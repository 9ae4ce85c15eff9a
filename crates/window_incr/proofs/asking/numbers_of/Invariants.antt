use Rattle.window_incr.proofs.AskedIds.{AreKnown}
use Rattle.window_incr.proofs.asking.numbers_of.Given as goal

abbrev pub invariant-loop-place : goal.invariant-loop-place
invariant-loop-place l = AreKnown l.log l.ids l.place l.numbers.items
