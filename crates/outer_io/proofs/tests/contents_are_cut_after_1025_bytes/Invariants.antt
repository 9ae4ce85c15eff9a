use Rattle.std.proofs.Common.{◌≡◌, true, false}
use Rattle.outer_io.proofs.tests.contents_are_cut_after_1025_bytes.Given as goal

abbrev pub invariant-loop-len-2 : goal.invariant-loop-len-2
invariant-loop-len-2 g l = l.going ≡ true → l.reader.stopped ≡ false
