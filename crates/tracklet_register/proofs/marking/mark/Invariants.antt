use Rattle.std.proofs.Common.{take}
use Rattle.tracklet_register.proofs.Marks.{AreMarked}
use Rattle.tracklet_register.proofs.marking.mark.Given as goal

abbrev pub invariant-loop-number : goal.invariant-loop-number
invariant-loop-number l = AreMarked l.initial.taken.items l.taken.items (take l.number-index l.numbers) l.value
