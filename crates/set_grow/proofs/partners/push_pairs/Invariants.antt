use Rattle.std.proofs.Common.{take}
use Rattle.set_grow.proofs.PaidPairs.{ArePushed}
use Rattle.set_grow.proofs.partners.push_pairs.Given as goal

abbrev pub invariant-loop-other : goal.invariant-loop-other
invariant-loop-other l = ArePushed l.fn.sky l.fn.item.number l.fn.one (take l.other-index l.fn.others) l.initial.pairs.items l.pairs.items l.initial.tally.tests l.tally.tests
