use Rattle.std.proofs.Common.{length}
use Rattle.set_grow.proofs.PaidPairs.{AreLeft}
use Rattle.set_grow.proofs.Pairing.{AreFoundOf}
use Rattle.set_grow.proofs.partners.fitting_pairs.Given as goal

abbrev pub invariant-loop-one : goal.invariant-loop-one
invariant-loop-one l = AreFoundOf l.fn.sky l.fn.item.number l.fn.partners l.rest l.pairs.items × AreLeft l.fn.sky l.fn.partners l.rest l.initial.tally.tests l.tally.tests

abbrev pub decreases-loop-one : goal.decreases-loop-one
decreases-loop-one l = length l.rest
