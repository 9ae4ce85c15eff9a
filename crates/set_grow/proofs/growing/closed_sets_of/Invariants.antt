use Rattle.std.proofs.Common.{ℕ, Vec, Global, map}
use Rattle.set_grow.proofs.PaidBoth.{AreGrownSoFar}
use Rattle.set_grow.proofs.growing.closed_sets_of.Given as goal

abbrev pub invariant-loop-place : goal.invariant-loop-place
invariant-loop-place l = AreGrownSoFar l.fn.sky l.fn.items l.place (map (λ (set : Vec ℕ Global). set.items) l.found.items) l.initial.tally.tests l.tally.tests
