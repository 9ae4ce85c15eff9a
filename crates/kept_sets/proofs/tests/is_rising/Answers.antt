use Rattle.std.proofs.Common.{arith}
use Rattle.std.proofs.lemmas.Map.Keys.{sorted_from_strictly_increasing}
use Rattle.kept_sets.proofs.tests.is_rising.Goals as goal

pub returns : goal.returns
returns c = λ t. sorted_from_strictly_increasing c.args.list.now (λ k l. c.loop-place.invariant k (omega arith))
