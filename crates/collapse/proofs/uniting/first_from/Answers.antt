use Rattle.std.proofs.Common.{◌<◌, arith}
use Rattle.std.proofs.lemmas.List.Elements.{All-more}
use Rattle.collapse.proofs.uniting.first_from.Goals as goal

pub loop-at-preserved : goal.loop-at-preserved
loop-at-preserved c = All-more (λ p. p < c.args.place) c.args.places.now c.loop-at.at 0 c.loop-at-test.true c.loop-at.invariant (omega arith)
