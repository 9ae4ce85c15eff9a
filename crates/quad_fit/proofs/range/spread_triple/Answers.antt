use Rattle.std.proofs.Common.{arith}
use Rattle.quad_fit.proofs.Exchanges.{spread_triple}
use Rattle.quad_fit.proofs.range.spread_triple.Goals as goal

pub returns : goal.returns
returns c = spread_triple c.args.marks.now _ _ c.at.result c.at-2.result c.at-3.result c.requires.marks (omega arith) (omega arith) (omega arith) c.at.ensures c.at-2.ensures c.at-3.ensures
