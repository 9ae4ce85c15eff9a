use Rattle.std.proofs.Common.{arith}
use Rattle.sky_units.proofs.Spread.{near_more}
use Rattle.sky_units.proofs.arcs.spread_fault.Goals as goal

pub loop-j-preserved : goal.loop-j-preserved
loop-j-preserved c = near_more c.args.spots.now c.loop-i.i c.loop-j.j c.index-spots-i.result c.index-spots-j.result (omega arith) (omega arith) c.index-spots-i.is c.index-spots-j.is c.in_default.ensures c.loop-j.invariant
