use Rattle.std.proofs.Common.{pos, arith}
use Rattle.std.proofs.lemmas.List.FromFn.{fill_by_all}
use Rattle.box_tree.specs.Boxes.{end_or_zero, own_ends}
use Rattle.box_tree.proofs.bounds.own_lows.Goals as goal

pub returns : goal.returns
unfolding own_ends
returns g c = fill_by_all (end_or_zero g.T.Located.AXES (g.T.Located.lows c.args.item.now)) c.loop-axis.ends 8 (pos 0) c.loop-axis.invariant.eight (λ k h. c.loop-axis.invariant.same k (omega arith))
