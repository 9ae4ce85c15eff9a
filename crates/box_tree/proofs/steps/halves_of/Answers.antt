use Rattle.box_tree.proofs.Smaller.{halves_read}
use Rattle.box_tree.proofs.steps.halves_of.Goals as goal

pub returns-in-Halves : goal.returns-in-Halves
returns-in-Halves g c =
    let t = g.T.Located in
    halves_read t.AXES t.lows t.highs c.args.index.now c.args.node.now c.in-Halves.left c.in-Halves.right c.index.result.now c.index-in-Halves.result.now
    c.requires c.in-Halves.is c.index.ensures c.index-in-Halves.ensures
