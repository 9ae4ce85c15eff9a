use Rattle.std.proofs.Common.{◌<◌}
use Rattle.box_tree.specs.Nodes.{Lies}
use Rattle.box_tree.proofs.NewNodes.{grown_both, grown_leaf}
use Rattle.box_tree.proofs.nodes.+node_of.Goals as goal

pub returns-then-to-from-le-LEAF_ITEMS : goal.returns-then-to-from-le-LEAF_ITEMS
returns-then-to-from-le-LEAF_ITEMS g t c =
    grown_leaf (Lies g.T.Located.AXES g.T.Located.lows g.T.Located.highs c.args.items.now) c.args.order.now c.args.from c.args.to c.args.nodes.now.items c.leaf_of.result c.requires.nodes c.leaf_of.ensures.node c.leaf_of.ensures.from c.leaf_of.ensures.to

pub returns : goal.returns
returns g t c =
    let l = g.T.Located in
    let few = g.met.T.Located.few_axes.1 in
    let middle = c.middle_of-middle.result in
    let low : c.args.from < middle = c.middle_of-middle.ensures.above in
    let high : middle < c.args.to = c.middle_of-middle.ensures.below in
    let pushed = c.in_ok-place.ensures in
    grown_both (Lies l.AXES l.lows l.highs c.args.items.now) c.args.order.now c.args.from middle c.args.to c.args.nodes.now.items c.node_of.new.nodes.items c.node_of-2.new.nodes.items c.in_ok-left.left c.in_ok-right.right c.joined_bounds.result
    c.in_ok-left.ensures c.in_ok-right.ensures low high
    (λ place h d. c.joined_bounds.ensures.one l.AXES _ _ few (h d)) (λ place h d. c.joined_bounds.ensures.other l.AXES _ _ few (h d))
    c.in_ok-place.place c.push_both.new.nodes.items pushed.0 pushed.2
