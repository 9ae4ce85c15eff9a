use Rattle.std.specs.Prelude.{◌+◌, ◌-◌}
use Rattle.box_tree.proofs.three.+join_nodes.Given as goal

-- the items of the first two nodes
abbrev pub decreases-join_nodes : goal.decreases-join_nodes
decreases-join_nodes g l = (l.x.now.to - l.x.now.from) + (l.y.now.to - l.y.now.from)
