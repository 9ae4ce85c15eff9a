use Rattle.std.specs.Prelude.{◌-◌}
use Rattle.box_tree.proofs.nodes.«+node_of».Given as goal

abbrev pub decreases-node_of : goal.decreases-node_of
decreases-node_of g l = l.to - l.from
