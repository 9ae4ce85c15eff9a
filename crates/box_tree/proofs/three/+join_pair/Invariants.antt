use Rattle.std.specs.Prelude.{◌-◌}
use Rattle.box_tree.proofs.three.+join_pair.Given as goal

-- the items of the node
abbrev pub decreases-join_pair : goal.decreases-join_pair
decreases-join_pair g l = l.z.now.to - l.z.now.from
