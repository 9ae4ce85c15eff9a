use Rattle.std.specs.Prelude.{◌-◌}
use Rattle.box_tree.proofs.three.+join_leaves.Given as goal

-- the items of the third node
abbrev pub decreases-join_leaves : goal.decreases-join_leaves
decreases-join_leaves g l = l.z.now.to - l.z.now.from
