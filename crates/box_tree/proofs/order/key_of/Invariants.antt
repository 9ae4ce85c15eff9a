use Rattle.std.specs.Prelude.{◌≡◌, ◌≤◌, length}
use Rattle.box_tree.proofs.order.key_of.Given as goal

-- no more axes count than there were
abbrev pub invariant-loop-axis : goal.invariant-loop-axis
invariant-loop-axis g l = record {
  eight : length l.scaled ≡ 8;
  few : l.axes ≤ l.axis;
}
