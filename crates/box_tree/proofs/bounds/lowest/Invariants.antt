use Rattle.std.specs.Prelude.{◌≡◌, length}
use Rattle.box_tree.specs.Boxes.{AreLowest}
use Rattle.box_tree.proofs.bounds.lowest.Given as goal

-- the ends so far are those of both boxes
abbrev pub invariant-loop-axis : goal.invariant-loop-axis
invariant-loop-axis l = record {
  eight : length l.ends ≡ 8;
  ends : AreLowest l.one.low l.other.low l.ends l.axis;
}
