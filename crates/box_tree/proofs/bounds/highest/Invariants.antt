use Rattle.std.specs.Prelude.{◌≡◌, length}
use Rattle.box_tree.specs.Boxes.{AreHighest}
use Rattle.box_tree.proofs.bounds.highest.Given as goal

-- the ends so far are those of both boxes
abbrev pub invariant-loop-axis : goal.invariant-loop-axis
invariant-loop-axis l = record {
  eight : length l.ends ≡ 8;
  ends : AreHighest l.one.high l.other.high l.ends l.axis;
}
