use Rattle.std.specs.Prelude.{◌≡◌, ℕ, ◌<◌, length, pos, slice_index_or}
use Rattle.box_tree.specs.Boxes.{end_or_zero}
use Rattle.box_tree.proofs.bounds.own_lows.Given as goal

-- the ends so far are those of the item
abbrev pub invariant-loop-axis : goal.invariant-loop-axis
invariant-loop-axis g l = record {
  eight : length l.ends ≡ 8;
  same : (axis : ℕ) → axis < l.axis → slice_index_or l.ends axis (pos 0) ≡ end_or_zero g.T.Located.AXES (g.T.Located.lows l.item) axis;
}
