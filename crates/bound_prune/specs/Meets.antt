-- Boxes that lie over one another, in place and in rates, so that they may hold tracklets of one object whatever the time between.
use Rattle.std.specs.Prelude.{ℕ, pos, ◌+ℤ◌, ◌≤ℤ◌}
use Rattle.box_tree.specs.declared.bounds.Bounds.{Bounds}
use Rattle.box_tree.specs.Boxes.{end_on}

-- two boxes overlap on an axis
pub record Overlap (axis : ℕ) (a b : Bounds) : Type 0 where
  pub from : end_on a.low axis ≤ℤ end_on b.high axis
  pub to : end_on b.low axis ≤ℤ end_on a.high axis

-- their rates on an axis together may lead ahead or nowhere, and back or nowhere
pub record LeadBothWays (axis : ℕ) (a b : Bounds) : Type 0 where
  pub ahead : pos 0 ≤ℤ (end_on a.high axis +ℤ end_on b.high axis)
  pub back : (end_on a.low axis +ℤ end_on b.low axis) ≤ℤ pos 0

-- they overlap in place and in rates, and these may lead both ways
pub record Meet (a b : Bounds) : Type 0 where
  pub dec : Overlap 1 a b
  pub ra : Overlap 0 a b
  pub ra_rates : Overlap 3 a b
  pub dec_rates : Overlap 4 a b
  pub ra_ways : LeadBothWays 3 a b
  pub dec_ways : LeadBothWays 4 a b
