-- Boxes: from where to where something reaches on each axis.
use Rattle.std.specs.Prelude.{ℕ, ◌<◌, ℤ, pos, ◌≤ℤ◌, List, slice_index_or, map, nat_lt, if◌then◌else◌}
use Rattle.sky_units.specs.Pairs.{below}
use Rattle.box_tree.specs.declared.bounds.Bounds.{Bounds}

-- an end on an axis
abbrev pub end_on : List ℤ → ℕ → ℤ
end_on ends axis = slice_index_or ends axis (pos 0)

-- a box covers what reaches from `low` to `high` on each axis below `axes`
pub record Covers (axes : ℕ) (low high : ℕ → ℤ) (box : Bounds) : Type 0 where
  pub from : (axis : ℕ) → axis < axes → end_on box.low axis ≤ℤ low axis
  pub to : (axis : ℕ) → axis < axes → high axis ≤ℤ end_on box.high axis

-- an end on an axis below `axes`, and 0 on the others
abbrev pub end_or_zero : ℕ → (ℕ → ℤ) → ℕ → ℤ
end_or_zero axes ends axis = if nat_lt axis axes then ends axis else pos 0

-- the same on each of the eight axes of a box
unfoldable pub own_ends : ℕ → (ℕ → ℤ) → List ℤ
own_ends axes ends = map (end_or_zero axes ends) (below 8)

-- the own box of what reaches from `low` to `high`
abbrev pub own_box : ℕ → (ℕ → ℤ) → (ℕ → ℤ) → Bounds
own_box axes low high = record { low = own_ends axes low; high = own_ends axes high }

-- on each axis below `axes` no end lies above that of one or that of the other
abbrev pub AreLowest : List ℤ → List ℤ → List ℤ → ℕ → Type 0
AreLowest one other ends axes = (axis : ℕ) → axis < axes → (end_on ends axis ≤ℤ end_on one axis) × (end_on ends axis ≤ℤ end_on other axis)

-- on each axis below `axes` no end lies below that of one or that of the other
abbrev pub AreHighest : List ℤ → List ℤ → List ℤ → ℕ → Type 0
AreHighest one other ends axes = (axis : ℕ) → axis < axes → (end_on one axis ≤ℤ end_on ends axis) × (end_on other axis ≤ℤ end_on ends axis)
