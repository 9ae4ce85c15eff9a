-- The first two spots, in the order of their places, that break the spread rule.
use Rattle.std.specs.Prelude.{◌≡◌, ℕ, ◌<◌, ◌⊎◌, List, length, slice_index_or}
use Rattle.sky_units.specs.Arcs.{AreNear}
use Rattle.sky_units.specs.SpotData.{SpotData}
use Rattle.sky_units.specs.declared.axis.Axis.{Axis}
use Rattle.sky_units.specs.declared.axis.Axis.TheVariants.{Ra, Dec}

-- two spots are too far apart on an axis: on right ascension, or else on declination
abbrev pub AreApart : Axis → SpotData → SpotData → Type 0
AreApart Ra a b = ¬ AreNear Ra a b
AreApart Dec a b = AreNear Ra a b × (¬ AreNear Dec a b)

-- the two spots with the numbers a and b are too far apart on the axis, and no two spots at earlier places are
pub record IsFirstFault (spots : List SpotData) (axis : Axis) (a b : ℕ) : Type 0 where
  pub left : ℕ
  pub right : ℕ
  pub rising : left < right
  pub within : right < length spots
  pub apart : (d : SpotData) → AreApart axis (slice_index_or spots left d) (slice_index_or spots right d)
  pub first_number : (d : SpotData) → a ≡ (slice_index_or spots left d).num
  pub second_number : (d : SpotData) → b ≡ (slice_index_or spots right d).num
  pub near_before : (i j : ℕ) (d : SpotData) → i < j → j < length spots → (i < left) ⊎ ((i ≡ left) × (j < right)) → AreNear Ra (slice_index_or spots i d) (slice_index_or spots j d) × AreNear Dec (slice_index_or spots i d) (slice_index_or spots j d)
