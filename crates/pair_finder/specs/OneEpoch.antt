-- Spots of one epoch.
use Rattle.std.specs.Prelude.{ℕ, ◌<◌, ◌≤ℤ◌, List, length, slice_index_or}
use Rattle.sky_units.specs.SpotData.{SpotData}

-- no spot is later than another one
abbrev pub AreOfOneEpoch : List SpotData → Type 0
AreOfOneEpoch spots = (i j : ℕ) (d : SpotData) → i < length spots → j < length spots → (slice_index_or spots j d).epoch ≤ℤ (slice_index_or spots i d).epoch
