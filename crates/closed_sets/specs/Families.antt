-- Families of sets of numbers in which every part of a fitting set fits, and the sets of them that can't grow.
use Rattle.std.specs.Prelude.{ℕ, List}
use Rattle.std.specs.List.Sorted.{IsStrictlySortedBy}
use Rattle.std.specs.Ordering.{nat_cmp}
use Rattle.sky_units.specs.Tracks.{AreAmong}

-- a set of numbers: they rise
abbrev pub IsSet : List ℕ → Type 0
IsSet = IsStrictlySortedBy nat_cmp

-- what fits is a set, and so does every part of it
pub record IsHereditary (Fits : List ℕ → Type 0) : Type 0 where
  pub sets : (set : List ℕ) → Fits set → IsSet set
  pub parts : (set part : List ℕ) → Fits set → IsSet part → AreAmong part set → Fits part

-- a fitting set that lies properly in no other
pub record IsClosed (Fits : List ℕ → Type 0) (set : List ℕ) : Type 0 where
  pub fits : Fits set
  pub full : (other : List ℕ) → Fits other → AreAmong set other → AreAmong other set
