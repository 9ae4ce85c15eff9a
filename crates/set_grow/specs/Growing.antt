-- The closed sets that hold one of some numbers.
use Rattle.std.specs.Prelude.{ℕ, ◌≤◌, ◌↔◌, List, length}
use Rattle.std.specs.Cmp.Lexicographic.{slice_cmp}
use Rattle.std.specs.List.{Contains}
use Rattle.std.specs.List.Sorted.{IsStrictlySortedBy}
use Rattle.std.specs.Ordering.{nat_cmp}
use Rattle.closed_sets.specs.Families.{IsClosed, IsSet}
use Rattle.sky_units.specs.SettingsData.{SettingsData}
use Rattle.set_grow.specs.Fitting.{FitsByNumber}
use Rattle.set_grow.specs.Numbered.{NumberedTracklets}
use Rattle.set_grow.specs.SkyData.{FitsWithParts, SkyData}

-- a set holds one of some numbers
abbrev pub HoldsOne : List ℕ → List ℕ → Type 0
HoldsOne numbers set = (number : ℕ) × Contains numbers number × Contains set number

-- exactly the closed sets of three or more that hold one of some numbers, each once, in lexicographic order
pub record AreClosedSetsWithOne (settings : SettingsData) (nights : List NumberedTracklets) (numbers : List ℕ) (sets : List (List ℕ)) : Type 0 where
  pub in_order : IsStrictlySortedBy (slice_cmp nat_cmp) sets
  pub exactly : (set : List ℕ) → Contains sets set ↔ (IsClosed (FitsByNumber settings nights) set × HoldsOne numbers set × (3 ≤ length set))

-- exactly the same in some order, of the sets that fit in a sky
abbrev pub AreGrown : SkyData → List ℕ → List (List ℕ) → Type 0
AreGrown sky numbers sets = (set : List ℕ) → Contains sets set ↔ (IsClosed (FitsWithParts sky) set × HoldsOne numbers set × (3 ≤ length set))

-- a set has exactly the numbers of a list
pub record IsSetOf (numbers set : List ℕ) : Type 0 where
  pub is_set : IsSet set
  pub exactly : (x : ℕ) → Contains set x ↔ Contains numbers x
