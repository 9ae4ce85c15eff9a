-- The sets of a family that are kept: its closed sets of three or more items.
use Rattle.std.specs.Prelude.{ℕ, ◌≤◌, ◌↔◌, List, length}
use Rattle.std.specs.List.{Contains}
use Rattle.closed_sets.specs.Families.{IsClosed}
use Rattle.sky_units.specs.Tracks.{AreAmong}
use Rattle.kept_sets.specs.Lists.{AreDifferent, HoldsOne}

-- the sets of a family are made of finitely many items
pub record IsOfFinitelyMany (Fits : List ℕ → Type 0) : Type 0 where
  pub items : List ℕ
  pub all : (set : List ℕ) → Fits set → AreAmong set items

-- a closed set of three or more items
abbrev pub IsKept : (List ℕ → Type 0) → List ℕ → Type 0
IsKept Fits set = IsClosed Fits set × (3 ≤ length set)

-- all that are kept of a family, each once
pub record AreKept (Fits : List ℕ → Type 0) (sets : List (List ℕ)) : Type 0 where
  pub once : AreDifferent sets
  pub exactly : (set : List ℕ) → Contains sets set ↔ IsKept Fits set

-- those that hold an item that came, each once
pub record AreGrown (Fits : List ℕ → Type 0) (came : List ℕ) (sets : List (List ℕ)) : Type 0 where
  pub once : AreDifferent sets
  pub exactly : (set : List ℕ) → Contains sets set ↔ (IsKept Fits set × HoldsOne came set)
