-- Nights before and after some tracklets went and others came.
use Rattle.std.specs.Prelude.{◌⊎◌, ◌↔◌, ℕ, ℤ, List}
use Rattle.std.specs.List.{Contains}
use Rattle.set_grow.specs.Numbered.{NumberedTracklet}
use Rattle.set_grow.specs.Nights.{NumberedNightData}
use Rattle.tracklet_register.specs.Nights.{StandsIn}

-- what stands in one list of nights and isn't one of some numbers stands in the same night of another, and nothing there is one of them
pub record KeepAllBut (numbers : List ℕ) (from to : List NumberedNightData) : Type 0 where
  pub stay : (night : ℤ) (one : NumberedTracklet) → StandsIn from night one → ¬ (Contains numbers one.num) → StandsIn to night one
  pub none : (night : ℤ) (one : NumberedTracklet) → StandsIn to night one → ¬ (Contains numbers one.num)

-- the tracklets of the one numbers went, those of the others came, and no others
pub record AreExchanged (went came : List ℕ) (old new : List NumberedNightData) : Type 0 where
  pub there : KeepAllBut went old new
  pub back : KeepAllBut came new old

-- the numbers of two lists
abbrev pub AreOfBoth : List ℕ → List ℕ → List ℕ → Type 0
AreOfBoth one other both = (number : ℕ) → Contains both number ↔ (Contains one number ⊎ Contains other number)
