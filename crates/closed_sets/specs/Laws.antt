-- What holds of every family.
use Rattle.std.specs.Prelude.{ℕ, ◌↔◌, List, ◌∷◌}
use Rattle.std.specs.List.{Contains}
use Rattle.closed_sets.specs.Families.{IsClosed}
use Rattle.closed_sets.specs.Around.{FitTogether}

-- a set is closed exactly where it fits, and fits together with no number that it lacks
abbrev pub ClosedByNumbers : (List ℕ → Type 0) → Type 0
ClosedByNumbers Fits = (set : List ℕ) → IsClosed Fits set ↔ (Fits set × ((x : ℕ) → FitTogether Fits (x ∷ set) → Contains set x))
