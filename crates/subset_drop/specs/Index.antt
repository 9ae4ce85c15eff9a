-- Pairs of a number and the place of a member that holds it, in order of the numbers.
use Rattle.std.specs.Prelude.{ℕ, ◌<◌, List, length}
use Rattle.std.specs.List.{All, Contains}
use Rattle.std.specs.List.Sorted.{IsNonDecreasingBy}
use Rattle.sky_units.specs.Tracks.{AreAmong}
use Rattle.subset_drop.specs.Kept.{numbers_at}

-- each pair is of a member, and each number of the first members is in a pair with its place
pub record HasPairsOf (lists : List (List ℕ)) (count : ℕ) (pairs : List (ℕ × ℕ)) : Type 0 where
  pub places : All (λ pair. pair.1 < length lists) pairs
  pub complete : (place number : ℕ) → place < count → Contains (numbers_at lists place) number → Contains pairs (number, place)

-- the index of all members
pub record IsIndex (lists : List (List ℕ)) (pairs : List (ℕ × ℕ)) : Type 0 where
  pub rising : IsNonDecreasingBy (λ (pair : ℕ × ℕ). pair.0) pairs
  pub held : HasPairsOf lists (length lists) pairs

-- pairs of the index, among them all those of a number
pub record AreHolders (pairs : List (ℕ × ℕ)) (number : ℕ) (holders : List (ℕ × ℕ)) : Type 0 where
  pub among : AreAmong holders pairs
  pub complete : (place : ℕ) → Contains pairs (number, place) → Contains holders (number, place)
