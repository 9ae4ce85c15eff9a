-- What fits together with an item, and the closed sets that hold it.
use Rattle.std.specs.Prelude.{◌≡◌, ℕ, ◌<◌, ◌≤◌, ◌↔◌, List, [], ◌∷◌, length}
use Rattle.std.specs.Cmp.Lexicographic.{slice_cmp}
use Rattle.std.specs.List.{All, Contains}
use Rattle.std.specs.List.Sorted.{IsStrictlySortedBy}
use Rattle.std.specs.Ordering.{nat_cmp}
use Rattle.sky_units.specs.Tracks.{AreAmong}
use Rattle.closed_sets.specs.Families.{IsClosed}

-- some fitting set has all of these numbers
pub record FitTogether (Fits : List ℕ → Type 0) (numbers : List ℕ) : Type 0 where
  pub whole : List ℕ
  pub fits : Fits whole
  pub has : AreAmong numbers whole

-- two numbers, other ones than the item, that fit together with it, the lesser first
pub record IsFittingPair (Fits : List ℕ → Type 0) (item : ℕ) (pair : ℕ × ℕ) : Type 0 where
  pub rising : pair.0 < pair.1
  pub first : ¬ (pair.0 ≡ item)
  pub second : ¬ (pair.1 ≡ item)
  pub fit : FitTogether Fits (item ∷ pair.0 ∷ pair.1 ∷ [])

-- exactly the fitting pairs around an item
abbrev pub AreFittingPairs : (List ℕ → Type 0) → ℕ → List (ℕ × ℕ) → Type 0
AreFittingPairs Fits item pairs = (pair : ℕ × ℕ) → Contains pairs pair ↔ IsFittingPair Fits item pair

-- a list has both numbers of each of some pairs
abbrev pub HasBothOfEach : List (ℕ × ℕ) → List ℕ → Type 0
HasBothOfEach pairs partners = All (λ (pair : ℕ × ℕ). Contains partners pair.0 × Contains partners pair.1) pairs

-- a set holds none of some numbers
abbrev pub IsFree : List ℕ → List ℕ → Type 0
IsFree numbers set = (x : ℕ) → Contains numbers x → ¬ Contains set x

-- a fitting set of three or more that holds an item and none of the done numbers
pub record IsFittingWith (Fits : List ℕ → Type 0) (item : ℕ) (done set : List ℕ) : Type 0 where
  pub fits : Fits set
  pub has : Contains set item
  pub free : IsFree done set
  pub large : 3 ≤ length set

-- each number of a fitting set of three or more that holds an item is the item or one of some partners
abbrev pub HasPartners : (List ℕ → Type 0) → ℕ → List ℕ → Type 0
HasPartners Fits item partners = (set : List ℕ) → Fits set → Contains set item → 3 ≤ length set → AreAmong set (item ∷ partners)

-- exactly the closed sets of three or more that hold an item and none of the done numbers, each once, in
-- lexicographic order
pub record AreClosedSetsWith (Fits : List ℕ → Type 0) (item : ℕ) (done : List ℕ) (sets : List (List ℕ)) : Type 0 where
  pub in_order : IsStrictlySortedBy (slice_cmp nat_cmp) sets
  pub exactly : (set : List ℕ) → Contains sets set ↔ (IsClosed Fits set × Contains set item × IsFree done set × 3 ≤ length set)
