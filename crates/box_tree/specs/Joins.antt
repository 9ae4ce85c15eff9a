-- Joins: which tuples of places are wanted, how many may be, and what a part of a join adds.
use Rattle.std.specs.Prelude.{◌≡◌, ℕ, ℤ, Bool, true, false, Option, Some, None, List, length, count_by, slice_get, map, ◌⊎◌}
use Rattle.std.specs.List.{Contains, filter, flat_map, sum_by}
use Rattle.sky_units.specs.Pairs.{all_pairs, below}
use Rattle.box_tree.specs.declared.bounds.Bounds.{Bounds}
use Rattle.box_tree.specs.Boxes.{own_box}

-- a test of two things, false where one is missing
abbrev pub of_two : {X Y : Type 0} → (X → Y → Bool) → Option X → Option Y → Bool
of_two test (Some x) (Some y) = test x y
of_two test (Some x) None = false
of_two test None other = false

-- the same of what stands at two places
abbrev pub at_two : {X Y : Type 0} → (X → Y → Bool) → List X → List Y → ℕ × ℕ → Bool
at_two test xs ys places = of_two test (slice_get xs places.0) (slice_get ys places.1)

-- the own boxes of two items are allowed
abbrev pub allows_own : {X Y : Type 0} → (Bounds → Bounds → Bool) → ℕ → (X → ℕ → ℤ) → (X → ℕ → ℤ) → ℕ → (Y → ℕ → ℤ) → (Y → ℕ → ℤ) → X → Y → Bool
allows_own allows axes lows highs other_axes other_lows other_highs x y =
    allows (own_box axes (lows x) (highs x)) (own_box other_axes (other_lows y) (other_highs y))

-- the pairs of places of two lists whose items pass a test, in lexicographic order
abbrev pub pairs_that : {X Y : Type 0} → (X → Y → Bool) → List X → List Y → List (ℕ × ℕ)
pairs_that test xs ys = filter (at_two test xs ys) (all_pairs (length xs) (length ys))

-- the number of pairs of one of each list that pass a test
unfoldable pub count_pairs : (ℕ × ℕ → Bool) → List ℕ → List ℕ → ℕ
count_pairs test xs ys = sum_by (λ x. count_by (λ y. test (x, y)) ys) xs

-- a pair has one of each list
pub record InPairs (xs ys : List ℕ) (pair : ℕ × ℕ) : Type 0 where
  pub first : Contains xs pair.0
  pub second : Contains ys pair.1

-- a test of three things, false where one is missing
abbrev pub of_three : {X Y Z : Type 0} → (X → Y → Z → Bool) → Option X → Option Y → Option Z → Bool
of_three test (Some x) other third = of_two (test x) other third
of_three test None other third = false

-- the same of what stands at three places
abbrev pub at_three : {X Y Z : Type 0} → (X → Y → Z → Bool) → List X → List Y → List Z → ℕ × ℕ × ℕ → Bool
at_three test xs ys zs places = of_three test (slice_get xs places.0) (slice_get ys places.1) (slice_get zs places.2)

-- the own boxes of three items are allowed
abbrev pub allow_own : {X Y Z : Type 0} → (Bounds → Bounds → Bounds → Bool) → ℕ → (X → ℕ → ℤ) → (X → ℕ → ℤ) → ℕ → (Y → ℕ → ℤ) → (Y → ℕ → ℤ) → ℕ → (Z → ℕ → ℤ) → (Z → ℕ → ℤ) → X → Y → Z → Bool
allow_own allows axes lows highs other_axes other_lows other_highs third_axes third_lows third_highs x =
    allows_own (allows (own_box axes (lows x) (highs x))) other_axes other_lows other_highs third_axes third_lows third_highs

-- all triples of a number below l, one below m and one below n, in lexicographic order
abbrev pub all_triples : ℕ → ℕ → ℕ → List (ℕ × ℕ × ℕ)
all_triples l m n = flat_map (λ i. map (λ (pair : ℕ × ℕ). (i, pair.0, pair.1)) (all_pairs m n)) (below l)

-- the triples of places of three lists whose items pass a test, in lexicographic order
abbrev pub triples_that : {X Y Z : Type 0} → (X → Y → Z → Bool) → List X → List Y → List Z → List (ℕ × ℕ × ℕ)
triples_that test xs ys zs = filter (at_three test xs ys zs) (all_triples (length xs) (length ys) (length zs))

-- the number of triples of one of each list that pass a test
unfoldable pub count_triples : (ℕ × ℕ × ℕ → Bool) → List ℕ → List ℕ → List ℕ → ℕ
count_triples test xs ys zs = sum_by (λ x. count_pairs (λ pair. test (x, pair.0, pair.1)) ys zs) xs

-- a triple has one of each list
pub record InTriples (xs ys zs : List ℕ) (triple : ℕ × ℕ × ℕ) : Type 0 where
  pub first : Contains xs triple.0
  pub second : Contains ys triple.1
  pub third : Contains zs triple.2

-- what was found stays, the wanted ones of a region were added, and no others
pub record Adds {X : Type 0} (wanted : X → Bool) (Region : X → Type 0) (before after : List X) : Type 0 where
  pub sound : (x : X) → Contains after x → Contains before x ⊎ (wanted x ≡ true)
  pub complete : (x : X) → Region x → wanted x ≡ true → Contains after x
  pub keeps : (x : X) → Contains before x → Contains after x
