-- Pairs of items at their places: which are wanted, and which boxes tell that none is.
use Rattle.std.proofs.Common.{◌≡◌, ℕ, zero, suc, ◌<◌, ℤ, Bool, true, false, cond, Option, Some, None, List, [], ◌∷◌, ◌++◌, ◌⊎◌, inl, inr, length, get_or, subst, refl, arith}
use Rattle.std.specs.List.{All, Contains, slice_get}
use Rattle.std.proofs.lemmas.Option.{get_or_from_slice_get, slice_get_read}
use Rattle.std.proofs.lemmas.List.Elements.{All-contains, Contains-append_cases}
use Rattle.box_tree.specs.declared.bounds.Bounds.{Bounds}
use Rattle.box_tree.specs.Boxes.{Covers}
use Rattle.box_tree.specs.Counts.{Rises}
use Rattle.box_tree.specs.Joins.{Adds, InPairs, at_two, count_pairs, of_two}
use Rattle.box_tree.specs.Nodes.{Lies}
use Rattle.box_tree.proofs.Counting.{first_parts, one_pair, rises_part, rises_then, second_parts}
use Rattle.box_tree.proofs.Found.{adds_none, adds_then, adds_where}

pub only_one : (i x : ℕ) → Contains (i ∷ []) x → i ≡ x
only_one i x (zero, h, e) = e
only_one i x (suc k, h, e) = absurd (omega arith)

same_pair : (i j x y : ℕ) → i ≡ x → j ≡ y → ◌≡◌ {A = ℕ × ℕ} (i, j) (x, y)
same_pair i j x y p q = cc

-- both things are there, and pass
pub record Both {X Y : Type 0} (test : X → Y → Bool) (one : Option X) (other : Option Y) : Type 0 where
  pub x : X
  pub y : Y
  pub x_is : one ≡ Some x
  pub y_is : other ≡ Some y
  pub passes : test x y ≡ true

pub both_of : {X Y : Type 0} (test : X → Y → Bool) (one : Option X) (other : Option Y) → of_two test one other ≡ true → Both test one other
both_of test (Some x) (Some y) h = record { x = x; y = y; x_is = refl; y_is = refl; passes = h }
both_of test (Some x) None h = absurd (cc)
both_of test None other h = absurd (cc)

pub at_two_read : {X Y : Type 0} (test : X → Y → Bool) (xs : List X) (ys : List Y) (i j : ℕ) (x : X) (y : Y) → i < length xs → j < length ys → x ≡ get_or xs i x → y ≡ get_or ys j y → at_two test xs ys (i, j) ≡ test x y
at_two_read test xs ys i j x y hi hj x_is y_is = rw (slice_get_read xs (length xs) i x refl hi x_is, slice_get_read ys (length ys) j y refl hj y_is)

pub first_of : (xs ys others : List ℕ) (pair : ℕ × ℕ) → InPairs (xs ++ ys) others pair → InPairs xs others pair ⊎ InPairs ys others pair
first_of xs ys others pair h = elim (Contains-append_cases xs ys pair.0 h.first) [ inl one ↦ inl record { first = one; second = h.second } | inr other ↦ inr record { first = other; second = h.second } ]

pub second_of : (xs ys others : List ℕ) (pair : ℕ × ℕ) → InPairs others (xs ++ ys) pair → InPairs others xs pair ⊎ InPairs others ys pair
second_of xs ys others pair h = elim (Contains-append_cases xs ys pair.1 h.second) [ inl one ↦ inl record { first = h.first; second = one } | inr other ↦ inr record { first = h.first; second = other } ]

pub adds_first : (wanted : ℕ × ℕ → Bool) (xs ys others whole : List ℕ) (first second third : List (ℕ × ℕ)) → whole ≡ xs ++ ys → Adds wanted (InPairs xs others) first second → Adds wanted (InPairs ys others) second third → Adds wanted (InPairs whole others) first third
adds_first wanted xs ys others whole first second third e a b =
    rw e (adds_then wanted (InPairs xs others) (InPairs ys others) (InPairs (xs ++ ys) others) first second third a b (first_of xs ys others))

pub adds_second : (wanted : ℕ × ℕ → Bool) (xs ys others whole : List ℕ) (first second third : List (ℕ × ℕ)) → whole ≡ xs ++ ys → Adds wanted (InPairs others xs) first second → Adds wanted (InPairs others ys) second third → Adds wanted (InPairs others whole) first third
adds_second wanted xs ys others whole first second third e a b =
    rw e (adds_then wanted (InPairs others xs) (InPairs others ys) (InPairs others (xs ++ ys)) first second third a b (second_of xs ys others))

pub rises_first : (test : ℕ × ℕ → Bool) (xs ys others whole : List ℕ) (first second third : ℕ) → whole ≡ xs ++ ys → Rises (count_pairs test xs others) first second → Rises (count_pairs test ys others) second third → Rises (count_pairs test whole others) first third
rises_first test xs ys others whole first second third e a b =
    rw e (rises_then (count_pairs test xs others) (count_pairs test ys others) (count_pairs test (xs ++ ys) others) first second third a b (first_parts test xs ys others))

pub rises_second : (test : ℕ × ℕ → Bool) (xs ys others whole : List ℕ) (first second third : ℕ) → whole ≡ xs ++ ys → Rises (count_pairs test others xs) first second → Rises (count_pairs test others ys) second third → Rises (count_pairs test others whole) first third
rises_second test xs ys others whole first second third e a b =
    rw e (rises_then (count_pairs test others xs) (count_pairs test others ys) (count_pairs test others (xs ++ ys)) first second third a b (second_parts test xs ys others))

pub rises_first_part : (test : ℕ × ℕ → Bool) (xs ys others whole : List ℕ) (first second : ℕ) → whole ≡ xs ++ ys → Rises (count_pairs test xs others) first second → Rises (count_pairs test whole others) first second
rises_first_part test xs ys others whole first second e a =
    rw e (rises_part (count_pairs test xs others) (count_pairs test ys others) (count_pairs test (xs ++ ys) others) first second a (first_parts test xs ys others))

pub rises_second_part : (test : ℕ × ℕ → Bool) (xs ys others whole : List ℕ) (first second : ℕ) → whole ≡ xs ++ ys → Rises (count_pairs test others xs) first second → Rises (count_pairs test others whole) first second
rises_second_part test xs ys others whole first second e a =
    rw e (rises_part (count_pairs test others xs) (count_pairs test others ys) (count_pairs test others (xs ++ ys)) first second a (second_parts test xs ys others))

-- an item that lies in a box is covered by it
pub covers_read : {X : Type 0} (axes : ℕ) (lows highs : X → ℕ → ℤ) (items : List X) (place : ℕ) (x : X) (box : Bounds) → Lies axes lows highs items place box → slice_get items place ≡ Some x → Covers axes (lows x) (highs x) box
covers_read axes lows highs items place x box lies is = subst (λ y. Covers axes (lows y) (highs y) box) (get_or_from_slice_get items place x x is) (lies x)

module _ {X Y : Type 0} (axes : ℕ) (lows highs : X → ℕ → ℤ) (items : List X) (other_axes : ℕ) (other_lows other_highs : Y → ℕ → ℤ) (others : List Y)
    (allows : Bounds → Bounds → Bool) (wanted : X → Y → Bool)
    (law : (x : X) (y : Y) (one other : Bounds) → wanted x y ≡ true → Covers axes (lows x) (highs x) one → Covers other_axes (other_lows y) (other_highs y) other → allows one other ≡ true) where
  -- where two boxes are not allowed, no two items that lie in them are wanted
  pub none_wanted : (xs ys : List ℕ) (one other : Bounds) (found : List (ℕ × ℕ)) → All (λ place. Lies axes lows highs items place one) xs → All (λ place. Lies other_axes other_lows other_highs others place other) ys → allows one other ≡ false → Adds (at_two wanted items others) (InPairs xs ys) found found
  none_wanted xs ys one other found in_one in_other not =
      adds_none (at_two wanted items others) (InPairs xs ys) found (λ pair in_both passes.
      let both = both_of wanted (slice_get items pair.0) (slice_get others pair.1) passes in
      let a = covers_read axes lows highs items pair.0 both.x one (All-contains (λ place. Lies axes lows highs items place one) xs pair.0 in_one in_both.first) both.x_is in
      let b = covers_read other_axes other_lows other_highs others pair.1 both.y other (All-contains (λ place. Lies other_axes other_lows other_highs others place other) ys pair.1 in_other in_both.second) both.y_is in
      let yes : allows one other ≡ true = law both.x both.y one other both.passes a b in
      cc)

-- a pair of one place each
pub only_pair : (i j : ℕ) (pair : ℕ × ℕ) → InPairs (i ∷ []) (j ∷ []) pair → ◌≡◌ {A = ℕ × ℕ} (i, j) pair
only_pair i j pair h = let one = only_one i pair.0 h.first in let other = only_one j pair.1 h.second in same_pair i j pair.0 pair.1 one other

-- the step of a row: one more item of the second tree
pub pair_found : (wanted : ℕ × ℕ → Bool) (i j : ℕ) (found after : List (ℕ × ℕ)) (b : Bool) → wanted (i, j) ≡ b → after ≡ cond b (found ++ (i, j) ∷ []) found → Adds wanted (InPairs (i ∷ []) (j ∷ [])) found after
pair_found wanted i j found after b w is = rw is (adds_where wanted (InPairs (i ∷ []) (j ∷ [])) found (i, j) b w (only_pair i j))

pub pair_rises : (test : ℕ × ℕ → Bool) (i j : ℕ) (b : Bool) (before after : ℕ) → test (i, j) ≡ b → Rises (cond b 1 0) before after → Rises (count_pairs test (i ∷ []) (j ∷ [])) before after
pair_rises test i j b before after w h = rw (one_pair test i j, w) h
