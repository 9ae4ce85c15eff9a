-- Counts of pairs, and counts that rise.
use Rattle.std.proofs.Common.{◌≡◌, ℕ, ◌+◌, Bool, cond, List, [], ◌∷◌, ◌++◌, zero-add, refl, sym, ◌∙◌, arith, map, length}
use Rattle.std.specs.List.{count_by, filter, flat_map, sum_by}
use Rattle.std.specs.List.Sorted.{IsPermutation}
use Rattle.std.proofs.lemmas.List.Sums.{length-filter, sum_by-append, sum_by-cons}
use Rattle.std.proofs.lemmas.List.Sorted.{sum_by-IsPermutation}
use Rattle.sky_units.specs.Pairs.{all_pairs, below}
use Rattle.box_tree.specs.Counts.{Rises}
use Rattle.box_tree.specs.Joins.{count_pairs}

pub rises_none : (most count : ℕ) → Rises most count count
rises_none most count = record { no_less = omega arith; few = omega arith }

pub rises_then : (m n most first second third : ℕ) → Rises m first second → Rises n second third → m + n ≡ most → Rises most first third
rises_then m n most first second third a b e =
    let a_less = a.no_less in
    let b_less = b.no_less in
    let a_few = a.few in
    let b_few = b.few in
    record { no_less = omega arith; few = omega arith }

pub rises_part : (m n most first second : ℕ) → Rises m first second → m + n ≡ most → Rises most first second
rises_part m n most first second a e =
    let a_less = a.no_less in
    let a_few = a.few in
    record { no_less = omega arith; few = omega arith }

module _ {X : Type 0} where
  -- sums of functions that agree are the same
  pub sum_by_agree : (f g : X → ℕ) → ((x : X) → f x ≡ g x) → (xs : List X) → sum_by f xs ≡ sum_by g xs
  sum_by_agree f g same [] = refl
  sum_by_agree f g same (x ∷ xs) =
      let rest = sum_by_agree f g same xs in
      let here = same x in
      let one = sum_by-cons f x xs in
      let other = sum_by-cons g x xs in
      omega arith

  pub sum_of_sums : (f g h : X → ℕ) → ((x : X) → h x ≡ f x + g x) → (xs : List X) → sum_by h xs ≡ sum_by f xs + sum_by g xs
  sum_of_sums f g h same [] = refl
  sum_of_sums f g h same (x ∷ xs) =
      let rest = sum_of_sums f g h same xs in
      let here = same x in
      let one = sum_by-cons f x xs in
      let other = sum_by-cons g x xs in
      let both = sum_by-cons h x xs in
      omega arith

pub count_by_append : {X : Type 0} (p : X → Bool) (xs ys : List X) → count_by p (xs ++ ys) ≡ count_by p xs + count_by p ys
count_by_append p xs ys = sum_by-append (λ x. cond (p x) 1 0) xs ys

pub first_parts : (test : ℕ × ℕ → Bool) (xs ys others : List ℕ) → count_pairs test xs others + count_pairs test ys others ≡ count_pairs test (xs ++ ys) others
unfolding count_pairs
first_parts test xs ys others = sym (sum_by-append (λ x. count_by (λ y. test (x, y)) others) xs ys)

pub second_parts : (test : ℕ × ℕ → Bool) (xs ys others : List ℕ) → count_pairs test others xs + count_pairs test others ys ≡ count_pairs test others (xs ++ ys)
unfolding count_pairs
second_parts test xs ys others =
    sym (sum_of_sums (λ o. count_by (λ y. test (o, y)) xs) (λ o. count_by (λ y. test (o, y)) ys) (λ o. count_by (λ y. test (o, y)) (xs ++ ys)) (λ o. count_by_append (λ y. test (o, y)) xs ys) others)

pub one_pair : (test : ℕ × ℕ → Bool) (x y : ℕ) → count_pairs test (x ∷ []) (y ∷ []) ≡ cond (test (x, y)) 1 0
unfolding count_pairs
one_pair test x y = simp zero-add

pub no_pairs_first : (test : ℕ × ℕ → Bool) (ys : List ℕ) → count_pairs test [] ys ≡ 0
unfolding count_pairs
no_pairs_first test ys = refl

pub no_pairs_second : (test : ℕ × ℕ → Bool) (xs : List ℕ) → count_pairs test xs [] ≡ 0
unfolding count_pairs
no_pairs_second test [] = refl
no_pairs_second test (x ∷ xs) = no_pairs_second test xs

-- the order of the lists doesn't matter
pub count_in_order : (test : ℕ × ℕ → Bool) (xs xs' ys ys' : List ℕ) → IsPermutation xs xs' → IsPermutation ys ys' → count_pairs test xs' ys' ≡ count_pairs test xs ys
unfolding count_pairs
count_in_order test xs xs' ys ys' p q =
    sum_by-IsPermutation (λ x. count_by (λ y. test (x, y)) ys') xs xs' p
    ∙ sum_by_agree (λ x. count_by (λ y. test (x, y)) ys') (λ x. count_by (λ y. test (x, y)) ys) (λ x. sum_by-IsPermutation (λ y. cond (test (x, y)) 1 0) ys ys' q) xs

sum_of_map : {X Y : Type 0} (f : Y → ℕ) (g : X → Y) (xs : List X) → sum_by f (map g xs) ≡ sum_by (λ x. f (g x)) xs
sum_of_map f g [] = refl
sum_of_map f g (x ∷ xs) =
    let rest = sum_of_map f g xs in
    let one = sum_by-cons f (g x) (map g xs) in
    let other = sum_by-cons (λ x. f (g x)) x xs in
    omega arith

pub sum_of_flat_map : {X Y : Type 0} (f : Y → ℕ) (g : X → List Y) (xs : List X) → sum_by f (flat_map g xs) ≡ sum_by (λ x. sum_by f (g x)) xs
sum_of_flat_map f g [] = refl
sum_of_flat_map f g (x ∷ xs) =
    let rest = sum_of_flat_map f g xs in
    let one = sum_by-append f (g x) (flat_map g xs) in
    let other = sum_by-cons (λ x. sum_by f (g x)) x xs in
    omega arith

pub sum_of_rows : {X Y Z : Type 0} (f : Z → ℕ) (g : X → Y → Z) (xs : List X) (ys : List Y) → sum_by f (flat_map (λ x. map (g x) ys) xs) ≡ sum_by (λ x. sum_by (λ y. f (g x y)) ys) xs
sum_of_rows f g xs ys = sum_of_flat_map f (λ x. map (g x) ys) xs ∙ sum_by_agree (λ x. sum_by f (map (g x) ys)) (λ x. sum_by (λ y. f (g x y)) ys) (λ x. sum_of_map f (g x) ys) xs

-- the pairs of all places that pass, counted
pub count_all : (test : ℕ × ℕ → Bool) (m n : ℕ) → count_by test (all_pairs m n) ≡ count_pairs test (below m) (below n)
unfolding count_pairs
count_all test m n = sum_of_rows (λ (pair : ℕ × ℕ). cond (test pair) 1 0) (λ i j. (i, j)) (below m) (below n)

pub rises_by_all : (test : ℕ × ℕ → Bool) (m n : ℕ) (xs ys : List ℕ) (before after : ℕ) → IsPermutation (below m) xs → IsPermutation (below n) ys → Rises (count_pairs test xs ys) before after → Rises (length (filter test (all_pairs m n))) before after
rises_by_all test m n xs ys before after p q h =
    let same : length (filter test (all_pairs m n)) ≡ count_pairs test xs ys = length-filter test (all_pairs m n) ∙ count_all test m n ∙ sym (count_in_order test (below m) xs (below n) ys p q) in
    rw same h
