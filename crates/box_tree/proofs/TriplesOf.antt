-- Triples of items at their places: which are wanted, how many, and which boxes tell that none is.
use Rattle.std.proofs.Common.{◌≡◌, ℕ, ◌+◌, ◌<◌, ℤ, Bool, true, false, cond, Option, Some, None, List, [], ◌∷◌, ◌++◌, ◌⊎◌, inl, inr, length, get_or, zero-add, sym, ◌∙◌, refl}
use Rattle.std.specs.List.{All, count_by, filter, slice_get}
use Rattle.std.specs.List.Sorted.{IsPermutation}
use Rattle.std.proofs.lemmas.Option.{slice_get_read}
use Rattle.std.proofs.lemmas.List.Elements.{All-contains, Contains-append_cases}
use Rattle.std.proofs.lemmas.List.Sorted.{sum_by-IsPermutation}
use Rattle.std.proofs.lemmas.List.Sums.{length-filter, sum_by-append}
use Rattle.sky_units.specs.Pairs.{all_pairs, below}
use Rattle.box_tree.specs.declared.bounds.Bounds.{Bounds}
use Rattle.box_tree.specs.Boxes.{Covers}
use Rattle.box_tree.specs.Counts.{Rises}
use Rattle.box_tree.specs.Joins.{all_triples, Adds, InTriples, at_three, count_pairs, count_triples, of_three}
use Rattle.box_tree.specs.Nodes.{Lies}
use Rattle.box_tree.proofs.Counting.{count_all, sum_of_rows, count_in_order, first_parts, one_pair, rises_part, rises_then, second_parts, sum_by_agree, sum_of_sums}
use Rattle.box_tree.proofs.Found.{adds_none, adds_then, adds_where}
use Rattle.box_tree.proofs.PairsOf.{both_of, covers_read, only_one}

abbrev pub Triple : Type 0
Triple = ℕ × ℕ × ℕ

-- three things are there, and pass
pub record AllThree {X Y Z : Type 0} (test : X → Y → Z → Bool) (one : Option X) (other : Option Y) (third : Option Z) : Type 0 where
  pub x : X
  pub y : Y
  pub z : Z
  pub x_is : one ≡ Some x
  pub y_is : other ≡ Some y
  pub z_is : third ≡ Some z
  pub passes : test x y z ≡ true

pub all_three_of : {X Y Z : Type 0} (test : X → Y → Z → Bool) (one : Option X) (other : Option Y) (third : Option Z) → of_three test one other third ≡ true → AllThree test one other third
all_three_of test (Some x) other third h =
    let both = both_of (test x) other third h in
    record { x = x; y = both.x; z = both.y; x_is = refl; y_is = both.x_is; z_is = both.y_is; passes = both.passes }
all_three_of test None other third h = absurd (cc)

pub at_three_read : {X Y Z : Type 0} (test : X → Y → Z → Bool) (xs : List X) (ys : List Y) (zs : List Z) (i j k : ℕ) (x : X) (y : Y) (z : Z) → i < length xs → j < length ys → k < length zs → x ≡ get_or xs i x → y ≡ get_or ys j y → z ≡ get_or zs k z → at_three test xs ys zs (i, j, k) ≡ test x y z
at_three_read test xs ys zs i j k x y z hi hj hk x_is y_is z_is = rw (slice_get_read xs (length xs) i x refl hi x_is, slice_get_read ys (length ys) j y refl hj y_is, slice_get_read zs (length zs) k z refl hk z_is) refl

-- ---- regions
first_of : (xs ys one two : List ℕ) (triple : Triple) → InTriples (xs ++ ys) one two triple → InTriples xs one two triple ⊎ InTriples ys one two triple
first_of xs ys one two triple h = elim (Contains-append_cases xs ys triple.0 h.first) [
  | inl here ↦ inl record { first = here; second = h.second; third = h.third }
  | inr there ↦ inr record { first = there; second = h.second; third = h.third }
]

second_of : (xs ys one two : List ℕ) (triple : Triple) → InTriples one (xs ++ ys) two triple → InTriples one xs two triple ⊎ InTriples one ys two triple
second_of xs ys one two triple h = elim (Contains-append_cases xs ys triple.1 h.second) [
  | inl here ↦ inl record { first = h.first; second = here; third = h.third }
  | inr there ↦ inr record { first = h.first; second = there; third = h.third }
]

third_of : (xs ys one two : List ℕ) (triple : Triple) → InTriples one two (xs ++ ys) triple → InTriples one two xs triple ⊎ InTriples one two ys triple
third_of xs ys one two triple h = elim (Contains-append_cases xs ys triple.2 h.third) [
  | inl here ↦ inl record { first = h.first; second = h.second; third = here }
  | inr there ↦ inr record { first = h.first; second = h.second; third = there }
]

-- ---- counts
first_triples : (test : Triple → Bool) (xs ys one two : List ℕ) → count_triples test xs one two + count_triples test ys one two ≡ count_triples test (xs ++ ys) one two
unfolding count_triples
first_triples test xs ys one two = sym (sum_by-append (λ x. count_pairs (λ pair. test (x, pair.0, pair.1)) one two) xs ys)

second_triples : (test : Triple → Bool) (xs ys one two : List ℕ) → count_triples test one xs two + count_triples test one ys two ≡ count_triples test one (xs ++ ys) two
unfolding count_triples
second_triples test xs ys one two =
    sym (sum_of_sums (λ o. count_pairs (λ pair. test (o, pair.0, pair.1)) xs two) (λ o. count_pairs (λ pair. test (o, pair.0, pair.1)) ys two) (λ o. count_pairs (λ pair. test (o, pair.0, pair.1)) (xs ++ ys) two) (λ o. sym (first_parts (λ pair. test (o, pair.0, pair.1)) xs ys two)) one)

third_triples : (test : Triple → Bool) (xs ys one two : List ℕ) → count_triples test one two xs + count_triples test one two ys ≡ count_triples test one two (xs ++ ys)
unfolding count_triples
third_triples test xs ys one two =
    sym (sum_of_sums (λ o. count_pairs (λ pair. test (o, pair.0, pair.1)) two xs) (λ o. count_pairs (λ pair. test (o, pair.0, pair.1)) two ys) (λ o. count_pairs (λ pair. test (o, pair.0, pair.1)) two (xs ++ ys)) (λ o. sym (second_parts (λ pair. test (o, pair.0, pair.1)) xs ys two)) one)

one_triple : (test : Triple → Bool) (i j k : ℕ) → count_triples test (i ∷ []) (j ∷ []) (k ∷ []) ≡ cond (test (i, j, k)) 1 0
unfolding count_triples
one_triple test i j k = zero-add (count_pairs (λ pair. test (i, pair.0, pair.1)) (j ∷ []) (k ∷ [])) ∙ one_pair (λ pair. test (i, pair.0, pair.1)) j k

-- the order of the lists doesn't matter
triples_in_order : (test : Triple → Bool) (xs xs' ys ys' zs zs' : List ℕ) → IsPermutation xs xs' → IsPermutation ys ys' → IsPermutation zs zs' → count_triples test xs' ys' zs' ≡ count_triples test xs ys zs
unfolding count_triples
triples_in_order test xs xs' ys ys' zs zs' p q r =
    sum_by-IsPermutation (λ x. count_pairs (λ pair. test (x, pair.0, pair.1)) ys' zs') xs xs' p
    ∙ sum_by_agree (λ x. count_pairs (λ pair. test (x, pair.0, pair.1)) ys' zs') (λ x. count_pairs (λ pair. test (x, pair.0, pair.1)) ys zs) (λ x. count_in_order (λ pair. test (x, pair.0, pair.1)) ys ys' zs zs' q r) xs

count_all_triples : (test : Triple → Bool) (l m n : ℕ) → count_by test (all_triples l m n) ≡ count_triples test (below l) (below m) (below n)
unfolding count_triples
count_all_triples test l m n =
    sum_of_rows (λ (triple : Triple). cond (test triple) 1 0) (λ (i : ℕ) (pair : ℕ × ℕ). (i, pair.0, pair.1)) (below l) (all_pairs m n)
    ∙ sum_by_agree (λ i. count_by (λ pair. test (i, pair.0, pair.1)) (all_pairs m n)) (λ i. count_pairs (λ pair. test (i, pair.0, pair.1)) (below m) (below n)) (λ i. count_all (λ pair. test (i, pair.0, pair.1)) m n) (below l)

pub rises_by_all : (test : Triple → Bool) (l m n : ℕ) (xs ys zs : List ℕ) (before after : ℕ) → IsPermutation (below l) xs → IsPermutation (below m) ys → IsPermutation (below n) zs → Rises (count_triples test xs ys zs) before after → Rises (length (filter test (all_triples l m n))) before after
rises_by_all test l m n xs ys zs before after p q r h =
    let same : length (filter test (all_triples l m n)) ≡ count_triples test xs ys zs = length-filter test (all_triples l m n) ∙ count_all_triples test l m n ∙ sym (triples_in_order test (below l) xs (below m) ys (below n) zs p q r) in
    rw same h

-- ---- steps
pub adds_first : (wanted : Triple → Bool) (xs ys one two whole : List ℕ) (before middle after : List Triple) → whole ≡ xs ++ ys → Adds wanted (InTriples xs one two) before middle → Adds wanted (InTriples ys one two) middle after → Adds wanted (InTriples whole one two) before after
adds_first wanted xs ys one two whole before middle after e a b =
    rw e (adds_then wanted (InTriples xs one two) (InTriples ys one two) (InTriples (xs ++ ys) one two) before middle after a b (first_of xs ys one two))

pub rises_first : (test : Triple → Bool) (xs ys one two whole : List ℕ) (before middle after : ℕ) → whole ≡ xs ++ ys → Rises (count_triples test xs one two) before middle → Rises (count_triples test ys one two) middle after → Rises (count_triples test whole one two) before after
rises_first test xs ys one two whole before middle after e a b =
    rw e (rises_then (count_triples test xs one two) (count_triples test ys one two) (count_triples test (xs ++ ys) one two) before middle after a b (first_triples test xs ys one two))

pub rises_first_part : (test : Triple → Bool) (xs ys one two whole : List ℕ) (before after : ℕ) → whole ≡ xs ++ ys → Rises (count_triples test xs one two) before after → Rises (count_triples test whole one two) before after
rises_first_part test xs ys one two whole before after e a =
    rw e (rises_part (count_triples test xs one two) (count_triples test ys one two) (count_triples test (xs ++ ys) one two) before after a (first_triples test xs ys one two))

pub adds_second : (wanted : Triple → Bool) (xs ys one two whole : List ℕ) (before middle after : List Triple) → whole ≡ xs ++ ys → Adds wanted (InTriples one xs two) before middle → Adds wanted (InTriples one ys two) middle after → Adds wanted (InTriples one whole two) before after
adds_second wanted xs ys one two whole before middle after e a b =
    rw e (adds_then wanted (InTriples one xs two) (InTriples one ys two) (InTriples one (xs ++ ys) two) before middle after a b (second_of xs ys one two))

pub rises_second : (test : Triple → Bool) (xs ys one two whole : List ℕ) (before middle after : ℕ) → whole ≡ xs ++ ys → Rises (count_triples test one xs two) before middle → Rises (count_triples test one ys two) middle after → Rises (count_triples test one whole two) before after
rises_second test xs ys one two whole before middle after e a b =
    rw e (rises_then (count_triples test one xs two) (count_triples test one ys two) (count_triples test one (xs ++ ys) two) before middle after a b (second_triples test xs ys one two))

pub rises_second_part : (test : Triple → Bool) (xs ys one two whole : List ℕ) (before after : ℕ) → whole ≡ xs ++ ys → Rises (count_triples test one xs two) before after → Rises (count_triples test one whole two) before after
rises_second_part test xs ys one two whole before after e a =
    rw e (rises_part (count_triples test one xs two) (count_triples test one ys two) (count_triples test one (xs ++ ys) two) before after a (second_triples test xs ys one two))

pub adds_third : (wanted : Triple → Bool) (xs ys one two whole : List ℕ) (before middle after : List Triple) → whole ≡ xs ++ ys → Adds wanted (InTriples one two xs) before middle → Adds wanted (InTriples one two ys) middle after → Adds wanted (InTriples one two whole) before after
adds_third wanted xs ys one two whole before middle after e a b =
    rw e (adds_then wanted (InTriples one two xs) (InTriples one two ys) (InTriples one two (xs ++ ys)) before middle after a b (third_of xs ys one two))

pub rises_third : (test : Triple → Bool) (xs ys one two whole : List ℕ) (before middle after : ℕ) → whole ≡ xs ++ ys → Rises (count_triples test one two xs) before middle → Rises (count_triples test one two ys) middle after → Rises (count_triples test one two whole) before after
rises_third test xs ys one two whole before middle after e a b =
    rw e (rises_then (count_triples test one two xs) (count_triples test one two ys) (count_triples test one two (xs ++ ys)) before middle after a b (third_triples test xs ys one two))

pub rises_third_part : (test : Triple → Bool) (xs ys one two whole : List ℕ) (before after : ℕ) → whole ≡ xs ++ ys → Rises (count_triples test one two xs) before after → Rises (count_triples test one two whole) before after
rises_third_part test xs ys one two whole before after e a =
    rw e (rises_part (count_triples test one two xs) (count_triples test one two ys) (count_triples test one two (xs ++ ys)) before after a (third_triples test xs ys one two))

same_triple : (i j k x y z : ℕ) → i ≡ x → j ≡ y → k ≡ z → ◌≡◌ {A = Triple} (i, j, k) (x, y, z)
same_triple i j k x y z p q r = cc

-- a triple of one place each
only_triple : (i j k : ℕ) (triple : Triple) → InTriples (i ∷ []) (j ∷ []) (k ∷ []) triple → ◌≡◌ {A = Triple} (i, j, k) triple
only_triple i j k triple h = same_triple i j k triple.0 triple.1 triple.2 (only_one i triple.0 h.first) (only_one j triple.1 h.second) (only_one k triple.2 h.third)

pub triple_found : (wanted : Triple → Bool) (i j k : ℕ) (found after : List Triple) (b : Bool) → wanted (i, j, k) ≡ b → after ≡ cond b (found ++ (i, j, k) ∷ []) found → Adds wanted (InTriples (i ∷ []) (j ∷ []) (k ∷ [])) found after
triple_found wanted i j k found after b w is = rw is (adds_where wanted (InTriples (i ∷ []) (j ∷ []) (k ∷ [])) found (i, j, k) b w (only_triple i j k))

pub triple_rises : (test : Triple → Bool) (i j k : ℕ) (b : Bool) (before after : ℕ) → test (i, j, k) ≡ b → Rises (cond b 1 0) before after → Rises (count_triples test (i ∷ []) (j ∷ []) (k ∷ [])) before after
triple_rises test i j k b before after w h = rw (one_triple test i j k, w) h

module _ {X Y Z : Type 0} (axes : ℕ) (lows highs : X → ℕ → ℤ) (items : List X) (other_axes : ℕ) (other_lows other_highs : Y → ℕ → ℤ) (others : List Y) (third_axes : ℕ) (third_lows third_highs : Z → ℕ → ℤ) (thirds : List Z)
    (allows : Bounds → Bounds → Bounds → Bool) (wanted : X → Y → Z → Bool)
    (law : (x : X) (y : Y) (z : Z) (one other third : Bounds) → wanted x y z ≡ true → Covers axes (lows x) (highs x) one → Covers other_axes (other_lows y) (other_highs y) other → Covers third_axes (third_lows z) (third_highs z) third → allows one other third ≡ true) where
  -- where three boxes are not allowed, no three items that lie in them are wanted
  pub none_wanted : (xs ys zs : List ℕ) (one other third : Bounds) (found : List Triple) → All (λ place. Lies axes lows highs items place one) xs → All (λ place. Lies other_axes other_lows other_highs others place other) ys → All (λ place. Lies third_axes third_lows third_highs thirds place third) zs → allows one other third ≡ false → Adds (at_three wanted items others thirds) (InTriples xs ys zs) found found
  none_wanted xs ys zs one other third found in_one in_other in_third not =
      adds_none (at_three wanted items others thirds) (InTriples xs ys zs) found (λ triple in_all passes.
      let three = all_three_of wanted (slice_get items triple.0) (slice_get others triple.1) (slice_get thirds triple.2) passes in
      let a = covers_read axes lows highs items triple.0 three.x one (All-contains (λ place. Lies axes lows highs items place one) xs triple.0 in_one in_all.first) three.x_is in
      let b = covers_read other_axes other_lows other_highs others triple.1 three.y other (All-contains (λ place. Lies other_axes other_lows other_highs others place other) ys triple.1 in_other in_all.second) three.y_is in
      let c = covers_read third_axes third_lows third_highs thirds triple.2 three.z third (All-contains (λ place. Lies third_axes third_lows third_highs thirds place third) zs triple.2 in_third in_all.third) three.z_is in
      let allowed : allows one other third ≡ true = law three.x three.y three.z one other third three.passes a b c in
      cc)
