-- All pairs of places, in lexicographic order.
use Rattle.std.proofs.Common.{◌≡◌, ℕ, ◌<◌, Bool, ◌&&◌, nat_eq, List, [], map, length, ◌∙◌, ap, refl, arith}
use Rattle.std.specs.Cmp.{IsTotalOrder, both_tied}
use Rattle.std.specs.List.{Contains, dedup, filter, slice_get}
use Rattle.std.specs.List.Sorted.{IsPermutation, IsSorted, IsStrictlySortedBy}
use Rattle.std.specs.Ordering.{eq_by_cmp, is_eq, nat_cmp, ordering_then}
use Rattle.std.specs.declared.cmp.Ordering.{Ordering}
use Rattle.std.specs.declared.cmp.Ordering.TheVariants.{Less}
use Rattle.std.proofs.lemmas.Bool.Decides.{nat_tests}
use Rattle.std.proofs.lemmas.Cmp.{nat_cmp_total, on_total, then_total}
use Rattle.std.proofs.lemmas.List.Elements.{All-map}
use Rattle.std.proofs.lemmas.List.Sorted.{Contains-permutation}
use Rattle.std.proofs.lemmas.Map.Lookups.{CmpEqualImpliesEq, exact_pairs, exact_unsigned}
use Rattle.std.proofs.lemmas.Option.{slice_get_within}
use Rattle.sky_units.specs.Pairs.{all_pairs, below}
use Rattle.box_tree.specs.Joins.{Adds, InPairs, at_two}
use Rattle.box_tree.proofs.Listed.{listed}
use Rattle.box_tree.proofs.PairsOf.{both_of}
use Rattle.box_tree.proofs.Sorting.{in_flat_map, in_map, in_range, nat_less, nat_same, sorted_map, sorted_range, sorted_rows}

abbrev pub pair_cmp : ℕ × ℕ → ℕ × ℕ → Ordering
pair_cmp x y = ordering_then (nat_cmp x.0 y.0) (nat_cmp x.1 y.1)

abbrev pub pair_same : ℕ × ℕ → ℕ × ℕ → Bool
pair_same x y = nat_eq x.0 y.0 && nat_eq x.1 y.1

pub nat_ties : (x y : ℕ) → nat_eq x y ≡ is_eq (nat_cmp x y)
nat_ties x y = grind (arith, nat_tests)

pub pair_ties : (x y : ℕ × ℕ) → pair_same x y ≡ eq_by_cmp pair_cmp x y
pair_ties x y = both_tied _ _ (nat_cmp x.0 y.0) (nat_cmp x.1 y.1) (nat_ties x.0 y.0) (nat_ties x.1 y.1)

pub pair_total : IsTotalOrder pair_cmp
pair_total = then_total (on_total (λ (t : ℕ × ℕ). t.0) nat_cmp_total) (on_total (λ (t : ℕ × ℕ). t.1) nat_cmp_total)

pub pair_exact : CmpEqualImpliesEq pair_cmp
pair_exact = exact_pairs nat_cmp nat_cmp exact_unsigned exact_unsigned

pub pair_less : (x y : ℕ × ℕ) → x.0 < y.0 → pair_cmp x y ≡ Less
pair_less x y h = ap (λ o. ordering_then o (nat_cmp x.1 y.1)) (nat_less x.0 y.0 h)

pair_row : (n i : ℕ) → IsStrictlySortedBy pair_cmp (map (λ j. (i, j)) (below n))
pair_row n i = sorted_map nat_cmp pair_cmp (λ (j : ℕ). (i, j)) (λ j k h. ap (λ o. ordering_then o (nat_cmp j k)) (nat_same i) ∙ h) (below n) (sorted_range 0 n)

pub pairs_sorted : (m n : ℕ) → IsStrictlySortedBy pair_cmp (all_pairs m n)
pairs_sorted m n = sorted_rows pair_cmp (λ i. map (λ j. (i, j)) (below n)) (λ x. x.0) (λ i. All-map (λ x. x.0 ≡ i) (λ j. (i, j)) (below n) (λ k d h. refl)) pair_less (pair_row n) 0 m

pub in_pairs : (m n i j : ℕ) → i < m → j < n → Contains (all_pairs m n) (i, j)
in_pairs m n i j hi hj = in_flat_map (λ i. map (λ j. (i, j)) (below n)) (below m) i (i, j) (in_range 0 m i (omega arith) (omega arith)) (in_map (λ j. (i, j)) (below n) j (in_range 0 n j (omega arith) (omega arith)))

-- the pairs that a join of all items found are all that are wanted
pub pairs_listed : {X Y : Type 0} (test : X → Y → Bool) (xs : List X) (ys : List Y) (order other_order : List ℕ) (found sorted kept : List (ℕ × ℕ))
    → IsPermutation (below (length xs)) order
    → IsPermutation (below (length ys)) other_order
    → Adds (at_two test xs ys) (InPairs order other_order) [] found
    → IsPermutation found sorted
    → IsSorted pair_cmp sorted
    → kept ≡ dedup pair_same sorted
    → kept ≡ filter (at_two test xs ys) (all_pairs (length xs) (length ys))
pairs_listed test xs ys order other_order found sorted kept p q adds moved is_sorted is =
    listed pair_cmp pair_total pair_exact pair_same pair_ties (at_two test xs ys) (InPairs order other_order) (all_pairs (length xs) (length ys)) found sorted kept (pairs_sorted (length xs) (length ys)) adds
    (λ pair w.
    let both = both_of test (slice_get xs pair.0) (slice_get ys pair.1) w in
    let i_in : pair.0 < length xs = slice_get_within xs pair.0 both.x both.x_is in
    let j_in : pair.1 < length ys = slice_get_within ys pair.1 both.y both.y_is in
    record {
      first = Contains-permutation (below (length xs)) order pair.0 p (in_range 0 (length xs) pair.0 (omega arith) (omega arith));
      second = Contains-permutation (below (length ys)) other_order pair.1 q (in_range 0 (length ys) pair.1 (omega arith) (omega arith));
    })
    (λ pair w.
    let both = both_of test (slice_get xs pair.0) (slice_get ys pair.1) w in
    in_pairs (length xs) (length ys) pair.0 pair.1 (slice_get_within xs pair.0 both.x both.x_is) (slice_get_within ys pair.1 both.y both.y_is))
    moved is_sorted is
