-- All triples of places, in lexicographic order.
use Rattle.std.proofs.Common.{◌≡◌, ℕ, ◌<◌, Bool, ◌&&◌, nat_eq, List, [], map, length, ◌∙◌, ap, refl, arith}
use Rattle.std.specs.Cmp.{IsTotalOrder, both_tied}
use Rattle.std.specs.List.{Contains, dedup, filter, slice_get}
use Rattle.std.specs.List.Sorted.{IsPermutation, IsSorted, IsStrictlySortedBy}
use Rattle.std.specs.Ordering.{eq_by_cmp, nat_cmp, ordering_then}
use Rattle.std.specs.declared.cmp.Ordering.{Ordering}
use Rattle.std.specs.declared.cmp.Ordering.TheVariants.{Less, Equal, Greater}
use Rattle.std.proofs.lemmas.Cmp.{nat_cmp_total, on_total, then_total}
use Rattle.std.proofs.lemmas.List.Elements.{All-map}
use Rattle.std.proofs.lemmas.List.Sorted.{Contains-permutation}
use Rattle.std.proofs.lemmas.Map.Lookups.{CmpEqualImpliesEq, exact_unsigned}
use Rattle.std.proofs.lemmas.Option.{slice_get_within}
use Rattle.sky_units.specs.Pairs.{all_pairs, below}
use Rattle.box_tree.specs.Joins.{Adds, InTriples, all_triples, at_three}
use Rattle.box_tree.proofs.Listed.{listed}
use Rattle.box_tree.proofs.TriplesOf.{Triple, all_three_of}
use Rattle.box_tree.proofs.TupleOrder.{in_pairs, nat_ties, pair_cmp, pairs_sorted}
use Rattle.box_tree.proofs.Sorting.{in_flat_map, in_map, in_range, nat_less, nat_same, sorted_map, sorted_rows}

abbrev pub triple_cmp : Triple → Triple → Ordering
triple_cmp x y = ordering_then (ordering_then (nat_cmp x.0 y.0) (nat_cmp x.1 y.1)) (nat_cmp x.2 y.2)

abbrev pub triple_same : Triple → Triple → Bool
triple_same x y = nat_eq x.0 y.0 && nat_eq x.1 y.1 && nat_eq x.2 y.2

triple_ties : (x y : Triple) → triple_same x y ≡ eq_by_cmp triple_cmp x y
triple_ties x y = both_tied _ _ (ordering_then (nat_cmp x.0 y.0) (nat_cmp x.1 y.1)) (nat_cmp x.2 y.2) (both_tied _ _ (nat_cmp x.0 y.0) (nat_cmp x.1 y.1) (nat_ties x.0 y.0) (nat_ties x.1 y.1)) (nat_ties x.2 y.2)

triple_total : IsTotalOrder triple_cmp
triple_total = then_total (then_total (on_total (λ (t : Triple). t.0) nat_cmp_total) (on_total (λ (t : Triple). t.1) nat_cmp_total)) (on_total (λ (t : Triple). t.2) nat_cmp_total)

both_equal : (a b : Ordering) → ordering_then a b ≡ Equal → (a ≡ Equal) × (b ≡ Equal)
both_equal Less b h = absurd (cc)
both_equal Equal b h = (refl, h)
both_equal Greater b h = absurd (cc)

same_parts : (x y : Triple) → x.0 ≡ y.0 → x.1 ≡ y.1 → x.2 ≡ y.2 → x ≡ y
same_parts x y p q r = λ i. (p i, q i, r i)

triple_exact : CmpEqualImpliesEq triple_cmp
triple_exact x y h =
    let outer = both_equal (ordering_then (nat_cmp x.0 y.0) (nat_cmp x.1 y.1)) (nat_cmp x.2 y.2) h in
    let inner = both_equal (nat_cmp x.0 y.0) (nat_cmp x.1 y.1) outer.0 in
    same_parts x y (exact_unsigned x.0 y.0 inner.0) (exact_unsigned x.1 y.1 inner.1) (exact_unsigned x.2 y.2 outer.1)

triple_less : (x y : Triple) → x.0 < y.0 → triple_cmp x y ≡ Less
triple_less x y h = ap (λ o. ordering_then (ordering_then o (nat_cmp x.1 y.1)) (nat_cmp x.2 y.2)) (nat_less x.0 y.0 h)

abbrev before : ℕ → ℕ × ℕ → Triple
before i pair = (i, pair.0, pair.1)

triple_row : (m n i : ℕ) → IsStrictlySortedBy triple_cmp (map (before i) (all_pairs m n))
triple_row m n i = sorted_map pair_cmp triple_cmp (before i) (λ x y h. ap (λ o. ordering_then (ordering_then o (nat_cmp x.0 y.0)) (nat_cmp x.1 y.1)) (nat_same i) ∙ h) (all_pairs m n) (pairs_sorted m n)

triples_sorted : (l m n : ℕ) → IsStrictlySortedBy triple_cmp (all_triples l m n)
triples_sorted l m n = sorted_rows triple_cmp (λ i. map (before i) (all_pairs m n)) (λ x. x.0) (λ i. All-map (λ x. x.0 ≡ i) (before i) (all_pairs m n) (λ k d h. refl)) triple_less (triple_row m n) 0 l

in_triples : (l m n i j k : ℕ) → i < l → j < m → k < n → Contains (all_triples l m n) (i, j, k)
in_triples l m n i j k hi hj hk = in_flat_map (λ i. map (before i) (all_pairs m n)) (below l) i (i, j, k) (in_range 0 l i (omega arith) (omega arith)) (in_map (before i) (all_pairs m n) (j, k) (in_pairs m n j k hj hk))

-- the triples that a join of all items found are all that are wanted
pub triples_listed : {X Y Z : Type 0} (test : X → Y → Z → Bool) (xs : List X) (ys : List Y) (zs : List Z) (order other_order third_order : List ℕ) (found sorted kept : List Triple)
    → IsPermutation (below (length xs)) order
    → IsPermutation (below (length ys)) other_order
    → IsPermutation (below (length zs)) third_order
    → Adds (at_three test xs ys zs) (InTriples order other_order third_order) [] found
    → IsPermutation found sorted
    → IsSorted triple_cmp sorted
    → kept ≡ dedup triple_same sorted
    → kept ≡ filter (at_three test xs ys zs) (all_triples (length xs) (length ys) (length zs))
triples_listed test xs ys zs order other_order third_order found sorted kept p q r adds moved is_sorted is =
    listed triple_cmp triple_total triple_exact triple_same triple_ties (at_three test xs ys zs) (InTriples order other_order third_order) (all_triples (length xs) (length ys) (length zs)) found sorted kept (triples_sorted (length xs) (length ys) (length zs)) adds
    (λ triple w.
    let three = all_three_of test (slice_get xs triple.0) (slice_get ys triple.1) (slice_get zs triple.2) w in
    let i_in : triple.0 < length xs = slice_get_within xs triple.0 three.x three.x_is in
    let j_in : triple.1 < length ys = slice_get_within ys triple.1 three.y three.y_is in
    let k_in : triple.2 < length zs = slice_get_within zs triple.2 three.z three.z_is in
    record {
      first = Contains-permutation (below (length xs)) order triple.0 p (in_range 0 (length xs) triple.0 (omega arith) (omega arith));
      second = Contains-permutation (below (length ys)) other_order triple.1 q (in_range 0 (length ys) triple.1 (omega arith) (omega arith));
      third = Contains-permutation (below (length zs)) third_order triple.2 r (in_range 0 (length zs) triple.2 (omega arith) (omega arith));
    })
    (λ triple w.
    let three = all_three_of test (slice_get xs triple.0) (slice_get ys triple.1) (slice_get zs triple.2) w in
    in_triples (length xs) (length ys) (length zs) triple.0 triple.1 triple.2 (slice_get_within xs triple.0 three.x three.x_is) (slice_get_within ys triple.1 three.y three.y_is) (slice_get_within zs triple.2 three.z three.z_is))
    moved is_sorted is
