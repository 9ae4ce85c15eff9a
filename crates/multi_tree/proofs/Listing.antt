-- The triples that pass the test are exactly the fitting triples, in order.
use Rattle.std.proofs.Common.{◌≡◌, ℕ, ◌<◌, Bool, true, Some, List, map, length, ap, ◌∙◌, refl, subst, sym, arith}
use Rattle.std.proofs.lemmas.List.Elements.{All-contains, All-map, filter_passes}
use Rattle.std.proofs.lemmas.List.Kept.{IsStrictlySortedBy-filter}
use Rattle.std.proofs.lemmas.Option.{slice_get_within}
use Rattle.std.specs.List.{Contains, slice_get}
use Rattle.std.specs.List.Sorted.{IsStrictlySortedBy}
use Rattle.std.specs.Ordering.{nat_cmp, ordering_then}
use Rattle.std.specs.Result.{IfOk}
use Rattle.std.specs.declared.cmp.Ordering.TheVariants.{Less}
use Rattle.std.specs.declared.result.Result.{Result}
use Rattle.std.specs.declared.result.Result.TheVariants.{Ok, Err}
use Rattle.sky_units.specs.Pairs.{all_pairs, below}
use Rattle.sky_units.specs.SettingsData.{SettingsData}
use Rattle.box_tree.specs.Joins.{all_triples, at_three, triples_that}
use Rattle.box_tree.proofs.Sorting.{in_filter, in_flat_map, in_map, in_range, nat_less, nat_same, sorted_map, sorted_rows}
use Rattle.box_tree.proofs.TriplesOf.{all_three_of}
use Rattle.box_tree.proofs.TupleOrder.{in_pairs, pair_cmp, pairs_sorted}
use Rattle.bound_prune.specs.Boxes.{BoxedTracklet}
use Rattle.bound_prune.specs.Decided.{holds-so, holds-true, three_wanted_or_not}
use Rattle.bound_prune.specs.Pruning.{wanted_three}
use Rattle.multi_tree.specs.Triples.{AreFittingTriples, triple_cmp}

-- ---- all triples of places, in order
abbrev before : ℕ → ℕ × ℕ → ℕ × ℕ × ℕ
before i pair = (i, pair.0, pair.1)

triple_less : (x y : ℕ × ℕ × ℕ) → x.0 < y.0 → triple_cmp x y ≡ Less
triple_less x y h = ap (λ o. ordering_then (ordering_then o (nat_cmp x.1 y.1)) (nat_cmp x.2 y.2)) (nat_less x.0 y.0 h)

row_sorted : (m n i : ℕ) → IsStrictlySortedBy triple_cmp (map (before i) (all_pairs m n))
row_sorted m n i = sorted_map pair_cmp triple_cmp (before i) (λ x y h. ap (λ o. ordering_then (ordering_then o (nat_cmp x.0 y.0)) (nat_cmp x.1 y.1)) (nat_same i) ∙ h) (all_pairs m n) (pairs_sorted m n)

all_sorted : (l m n : ℕ) → IsStrictlySortedBy triple_cmp (all_triples l m n)
all_sorted l m n = sorted_rows triple_cmp (λ i. map (before i) (all_pairs m n)) (λ x. x.0) (λ i. All-map (λ x. x.0 ≡ i) (before i) (all_pairs m n) (λ k d h. refl)) triple_less (row_sorted m n) 0 l

among_all : (l m n i j k : ℕ) → i < l → j < m → k < n → Contains (all_triples l m n) (i, j, k)
among_all l m n i j k hi hj hk = in_flat_map (λ i. map (before i) (all_pairs m n)) (below l) i (i, j, k) (in_range 0 l i (omega arith) (omega arith)) (in_map (before i) (all_pairs m n) (j, k) (in_pairs m n j k hj hk))

-- ---- those that pass
passes_at : (test : BoxedTracklet → BoxedTracklet → BoxedTracklet → Bool) (xs ys zs : List BoxedTracklet) (triple : ℕ × ℕ × ℕ) (x y z : BoxedTracklet) →
    slice_get xs triple.0 ≡ Some x → slice_get ys triple.1 ≡ Some y → slice_get zs triple.2 ≡ Some z → test x y z ≡ true → at_three test xs ys zs triple ≡ true
passes_at test xs ys zs triple x y z p q r h = rw (p, q, r) h

pub fitting_listed : (settings : SettingsData) (xs ys zs : List BoxedTracklet) → AreFittingTriples settings xs ys zs (triples_that (wanted_three settings) xs ys zs)
fitting_listed settings xs ys zs =
    let test : BoxedTracklet → BoxedTracklet → BoxedTracklet → Bool = wanted_three settings in
    let all : List (ℕ × ℕ × ℕ) = all_triples (length xs) (length ys) (length zs) in
    record {
      in_order = IsStrictlySortedBy-filter triple_cmp (at_three test xs ys zs) all (all_sorted (length xs) (length ys) (length zs));
      exactly = λ triple. (
        λ c.
            let three = all_three_of test (slice_get xs triple.0) (slice_get ys triple.1) (slice_get zs triple.2)
            (All-contains (λ t. at_three test xs ys zs t ≡ true) (triples_that test xs ys zs) triple (filter_passes (at_three test xs ys zs) all) c) in
            record { first = three.x; second = three.y; third = three.z; first_at = three.x_is; second_at = three.y_is; third_at = three.z_is; fit = holds-so (three_wanted_or_not settings three.x three.y three.z) three.passes },
        λ f.
            in_filter (at_three test xs ys zs) all triple
            (among_all (length xs) (length ys) (length zs) triple.0 triple.1 triple.2 (slice_get_within xs triple.0 f.first f.first_at) (slice_get_within ys triple.1 f.second f.second_at) (slice_get_within zs triple.2 f.third f.third_at))
            (passes_at test xs ys zs triple f.first f.second f.third f.first_at f.second_at f.third_at (holds-true (three_wanted_or_not settings f.first f.second f.third) f.fit)),
      );
    }

-- what a join of three answers for the settings
pub fitting_joined : (settings known : SettingsData) (xs ys zs : List BoxedTracklet) (found : List (ℕ × ℕ × ℕ)) → known ≡ settings → found ≡ triples_that (wanted_three known) xs ys zs → AreFittingTriples settings xs ys zs found
fitting_joined settings known xs ys zs found same is =
    let list : found ≡ triples_that (wanted_three settings) xs ys zs = subst (λ s. found ≡ triples_that (wanted_three s) xs ys zs) same is in
    subst (AreFittingTriples settings xs ys zs) (sym list) (fitting_listed settings xs ys zs)

pub where_ok : {T E : Type 0} (P Q : T → Type 0) (r : Result T E) → ((x : T) → P x → Q x) → IfOk r P → IfOk r Q
where_ok P Q (Ok x) f h = f x h
where_ok P Q (Err e) f h = h
