-- The order of places, and where a search for one ends.
use Rattle.std.proofs.Common.{Ok, Err, ◌≡◌, ℕ, ◌+◌, ◌<◌, ◌≤◌, ℤ, false, List, length, get_or, refl, arith}
use Rattle.std.specs.declared.cmp.Ordering.{Ordering}
use Rattle.std.specs.declared.cmp.Ordering.TheVariants.{Less, Equal, Greater}
use Rattle.std.specs.Ordering.{int_cmp, nat_cmp, ordering_then, ordering_reverse, ordering_index, is_lt}
use Rattle.std.specs.Cmp.{IsTotalOrder}
use Rattle.std.specs.Cmp.Lexicographic.{slice_cmp}
use Rattle.std.specs.List.Sorted.{IsNonDecreasingBy, IsBinarySearchResult, IsSearchInRange, IsPartitionPoint}
use Rattle.std.specs.Result.{IfOk, IfErr}
use Rattle.std.specs.declared.result.Result.{Result}
use Rattle.std.proofs.lemmas.Cmp.{then_total, int_cmp_total, nat_list_cmp_total}
use Rattle.std.proofs.lemmas.List.Sorted.{searchable_from_sorted}
use Rattle.exposure_log.specs.declared.numbered.NumberedExposure.{NumberedExposure}
use Rattle.exposure_log.specs.Numbered.{numbered_cmp, RiseStrictly}

-- a place: an epoch and a site
abbrev pub Place : Type 0
Place = ℤ × List ℕ

abbrev pub by_place : Place → Place → Ordering
by_place x y = ordering_then (int_cmp x.0 y.0) (slice_cmp nat_cmp x.1 y.1)

on_total : {A B : Type 0} (f : A → B) (R : B → B → Ordering) → IsTotalOrder R → IsTotalOrder (λ x y. R (f x) (f y))
on_total f R o = record { antisymm = λ x y. o.antisymm (f x) (f y); trans = λ x y z. o.trans (f x) (f y) (f z); congr = λ x y z. o.congr (f x) (f y) (f z) }

pub place_total : IsTotalOrder by_place
place_total = then_total (on_total (λ (x : Place). x.0) int_cmp int_cmp_total) (on_total (λ (x : Place). x.1) (slice_cmp nat_cmp) nat_list_cmp_total)

abbrev pub place_of : NumberedExposure → Place
place_of g = (g.epoch, g.site)

not_less : (a b : Ordering) → a ≡ ordering_reverse b → b ≡ Less → is_lt a ≡ false
not_less a b e h = rw (e, h) refl

pub searchable : (listed : List NumberedExposure) (epoch : ℤ) (site : List ℕ) → RiseStrictly listed → IsNonDecreasingBy (λ g. ordering_index (numbered_cmp epoch site g)) listed
searchable listed epoch site rise = searchable_from_sorted place_total place_of listed (epoch, site)
    (λ k d low high. not_less (by_place (place_of (get_or listed (k + 1) d)) (place_of (get_or listed k d))) (by_place (place_of (get_or listed k d)) (place_of (get_or listed (k + 1) d)))
    (place_total.antisymm (place_of (get_or listed (k + 1) d)) (place_of (get_or listed k d))) (rise k (k + 1) d (omega arith) high))

-- what a search answers, by its two clauses
pub found_at : (ord : NumberedExposure → Ordering) (listed : List NumberedExposure) (r : Result ℕ ℕ) → IsSearchInRange r (length listed) → IsBinarySearchResult ord listed r
    → IfOk r (λ i. (i < length listed) × ((g : NumberedExposure) → ord (get_or listed i g) ≡ Equal))
found_at ord listed (Ok i) bound is = (bound, is)
found_at ord listed (Err i) bound is = tt

pub missing_at : (ord : NumberedExposure → Ordering) (listed : List NumberedExposure) (r : Result ℕ ℕ) → IsSearchInRange r (length listed) → IsBinarySearchResult ord listed r
    → IsNonDecreasingBy (λ g. ordering_index (ord g)) listed
    → IfErr r (λ i. (i ≤ length listed) × IsPartitionPoint (λ g. ord g ≡ Less) (λ g. ord g ≡ Greater) listed i)
missing_at ord listed (Ok i) bound is rise = tt
missing_at ord listed (Err i) bound is rise = (bound, is rise)
