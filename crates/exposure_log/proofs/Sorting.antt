-- Sorting in canonical order.
use Rattle.std.proofs.Common.{◌≡◌, Ok, Err, Bool, false, List, get_or, refl, arith}
use Rattle.std.specs.Prelude.{OnOk}
use Rattle.std.specs.declared.result.Result.{Result}
use Rattle.std.specs.List.{AllPairs}
use Rattle.std.specs.List.Sorted.{IsSortedBy}
use Rattle.std.specs.Cmp.{IsTotalOrder, IsStrictWeakOrder}
use Rattle.std.specs.declared.cmp.Ordering.{Ordering}
use Rattle.std.specs.declared.cmp.Ordering.TheVariants.{Less, Equal, Greater}
use Rattle.std.specs.Ordering.{int_cmp, on, ordering_reverse, is_lt, is_gt}
use Rattle.std.specs.Cmp.Lexicographic.{on_texts}
use Rattle.std.proofs.lemmas.Cmp.{then_total, int_cmp_total}
use Rattle.std.proofs.lemmas.List.Sorted.{sorted_far, ranks_by}
use Rattle.miti_text.specs.Observation.{Observation}
use Rattle.miti_text.specs.CanonicalOrder.{canonical_cmp}
use Rattle.exposure_log.specs.Gathered.{NotAfter}

by_epoch : IsTotalOrder (on (λ (d : Observation). d.epoch) int_cmp)
by_epoch = record { antisymm = λ x y. int_cmp_total.antisymm x.epoch y.epoch; trans = λ x y z. int_cmp_total.trans x.epoch y.epoch z.epoch; congr = λ x y z. int_cmp_total.congr x.epoch y.epoch z.epoch }

pub canonical_total : IsTotalOrder canonical_cmp
canonical_total = then_total by_epoch (then_total (on_texts (λ (d : Observation). d.site)) (on_texts (λ (d : Observation). d.id)))

abbrev pub stands_lower : Observation → Observation → Bool
stands_lower x y = is_lt (canonical_cmp x y)

pub canonical_ranks : IsStrictWeakOrder stands_lower
canonical_ranks = ranks_by canonical_total (λ (d : Observation). d)

pub not_greater : (r s : Ordering) → r ≡ ordering_reverse s → is_lt s ≡ false → is_gt r ≡ false
not_greater r Less e h = cc
not_greater r Equal e h = rw e refl
not_greater r Greater e h = rw e refl

pub rising_from_sorted : (ds : List Observation) → IsSortedBy stands_lower ds → AllPairs NotAfter ds
rising_from_sorted ds up i j d l h =
    not_greater (canonical_cmp (get_or ds i d) (get_or ds j d)) (canonical_cmp (get_or ds j d) (get_or ds i d)) (canonical_total.antisymm (get_or ds i d) (get_or ds j d))
    (sorted_far stands_lower canonical_ranks ds up i j d (omega (arith, l)) h)

-- ---- what holds where a sort had its memory

pub where_ok : {T E : Type 0} (r : Result T E) (P : Type 0) → P → OnOk r P
where_ok (Ok x) P p = p
where_ok (Err e) P p = tt

pub then_ok : {T E : Type 0} (r : Result T E) (P Q : Type 0) → (P → Q) → OnOk r P → OnOk r Q
then_ok (Ok x) P Q h p = h p
then_ok (Err e) P Q h p = tt
