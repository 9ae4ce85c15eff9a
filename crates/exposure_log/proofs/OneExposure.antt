-- Detections of one exposure: in canonical order their ids alone decide.
use Rattle.std.proofs.Common.{◌≡◌, ℕ, ◌<◌, ℤ, pos, Bool, true, false, ◌&&◌, List, [], ◌∷◌, length, get_or, refl, sym, ap, ◌∙◌, arith, suc, inl, inr}
use Rattle.std.specs.Prelude.{nat_eq}
use Rattle.std.specs.Bool.{Decides}
use Rattle.std.specs.List.{All, AllPairs, filter, list_all}
use Rattle.std.specs.List.Sorted.{IsSortedBy, IsStable, IsStableBy, ties}
use Rattle.std.specs.Cmp.{IsTotalOrder, IsStrictWeakOrder}
use Rattle.std.specs.declared.cmp.Ordering.{Ordering}
use Rattle.std.specs.Ordering.{int_cmp, int_eq, nat_cmp, ordering_then, is_eq, is_lt}
use Rattle.std.specs.Cmp.Lexicographic.{pointwise, slice_cmp, on_texts, bytes_decides}
use Rattle.std.proofs.lemmas.Bool.{cases_Bool}
use Rattle.std.proofs.lemmas.Bool.Decides.{Decides-int_eq, Decides-and, Decides-by_and}
use Rattle.std.proofs.lemmas.List.Elements.{All-nil, All-cons, All-head, All-tail}
use Rattle.std.proofs.lemmas.List.Kept.{AllPairs-cons}
use Rattle.std.proofs.lemmas.List.Sorted.{sorted_far, ranks_by}
use Rattle.std.proofs.lemmas.Map.Lookups.{exact_bytes, exact_signed}
use Rattle.miti_text.specs.Observation.{Observation}
use Rattle.miti_text.specs.CanonicalOrder.{canonical_cmp}
use Rattle.exposure_log.specs.Gathered.{NotAfter, IsOfOneExposure}
use Rattle.exposure_log.proofs.Cutting.{Ds, at, both_equal, is_equal, same_place, same_at, same_epoch, same_site, by_ids}
use Rattle.exposure_log.proofs.Order.{by_place}
use Rattle.exposure_log.proofs.Sorting.{canonical_total, stands_lower, not_greater}
use Rattle.exposure_log.proofs.StableSort.{equal_from_tie}

-- how two detections compare by their ids
abbrev id_cmp : Observation → Observation → Ordering
id_cmp x y = slice_cmp nat_cmp x.id y.id

ids_total : IsTotalOrder id_cmp
ids_total = on_texts (λ (d : Observation). d.id)

abbrev pub has_lower_id : Observation → Observation → Bool
has_lower_id x y = is_lt (id_cmp x y)

pub ids_rank : IsStrictWeakOrder has_lower_id
ids_rank = ranks_by ids_total (λ (d : Observation). d)

-- ---- two detections

-- of one exposure
compare_as_ids : (x y : Observation) → IsOfOneExposure x y → canonical_cmp x y ≡ id_cmp x y
compare_as_ids x y one = rw (same_epoch x.epoch y.epoch one.0, same_site x.site y.site one.1) refl

tie_as_ids : (x y : Observation) → IsOfOneExposure x y → ties stands_lower x y ≡ ties has_lower_id x y
tie_as_ids x y one = rw (compare_as_ids x y one, compare_as_ids y x (sym one.0, sym one.1)) refl

-- of two exposures
tie_nowhere : (x y : Observation) → (IsOfOneExposure x y → ⊥) → ties stands_lower x y ≡ false
tie_nowhere x y apart = elim (cases_Bool (ties stands_lower x y)) [
  | inl h ↦ absurd (
      let places = both_equal (int_cmp x.epoch y.epoch) (ordering_then (slice_cmp nat_cmp x.site y.site) (id_cmp x y)) (equal_from_tie canonical_cmp canonical_total x y h) in
      let sites = both_equal (slice_cmp nat_cmp x.site y.site) (id_cmp x y) places.1 in
      apart (exact_signed x.epoch y.epoch places.0, exact_bytes x.site y.site sites.0))
  | inr f ↦ f
]

-- ---- tests that agree on the members of a list

same_kept : (p q : Observation → Bool) (ds : Ds) → All (λ d. p d ≡ q d) ds → filter p ds ≡ filter q ds
same_kept p q [] h = refl
same_kept p q (d ∷ ds) h = rw (All-head (λ x. p x ≡ q x) d ds h, same_kept p q ds (All-tail (λ x. p x ≡ q x) d ds h)) refl

none_kept : (p : Observation → Bool) (ds : Ds) → All (λ d. p d ≡ false) ds → filter p ds ≡ []
none_kept p [] h = refl
none_kept p (d ∷ ds) h = rw (All-head (λ x. p x ≡ false) d ds h) (none_kept p ds (All-tail (λ x. p x ≡ false) d ds h))

-- ---- lists of one exposure

module _ (epoch : ℤ) (site : List ℕ) where
  abbrev pub IsOfIt : Observation → Type 0
  IsOfIt d = (d.epoch ≡ epoch) × (d.site ≡ site)

  of_one : (x y : Observation) → IsOfIt x → IsOfIt y → IsOfOneExposure x y
  of_one x y a b = (a.0 ∙ sym b.0, a.1 ∙ sym b.1)

  pub rising_by_ids : (ds : Ds) → All IsOfIt ds → IsSortedBy has_lower_id ds → AllPairs NotAfter ds
  rising_by_ids ds of_it up i j d l h =
      let x = get_or ds i d in
      let y = get_or ds j d in
      let one = of_one x y (of_it i d (omega (arith, l, h))) (of_it j d h) in
      by_ids (int_cmp x.epoch y.epoch) (slice_cmp nat_cmp x.site y.site) (id_cmp x y) (same_at (at x) (at y) one.0 one.1)
      (not_greater (id_cmp x y) (id_cmp y x) (ids_total.antisymm x y) (sorted_far has_lower_id ids_rank ds up i j d (omega (arith, l)) h))

  tied_members : (x : Observation) (ds : Ds) → IsOfIt x → All IsOfIt ds → filter (ties stands_lower x) ds ≡ filter (ties has_lower_id x) ds
  tied_members x ds is of_it = same_kept (ties stands_lower x) (ties has_lower_id x) ds (λ k d l. tie_as_ids x (get_or ds k d) (of_one x (get_or ds k d) is (of_it k d l)))

  no_members : (x : Observation) (ds : Ds) → (IsOfIt x → ⊥) → All IsOfIt ds → filter (ties stands_lower x) ds ≡ []
  no_members x ds other of_it = none_kept (ties stands_lower x) ds (λ k d l.
      tie_nowhere x (get_or ds k d) (λ one. let it = of_it k d l in other (one.0 ∙ it.0, one.1 ∙ it.1)))

  pub stable_by_ids : (list sorted : Ds) → All IsOfIt list → All IsOfIt sorted → IsStableBy has_lower_id list sorted → IsStable canonical_cmp list sorted
  stable_by_ids list sorted of_it still stable x = elim (cases_Bool (is_eq (by_place (at x) (epoch, site)))) [
    | inl y ↦
        let is = same_place (at x) (epoch, site) (is_equal (by_place (at x) (epoch, site)) y) in
        tied_members x sorted is still ∙ (stable x ∙ sym (tied_members x list is of_it))
    | inr n ↦
        let other : IsOfIt x → ⊥ = λ is. let y = ap is_eq (same_at (at x) (epoch, site) is.0 is.1) in cc in
        no_members x sorted other still ∙ sym (no_members x list other of_it)
  ]

-- ---- whether a list is of one exposure

abbrev pub is_of_one : Observation → Observation → Bool
is_of_one x y = int_eq x.epoch y.epoch && pointwise nat_eq x.site y.site

is_of_one_decides : (x y : Observation) → Decides (is_of_one x y) (IsOfOneExposure x y)
is_of_one_decides x y = Decides-and (int_eq x.epoch y.epoch) (pointwise nat_eq x.site y.site) (Decides-int_eq x.epoch y.epoch) (bytes_decides x.site y.site)

with_first : (d : Observation) (ds : Ds) → All (IsOfOneExposure d) ds → AllPairs IsOfOneExposure (d ∷ ds)
with_first d ds h = AllPairs-cons IsOfOneExposure d ds h (λ i j e l m.
    let one = h i e (omega (arith, l, m)) in
    let other = h j e m in
    (sym one.0 ∙ other.0, sym one.1 ∙ other.1))

with_first_each : (d : Observation) (ds : Ds) → AllPairs IsOfOneExposure (d ∷ ds) → All (IsOfOneExposure d) ds
with_first_each d ds h = λ k e l. h 0 (suc k) e (omega arith) (omega arith)

-- all are of the first one's
pub one_exposure_decides : (d : Observation) (ds : Ds) → Decides (list_all (is_of_one d) ds) (AllPairs IsOfOneExposure (d ∷ ds))
one_exposure_decides d ds =
    let each = Decides-by_and (is_of_one d) (IsOfOneExposure d) (list_all (is_of_one d)) (is_of_one_decides d) refl (λ x xs. refl) ds in
    (λ h. with_first d ds (each.0 h), λ h. each.1 (with_first_each d ds h))

-- their epoch and site
pub the_exposure : (ds : Ds) → AllPairs IsOfOneExposure ds → (epoch : ℤ) × (site : List ℕ) × All (IsOfIt epoch site) ds
the_exposure [] h = (pos 0, [], All-nil (IsOfIt (pos 0) []))
the_exposure (d ∷ ds) h =
    (d.epoch, d.site, All-cons (IsOfIt d.epoch d.site) d ds (refl, refl) (λ k e l. let one = with_first_each d ds h k e l in (sym one.0, sym one.1)))
