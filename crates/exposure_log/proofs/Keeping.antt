-- Each log is orderly: with nothing held, and once nights are counted anew, the window is moved, or an exposure is taken in or out.
use Rattle.std.proofs.Common.{◌≡◌, ◌≢◌, ℕ, ◌+◌, ◌<◌, ◌≤◌, ◌==◌, ℤ, pos, ◌-ℤ◌, ◌≤ℤ◌, Bool, true, false, not, ◌||◌, cond, if◌then◌else◌, Option, Some, None, IsSome, IsTrue, List, [], ◌∷◌, ◌++◌, map, length, length-append, get_or, zero, suc, refl, sym, ap, ◌∙◌, subst, inl, inr, ◌⊎◌, arith, eq-eqb}
use Rattle.std.specs.Int.Signed.{lt_z, le_z}
use Rattle.std.specs.List.{All, AllPairs, Contains, filter, flat_map, list_any}
use Rattle.std.specs.List.Sorted.{IsStrictlySortedBy}
use Rattle.std.specs.Map.{lookup}
use Rattle.std.specs.Option.{option_map_or}
use Rattle.std.specs.Ordering.{int_cmp, nat_cmp, ordering_then, ordering_reverse, is_lt, is_eq, is_gt}
use Rattle.std.specs.Cmp.Lexicographic.{slice_cmp}
use Rattle.std.specs.declared.cmp.Ordering.{Ordering}
use Rattle.std.specs.declared.cmp.Ordering.TheVariants.{Less, Equal, Greater}
use Rattle.std.proofs.lemmas.Bool.{cases_Bool, cases_eq, cases_lt, cases_order, false≢true, or_parts}
use Rattle.std.proofs.lemmas.Cmp.{int_cmp_total, nat_list_cmp_total, tied_itself}
use Rattle.std.proofs.lemmas.Grind.{flat_map-append}
use Rattle.std.proofs.lemmas.Int.{ints}
use Rattle.std.proofs.lemmas.List.{length-map, map-append, get_or_default}
use Rattle.std.proofs.lemmas.List.Elements.{All-nil, All-cons, All-head, All-tail, All-append, All-filter, All-map, Contains-append_left, Contains-append_right, Contains-append_cases, filter_passes, filter-append}
use Rattle.std.proofs.lemmas.List.Folds.{list_any_at}
use Rattle.std.proofs.lemmas.List.Kept.{AllPairs-cons, AllPairs-filter}
use Rattle.std.proofs.lemmas.Map.Lookups.{exact_bytes}
use Rattle.std.proofs.Math.ListN.{get_or-map}
use Rattle.sky_math.specs.Night.{night_at}
use Rattle.sky_units.specs.Limits.{most_nights}
use Rattle.miti_text.specs.Observation.{Observation, is_id}
use Rattle.miti_text.specs.CanonicalOrder.{canonical_cmp}
use Rattle.exposure_log.specs.Held.{LogData, HeldExposure, ExposureData, TakesIn, held_at, detections_of, exposure_cmp, stands_before, stands_at, stands_after, with_exposure, without_exposure, held_refusal, refusal, window_refusal, moved}
use Rattle.number_register.specs.Numbering.{TakeLeast, AreDistinct}
use Rattle.number_register.proofs.Takings.{taken_was_free, taken_are_distinct}
use Rattle.exposure_log.specs.Deliveries.{IsOneExposure}
use Rattle.exposure_log.specs.Orderly.{IsInside, LieInWindow, GoesBefore, HasSome, AreOfOneExposure, HasIds, HaveNumbersApart, HaveIdsApart, IsOrderly}
use Rattle.exposure_log.specs.declared.errors.AddError.{AddError}
use Rattle.exposure_log.specs.declared.errors.AddError.TheVariants.{NoWindow, Old, New}
use Rattle.exposure_log.specs.declared.errors.WindowError.{WindowError}
use Rattle.exposure_log.specs.declared.errors.WindowError.TheVariants.{Order, Wide, Back}
use Rattle.exposure_log.proofs.Joined.{AllBelow, pairs_append, sorted_from_pairs, sorted_append, all_joined, sorted_kept}
use Rattle.exposure_log.proofs.Order.{place_total}
use Rattle.exposure_log.proofs.Searching.{filter_all, filter_none}
use Rattle.exposure_log.proofs.Sorting.{canonical_total}
use Rattle.exposure_log.proofs.Unrefused.{unless, outside, fresh_ids, apart_ids, IsUnrefused, unrefused}

abbrev Entry : Type 0
Entry = ℕ × Observation

-- an exposure's detections, without their numbers
abbrev seen : HeldExposure → List Observation
seen x = map (λ d. d.1) x.detections

seen_in_all : (xs : List HeldExposure) → map (λ d. d.1) (detections_of xs) ≡ flat_map seen xs
seen_in_all [] = refl
seen_in_all (x ∷ xs) = map-append (λ (d : Entry). d.1) x.detections (detections_of xs) ∙ ap (λ (ds : List Observation). seen x ++ ds) (seen_in_all xs)

abbrev IsSorted : List Observation → Type 0
IsSorted ds = IsStrictlySortedBy canonical_cmp ds

-- ---- nothing held, and nights counted anew

pub nothing_held : (shift : ℤ) → IsOrderly (record { night_shift = shift; window = None; exposures = [] })
nothing_held shift = record {
  in_order = sorted_from_pairs canonical_cmp [] (λ i j d ij jn. absurd (omega arith));
  one_by_one = λ i j d ij jn. absurd (omega arith);
  some = All-nil HasSome;
  of_one = All-nil AreOfOneExposure;
  numbers = λ n d e h k. absurd (omega (arith, h.1));
  ids_apart = λ m n d e h k. absurd (omega (arith, h.1));
  ids = All-nil HasIds;
  few = omega arith;
  in_window = refl;
}

still_lie : (a b : ℤ) (window : Option (ℤ × ℤ)) (xs : List HeldExposure) → window ≡ None → LieInWindow a window xs → LieInWindow b window xs
still_lie a b None xs e h = h
still_lie a b (Some window) xs e h = absurd (cc)

pub shifting_keeps_order : (log : LogData) (shift : ℤ) → log.window ≡ None → IsOrderly log → IsOrderly (record log { night_shift = shift })
shifting_keeps_order log shift e o = record {
  in_order = o.in_order;
  one_by_one = o.one_by_one;
  some = o.some;
  of_one = o.of_one;
  numbers = o.numbers;
  ids_apart = o.ids_apart;
  ids = o.ids;
  few = o.few;
  in_window = still_lie log.night_shift shift log.window log.exposures e o.in_window;
}

-- ---- some of the exposures stay

kept_among : (b : Bool) (x : HeldExposure) (kept xs : List HeldExposure) (y : Entry) → (Contains (detections_of kept) y → Contains (detections_of xs) y)
    → Contains (detections_of (cond b (x ∷ kept) kept)) y → Contains (detections_of (x ∷ xs)) y
kept_among true x kept xs y rest h = elim (Contains-append_cases x.detections (detections_of kept) y h) [
  | inl a ↦ Contains-append_left x.detections (detections_of xs) y a
  | inr a ↦ Contains-append_right x.detections (detections_of xs) y (rest a)
]
kept_among false x kept xs y rest h = Contains-append_right x.detections (detections_of xs) y (rest h)

among_kept : (p : HeldExposure → Bool) (xs : List HeldExposure) (y : Entry) → Contains (detections_of (filter p xs)) y → Contains (detections_of xs) y
among_kept p [] y h = h
among_kept p (x ∷ xs) y h = kept_among (p x) x (filter p xs) xs y (among_kept p xs y) h

fewer : (b : Bool) (x : HeldExposure) (kept xs : List HeldExposure) → length (detections_of kept) ≤ length (detections_of xs) → length (detections_of (cond b (x ∷ kept) kept)) ≤ length (detections_of (x ∷ xs))
fewer true x kept xs h = omega (arith, length-append x.detections (detections_of kept), length-append x.detections (detections_of xs))
fewer false x kept xs h = omega (arith, length-append x.detections (detections_of xs))

few_kept : (p : HeldExposure → Bool) (xs : List HeldExposure) → length (detections_of (filter p xs)) ≤ length (detections_of xs)
few_kept p [] = omega arith
few_kept p (x ∷ xs) = fewer (p x) x (filter p xs) xs (few_kept p xs)

-- in a window that the exposures that stay lie in
staying : (log : LogData) (window : Option (ℤ × ℤ)) (p : HeldExposure → Bool) → LieInWindow log.night_shift window (filter p log.exposures) → IsOrderly log
    → IsOrderly (record { night_shift = log.night_shift; window = window; exposures = filter p log.exposures })
staying log window p lie o = record {
  in_order = subst IsSorted (sym (seen_in_all (filter p log.exposures))) (sorted_kept seen canonical_cmp p log.exposures (subst IsSorted (seen_in_all log.exposures) o.in_order));
  one_by_one = AllPairs-filter GoesBefore p log.exposures o.one_by_one;
  some = All-filter p HasSome log.exposures o.some;
  of_one = All-filter p AreOfOneExposure log.exposures o.of_one;
  numbers = λ n d e h k. o.numbers n d e (among_kept p log.exposures (n, d) h) (among_kept p log.exposures (n, e) k);
  ids_apart = λ m n d e h k. o.ids_apart m n d e (among_kept p log.exposures (m, d) h) (among_kept p log.exposures (n, e) k);
  ids = All-filter p HasIds log.exposures o.ids;
  few = omega (arith, few_kept p log.exposures, o.few);
  in_window = lie;
}

kept_lie : (shift : ℤ) (window : Option (ℤ × ℤ)) (p : HeldExposure → Bool) (xs : List HeldExposure) → LieInWindow shift window xs → LieInWindow shift window (filter p xs)
kept_lie shift None p xs h = rw h refl
kept_lie shift (Some window) p xs h = (h.0, All-filter p (IsInside shift window) xs h.1)

pub removing_keeps_order : (log : LogData) (epoch : ℤ) (site : List ℕ) → IsOrderly log → IsOrderly (record log { exposures = without_exposure epoch site log.exposures })
removing_keeps_order log epoch site o =
    staying log log.window (λ x. not (stands_at epoch site x)) (kept_lie log.night_shift log.window (λ x. not (stands_at epoch site x)) log.exposures o.in_window) o

-- ---- the window is moved

abbrev back : ℤ → ℤ → ℤ × ℤ → Option WindowError
back lo hi old = if lt_z lo old.0 || lt_z hi old.1 then Some Back else None

abbrev from_lo : ℤ → ℤ → HeldExposure → Bool
from_lo shift lo x = not (lt_z (night_at shift x.epoch) lo)

not_earlier : (a b : ℤ) → not (lt_z a b) ≡ true → b ≤ℤ a
not_earlier a b h = elim (cases_Bool (lt_z a b)) [ inl t ↦ absurd (false≢true (rw t at h)) | inr f ↦ omega (arith, ints, f) ]

inside_moved : (shift : ℤ) (window : Option (ℤ × ℤ)) (lo hi : ℤ) (xs : List HeldExposure) → option_map_or (back lo hi) window None ≡ None → LieInWindow shift window xs
    → All (IsInside shift (lo, hi)) (filter (from_lo shift lo) xs)
inside_moved shift None lo hi xs r h = rw h (All-nil (IsInside shift (lo, hi)))
inside_moved shift (Some old) lo hi xs r h = λ k d kn.
    let both = or_parts (lt_z lo old.0) (lt_z hi old.1) (unless (lt_z lo old.0 || lt_z hi old.1) Back None r).0 in
    let end : lt_z hi old.1 ≡ false = both.1 in
    let from : lo ≤ℤ night_at shift (get_or (filter (from_lo shift lo) xs) k d).epoch = not_earlier (night_at shift (get_or (filter (from_lo shift lo) xs) k d).epoch) lo (filter_passes (from_lo shift lo) xs k d kn) in
    let to : night_at shift (get_or (filter (from_lo shift lo) xs) k d).epoch ≤ℤ old.1 = (All-filter (from_lo shift lo) (IsInside shift old) xs h.1 k d kn).1 in
    (from, omega (arith, ints, to, end))

pub moving_keeps_order : (log : LogData) (lo hi : ℤ) → IsOrderly log → window_refusal log.window lo hi ≡ None → IsOrderly (moved log lo hi)
moving_keeps_order log lo hi o r =
    let rising = unless (lt_z hi lo) Order (if le_z (pos most_nights) (hi -ℤ lo) then Some Wide else option_map_or (back lo hi) log.window None) r in
    let narrow = unless (le_z (pos most_nights) (hi -ℤ lo)) Wide (option_map_or (back lo hi) log.window None) rising.1 in
    let up : lt_z hi lo ≡ false = rising.0 in
    let short : le_z (pos most_nights) (hi -ℤ lo) ≡ false = narrow.0 in
    staying log (Some (lo, hi)) (from_lo log.night_shift lo)
    (record { from = omega (arith, ints, up); short = omega (arith, ints, short) }, inside_moved log.night_shift log.window lo hi log.exposures narrow.1 o.in_window)
    o

-- ---- the order of places

less_from : (r : Ordering) → is_lt r ≡ true → r ≡ Less
less_from Less h = refl
less_from Equal h = cc
less_from Greater h = cc

less_back : (r s : Ordering) → r ≡ ordering_reverse s → is_gt s ≡ true → r ≡ Less
less_back r Less e h = cc
less_back r Equal e h = cc
less_back r Greater e h = e

greater_back : (r s : Ordering) → r ≡ ordering_reverse s → s ≡ Less → r ≡ Greater
greater_back r s e h = rw h at e

less_is_other : (r : Ordering) → is_lt r ≡ true → not (is_eq r) ≡ true
less_is_other r h = ap (λ (o : Ordering). not (is_eq o)) (less_from r h)

greater_is_other : (r : Ordering) → is_gt r ≡ true → not (is_eq r) ≡ true
greater_is_other Less h = cc
greater_is_other Equal h = cc
greater_is_other Greater h = refl

place_first : (a b c : Ordering) → ordering_then a b ≡ Less → ordering_then a (ordering_then b c) ≡ Less
place_first Less b c h = refl
place_first Equal Less c h = refl
place_first Equal Equal c h = cc
place_first Equal Greater c h = cc
place_first Greater b c h = cc

abbrev place : HeldExposure → ℤ × List ℕ
place x = (x.epoch, x.site)

-- an exposure that stands behind another is gone before by it
behind_is : (x y : HeldExposure) → stands_after x.epoch x.site y ≡ true → GoesBefore x y
behind_is x y h = less_back (exposure_cmp y.epoch y.site x) (exposure_cmp x.epoch x.site y) (place_total.antisymm (place x) (place y)) h

-- detections of an exposure and of a later one
below : (x y : HeldExposure) → AreOfOneExposure x → AreOfOneExposure y → GoesBefore x y → AllBelow canonical_cmp (seen x) (seen y)
below x y of_x of_y h =
    All-map (λ (d : Observation). All (λ e. canonical_cmp d e ≡ Less) (seen y)) (λ (d : Entry). d.1) x.detections
    (λ j d jn. All-map (λ (e : Observation). canonical_cmp (get_or x.detections j d).1 e ≡ Less) (λ (e : Entry). e.1) y.detections
    (λ k e kn. let a = of_x j d jn in let b = of_y k e kn in
    rw (a.0, a.1, b.0, b.1) (place_first (int_cmp x.epoch y.epoch) (slice_cmp nat_cmp x.site y.site) (slice_cmp nat_cmp (get_or x.detections j d).1.id (get_or y.detections k e).1.id) h)))

-- what is below each of some is below what these are below
through : (xs ys zs : List Observation) → 0 < length ys → AllBelow canonical_cmp xs ys → AllBelow canonical_cmp ys zs → AllBelow canonical_cmp xs zs
through xs [] zs some a b = absurd (omega arith)
through xs (y ∷ ys) zs some a b = λ i d il j e jl. canonical_total.trans (get_or xs i d) y (get_or zs j e) (a i d il 0 y (omega arith)) (b 0 y (omega arith) j e jl)

-- ---- the order in an exposure

not_gt_nor_eq : (r : Ordering) → is_gt r ≡ false → (r ≡ Equal → ⊥) → r ≡ Less
not_gt_nor_eq Less g e = refl
not_gt_nor_eq Equal g e = absurd (e refl)
not_gt_nor_eq Greater g e = cc

by_id_alone : (d e : Observation) → d.epoch ≡ e.epoch → d.site ≡ e.site → is_gt (slice_cmp nat_cmp d.id e.id) ≡ false → d.id ≢ e.id → canonical_cmp d e ≡ Less
by_id_alone d e epoch site g apart =
    let a : int_cmp d.epoch e.epoch ≡ Equal = ap (λ (t : ℤ). int_cmp t e.epoch) epoch ∙ tied_itself int_cmp_total e.epoch in
    let b : slice_cmp nat_cmp d.site e.site ≡ Equal = ap (λ (s : List ℕ). slice_cmp nat_cmp s e.site) site ∙ tied_itself nat_list_cmp_total e.site in
    let c : slice_cmp nat_cmp d.id e.id ≡ Less = not_gt_nor_eq (slice_cmp nat_cmp d.id e.id) g (λ q. apart (exact_bytes d.id e.id q)) in
    rw (a, b, c) refl

one_sorted : (x : ExposureData) → IsOneExposure x → ((j k : ℕ) (e : Observation) → j < k → k < length x.detections → (get_or x.detections j e).id ≢ (get_or x.detections k e).id) → IsSorted x.detections
one_sorted x one apart = sorted_from_pairs canonical_cmp x.detections (λ j k d lt l.
    let first : j < length x.detections = omega (arith, lt, l) in
    by_id_alone (get_or x.detections j d) (get_or x.detections k d) (one.one_epoch j d first ∙ sym (one.one_epoch k d l)) (one.one_site j d first ∙ sym (one.one_site k d l)) (one.by_id j k d lt l) (apart j k d lt l))

-- ---- an exposure more

abbrev ahead : HeldExposure → List HeldExposure → List HeldExposure
ahead x xs = filter (stands_before x.epoch x.site) xs

abbrev behind : HeldExposure → List HeldExposure → List HeldExposure
behind x xs = filter (stands_after x.epoch x.site) xs

all_with : (P : HeldExposure → Type 0) (x : HeldExposure) (xs : List HeldExposure) → P x → All P xs → All P (with_exposure x xs)
all_with P x xs here h =
    All-append P (ahead x xs) (x ∷ behind x xs) (All-filter (stands_before x.epoch x.site) P xs h) (All-cons P x (behind x xs) here (All-filter (stands_after x.epoch x.site) P xs h))

goes_ahead : (x : HeldExposure) (xs : List HeldExposure) → All (λ y. GoesBefore y x) (ahead x xs)
goes_ahead x xs k d l = less_from (exposure_cmp x.epoch x.site (get_or (ahead x xs) k d)) (filter_passes (stands_before x.epoch x.site) xs k d l)

goes_behind : (x : HeldExposure) (xs : List HeldExposure) → All (GoesBefore x) (behind x xs)
goes_behind x xs k d l = behind_is x (get_or (behind x xs) k d) (filter_passes (stands_after x.epoch x.site) xs k d l)

one_by_one_with : (x : HeldExposure) (xs : List HeldExposure) → AllPairs GoesBefore xs → AllPairs GoesBefore (with_exposure x xs)
one_by_one_with x xs h =
    pairs_append GoesBefore (ahead x xs) (x ∷ behind x xs) (AllPairs-filter GoesBefore (stands_before x.epoch x.site) xs h)
    (AllPairs-cons GoesBefore x (behind x xs) (goes_behind x xs) (AllPairs-filter GoesBefore (stands_after x.epoch x.site) xs h))
    (λ k d l. All-cons (GoesBefore (get_or (ahead x xs) k d)) x (behind x xs) (goes_ahead x xs k d l)
    (λ j e m. place_total.trans (place (get_or (ahead x xs) k d)) (place x) (place (get_or (behind x xs) j e)) (goes_ahead x xs k d l) (goes_behind x xs j e m)))

sorted_with : (x : HeldExposure) (xs : List HeldExposure) → 0 < length (seen x) → AreOfOneExposure x → All AreOfOneExposure xs → IsSorted (seen x) → IsSorted (flat_map seen xs) → IsSorted (flat_map seen (with_exposure x xs))
sorted_with x xs some of_x of_xs here h =
    let sooner : AllBelow canonical_cmp (flat_map seen (ahead x xs)) (seen x) =
    all_joined seen (λ (d : Observation). All (λ e. canonical_cmp d e ≡ Less) (seen x)) (λ y. AreOfOneExposure y × GoesBefore y x) (λ y q. below y x q.0 of_x q.1)
    (ahead x xs) (λ k d l. (All-filter (stands_before x.epoch x.site) AreOfOneExposure xs of_xs k d l, goes_ahead x xs k d l)) in
    let later : AllBelow canonical_cmp (seen x) (flat_map seen (behind x xs)) =
    λ k d l. all_joined seen (λ (e : Observation). canonical_cmp (get_or (seen x) k d) e ≡ Less) (λ y. AreOfOneExposure y × GoesBefore x y) (λ y q. below x y of_x q.0 q.1 k d l)
    (behind x xs) (λ j e m. (All-filter (stands_after x.epoch x.site) AreOfOneExposure xs of_xs j e m, goes_behind x xs j e m)) in
    let apart = through (flat_map seen (ahead x xs)) (seen x) (flat_map seen (behind x xs)) some sooner later in
    subst IsSorted (sym (flat_map-append seen (ahead x xs) (x ∷ behind x xs)))
    (sorted_append canonical_cmp (flat_map seen (ahead x xs)) (seen x ++ flat_map seen (behind x xs)) (sorted_kept seen canonical_cmp (stands_before x.epoch x.site) xs h)
    (sorted_append canonical_cmp (seen x) (flat_map seen (behind x xs)) here (sorted_kept seen canonical_cmp (stands_after x.epoch x.site) xs h) later)
    (λ k d l. All-append (λ (e : Observation). canonical_cmp (get_or (flat_map seen (ahead x xs)) k d) e ≡ Less) (seen x) (flat_map seen (behind x xs)) (sooner k d l) (apart k d l)))

of_seen : (P : Observation → Type 0) (ys : List Entry) → All P (map (λ y. y.1) ys) → All (λ (y : Entry). P y.1) ys
of_seen P [] h = All-nil (λ (y : Entry). P y.1)
of_seen P (y ∷ ys) h = All-cons (λ (y : Entry). P y.1) y ys (All-head P y.1 (map (λ y. y.1) ys) h) (of_seen P ys (All-tail P y.1 (map (λ y. y.1) ys) h))

-- ---- numbers

number_among : (ys : List Entry) (y : Entry) → Contains ys y → Contains (map (λ d. d.0) ys) y.0
number_among ys y h =
    let lt : h.0 < length (map (λ (d : Entry). d.0) ys) = omega (arith, h.1, length-map ys (λ (d : Entry). d.0)) in
    (h.0, lt, get_or-map (λ (d : Entry). d.0) ys h.0 y ∙ ap (λ (d : Entry). d.0) h.2)

among : (n : ℕ) (ks : List ℕ) → Contains ks n → list_any (λ k. k == n) ks ≡ true
among n ks h = list_any_at (λ k. k == n) ks h.0 n h.1 (eq-eqb (get_or ks h.0 n) n h.2)

-- a number of a list of entries has some detection there
has_some : (n : ℕ) (d : Observation) (es : List Entry) (k : ℕ) → k < length es → get_or es k (n, d) ≡ (n, d) → IsSome (lookup (λ m. m == n) es)
has_some n d [] k lt e = absurd (omega arith)
has_some n d (x ∷ es) zero lt e = rw (eq-eqb x.0 n (ap (λ (z : Entry). z.0) e)) refl
has_some n d (x ∷ es) (suc k) lt e = elim (cases_Bool (x.0 == n)) [ inl t ↦ rw t refl | inr f ↦ rw f (has_some n d es k (omega arith) e) ]

clash : (held : Option Observation) → held ≡ None → IsSome held → ⊥
clash None e h = cc
clash (Some d) e h = cc

-- a number that is taken is none of those that have detections
unlike : (es : List Entry) (ns : List ℕ) (ds : List Observation) → TakeLeast (λ n. lookup (λ m. m == n) es) ns ds → (n : ℕ) (d : Observation) → Contains ns n → Contains es (n, d) → ⊥
unlike es ns ds t n d h k = clash (lookup (λ m. m == n) es) (taken_was_free (λ m. lookup (λ k. k == m) es) ns ds t n (among n ns h)) (has_some n d es k.0 k.1 k.2)

number_at : (ys : List Entry) (n : ℕ) (d : Observation) (h : Contains ys (n, d)) → (h.0 < length (map (λ y. y.0) ys)) × (get_or (map (λ y. y.0) ys) h.0 0 ≡ n)
number_at ys n d h =
    let lt : h.0 < length (map (λ (y : Entry). y.0) ys) = omega (arith, h.1, length-map ys (λ (y : Entry). y.0)) in
    (lt, get_or_default (map (λ (y : Entry). y.0) ys) h.0 0 n lt ∙ (get_or-map (λ (y : Entry). y.0) ys h.0 (n, d) ∙ ap (λ (y : Entry). y.0) h.2))

one_number : (ys : List Entry) → AreDistinct (map (λ d. d.0) ys) → (n : ℕ) (d e : Observation) → Contains ys (n, d) → Contains ys (n, e) → d ≡ e
one_number ys apart n d e h k = elim (cases_eq h.0 k.0) [
  | inl eq ↦ ap (λ (z : Entry). z.1) (sym h.2 ∙ (get_or_default ys h.0 (n, d) (n, e) h.1 ∙ (ap (λ (i : ℕ). get_or ys i (n, e)) eq ∙ k.2)))
  | inr ne ↦
      let one = number_at ys n d h in
      let other = number_at ys n e k in
      elim (cases_lt h.0 k.0) [
        | inl lt ↦ absurd (apart h.0 k.0 lt other.0 (one.1 ∙ sym other.1))
        | inr ge ↦ absurd (apart k.0 h.0 (omega (arith, ne, ge)) one.0 (other.1 ∙ sym one.1))
      ]
]

among_with : (x : HeldExposure) (xs : List HeldExposure) (y : Entry) → Contains (detections_of (with_exposure x xs)) y → Contains (detections_of xs) y ⊎ Contains x.detections y
among_with x xs y h =
    let parts : detections_of (with_exposure x xs) ≡ detections_of (ahead x xs) ++ (x.detections ++ detections_of (behind x xs)) = flat_map-append (λ (z : HeldExposure). z.detections) (ahead x xs) (x ∷ behind x xs) in
    let there : Contains (detections_of (ahead x xs) ++ (x.detections ++ detections_of (behind x xs))) y = rw parts at h in
    elim (Contains-append_cases (detections_of (ahead x xs)) (x.detections ++ detections_of (behind x xs)) y there) [
      | inl a ↦ inl (among_kept (stands_before x.epoch x.site) xs y a)
      | inr a ↦ elim (Contains-append_cases x.detections (detections_of (behind x xs)) y a) [
        | inl b ↦ inr b
        | inr b ↦ inl (among_kept (stands_after x.epoch x.site) xs y b)
      ]
    ]

numbers_with : (x : HeldExposure) (xs : List HeldExposure) (ds : List Observation) → TakeLeast (held_at xs) (map (λ d. d.0) x.detections) ds → HaveNumbersApart xs → HaveNumbersApart (with_exposure x xs)
numbers_with x xs ds t h n d e p q = elim (among_with x xs (n, d) p) [
  | inl b ↦ elim (among_with x xs (n, e) q) [
    | inl c ↦ h n d e b c
    | inr c ↦ absurd (unlike (detections_of xs) (map (λ d. d.0) x.detections) ds t n d (number_among x.detections (n, e) c) b)
  ]
  | inr b ↦ elim (among_with x xs (n, e) q) [
    | inl c ↦ absurd (unlike (detections_of xs) (map (λ d. d.0) x.detections) ds t n e (number_among x.detections (n, d) b) c)
    | inr c ↦ one_number x.detections (taken_are_distinct (held_at xs) (map (λ d. d.0) x.detections) ds t) n d e b c
  ]
]

-- ---- ids

-- where a detection of an exposure stands
seen_at : (ys : List Entry) (n : ℕ) (d e : Observation) (h : Contains ys (n, d)) → get_or (map (λ y. y.1) ys) h.0 e ≡ d
seen_at ys n d e h =
    let lt : h.0 < length (map (λ (y : Entry). y.1) ys) = omega (arith, h.1, length-map ys (λ (y : Entry). y.1)) in
    get_or_default (map (λ (y : Entry). y.1) ys) h.0 e d lt ∙ (get_or-map (λ (y : Entry). y.1) ys h.0 (n, d) ∙ ap (λ (y : Entry). y.1) h.2)

module _ (x : HeldExposure) (xs : List HeldExposure) (ds : List Observation) (is : seen x ≡ ds)
    (new : (k : ℕ) (e : Observation) → k < length ds → (n : ℕ) (d : Observation) → Contains (detections_of xs) (n, d) → d.id ≢ (get_or ds k e).id)
    (apart : (j k : ℕ) (e : Observation) → j < k → k < length ds → (get_or ds j e).id ≢ (get_or ds k e).id) where
  many : length x.detections ≡ length ds
  many = sym (length-map x.detections (λ (y : Entry). y.1)) ∙ ap length is

  id_at : (n : ℕ) (d e : Observation) (h : Contains x.detections (n, d)) → (get_or ds h.0 e).id ≡ d.id
  id_at n d e h = ap (λ (o : Observation). o.id) (ap (λ (os : List Observation). get_or os h.0 e) (sym is) ∙ seen_at x.detections n d e h)

  one_id : (m n : ℕ) (d e : Observation) (h : Contains x.detections (m, d)) (k : Contains x.detections (n, e)) → d.id ≡ e.id → m ≡ n
  one_id m n d e h k same = elim (cases_order h.0 k.0) [
    | inl eq ↦
        let first : get_or x.detections k.0 (n, e) ≡ (m, d) = ap (λ (i : ℕ). get_or x.detections i (n, e)) (sym eq) ∙ (get_or_default x.detections h.0 (n, e) (m, d) h.1 ∙ h.2) in
        ap (λ (y : Entry). y.0) (sym first ∙ k.2)
    | inr (inl lt) ↦ absurd (apart h.0 k.0 d lt (omega (arith, k.1, many)) (id_at m d d h ∙ (same ∙ sym (id_at n e d k))))
    | inr (inr gt) ↦ absurd (apart k.0 h.0 d gt (omega (arith, h.1, many)) (id_at n e d k ∙ (sym same ∙ sym (id_at m d d h))))
  ]

  is_new : (m n : ℕ) (d e : Observation) → Contains (detections_of xs) (m, d) → (k : Contains x.detections (n, e)) → d.id ≡ e.id → ⊥
  is_new m n d e h k same = new k.0 d (omega (arith, k.1, many)) m d h (same ∙ sym (id_at n e d k))

  ids_with : HaveIdsApart xs → HaveIdsApart (with_exposure x xs)
  ids_with h m n d e p q same = elim (among_with x xs (m, d) p) [
    | inl b ↦ elim (among_with x xs (n, e) q) [
      | inl c ↦ h m n d e b c same
      | inr c ↦ absurd (is_new m n d e b c same)
    ]
    | inr b ↦ elim (among_with x xs (n, e) q) [
      | inl c ↦ absurd (is_new n m e d c b (sym same))
      | inr c ↦ one_id m n d e b c same
    ]
  ]

-- ---- how many, and where

two_kept : (o : Ordering) (x : HeldExposure) (before after xs : List HeldExposure) → length (detections_of before) + length (detections_of after) ≤ length (detections_of xs)
    → length (detections_of (cond (is_lt o) (x ∷ before) before)) + length (detections_of (cond (is_gt o) (x ∷ after) after)) ≤ length (detections_of (x ∷ xs))
two_kept Less x before after xs h = omega (arith, h, length-append x.detections (detections_of before), length-append x.detections (detections_of xs))
two_kept Equal x before after xs h = omega (arith, h, length-append x.detections (detections_of xs))
two_kept Greater x before after xs h = omega (arith, h, length-append x.detections (detections_of after), length-append x.detections (detections_of xs))

parted : (epoch : ℤ) (site : List ℕ) (xs : List HeldExposure) → length (detections_of (filter (stands_before epoch site) xs)) + length (detections_of (filter (stands_after epoch site) xs)) ≤ length (detections_of xs)
parted epoch site [] = omega arith
parted epoch site (x ∷ xs) = two_kept (exposure_cmp epoch site x) x (filter (stands_before epoch site) xs) (filter (stands_after epoch site) xs) xs (parted epoch site xs)

few_with : (x : HeldExposure) (xs : List HeldExposure) → length (detections_of (with_exposure x xs)) ≤ length (detections_of xs) + length x.detections
few_with x xs =
    let all = ap length (flat_map-append (λ (z : HeldExposure). z.detections) (ahead x xs) (x ∷ behind x xs)) in
    omega (arith, all, length-append (detections_of (ahead x xs)) (x.detections ++ detections_of (behind x xs)), length-append x.detections (detections_of (behind x xs)), parted x.epoch x.site xs)

lie_with : (shift : ℤ) (window : Option (ℤ × ℤ)) (e : ℤ) (rest : Option AddError) (x : HeldExposure) (xs : List HeldExposure) → x.epoch ≡ e → option_map_or (outside (night_at shift e) rest) window (Some NoWindow) ≡ None
    → LieInWindow shift window xs → LieInWindow shift window (with_exposure x xs)
lie_with shift None e rest x xs same r h = absurd (cc)
lie_with shift (Some window) e rest x xs same r h =
    let first = unless (lt_z (night_at shift e) window.0) Old (if lt_z window.1 (night_at shift e) then Some New else rest) r in
    let last = unless (lt_z window.1 (night_at shift e)) New rest first.1 in
    let from : lt_z (night_at shift e) window.0 ≡ false = first.0 in
    let to : lt_z window.1 (night_at shift e) ≡ false = last.0 in
    (h.0, all_with (IsInside shift window) x xs (rw same (omega (arith, ints, from), omega (arith, ints, to))) h.1)

-- ---- an exposure is taken in

module _ (old new : LogData) (x : ExposureData) (one : IsOneExposure x) (ids : All (λ d. IsTrue (is_id d.id)) x.detections) (o : IsOrderly old) (none : refusal old x ≡ None) (a : TakesIn old new x) where
  free : IsUnrefused old x
  free = unrefused old x none

  is_one : AreOfOneExposure a.held
  is_one =
      let epochs : All (λ (y : Entry). y.1.epoch ≡ x.epoch) a.held.detections = of_seen (λ (d : Observation). d.epoch ≡ x.epoch) a.held.detections (rw a.detections one.one_epoch) in
      let sites : All (λ (y : Entry). y.1.site ≡ x.site) a.held.detections = of_seen (λ (d : Observation). d.site ≡ x.site) a.held.detections (rw a.detections one.one_site) in
      λ k d l. (epochs k d l ∙ sym a.epoch, sites k d l ∙ sym a.site)

  as_many : length a.held.detections ≡ length x.detections
  as_many = sym (length-map a.held.detections (λ (y : Entry). y.1)) ∙ ap length a.detections

  pub taking_keeps_order : IsOrderly new
  taking_keeps_order =
      let apart = apart_ids old.exposures x.detections free.untaken in
      let some : 0 < length a.held.detections = omega (arith, as_many, one.some) in
      let some_seen : 0 < length (seen a.held) = omega (arith, ap length a.detections, one.some) in
      let here : IsSorted (seen a.held) = rw a.detections (one_sorted x one apart) in
      let order = sorted_with a.held old.exposures some_seen is_one o.of_one here (subst IsSorted (seen_in_all old.exposures) o.in_order) in
      rw a.is record {
        in_order = subst IsSorted (sym (seen_in_all (with_exposure a.held old.exposures))) order;
        one_by_one = one_by_one_with a.held old.exposures o.one_by_one;
        some = all_with HasSome a.held old.exposures some o.some;
        of_one = all_with AreOfOneExposure a.held old.exposures is_one o.of_one;
        numbers = numbers_with a.held old.exposures x.detections a.numbers o.numbers;
        ids_apart = ids_with a.held old.exposures x.detections a.detections (fresh_ids old.exposures x.detections free.untaken) apart o.ids_apart;
        ids = all_with HasIds a.held old.exposures (of_seen (λ (d : Observation). IsTrue (is_id d.id)) a.held.detections (rw a.detections ids)) o.ids;
        few = omega (arith, few_with a.held old.exposures, as_many, free.room);
        in_window = lie_with old.night_shift old.window x.epoch (held_refusal old x) a.held old.exposures a.epoch none o.in_window;
      }

-- ---- and taken out again

abbrev but_at : ℤ → List ℕ → HeldExposure → Bool
but_at epoch site x = not (stands_at epoch site x)

rejoined_by : (epoch : ℤ) (site : List ℕ) (x : HeldExposure) (xs : List HeldExposure) (r : Ordering) → exposure_cmp epoch site x ≡ r → All (GoesBefore x) xs → list_any (stands_at epoch site) (x ∷ xs) ≡ false
    → filter (stands_before epoch site) xs ++ filter (stands_after epoch site) xs ≡ xs → filter (stands_before epoch site) (x ∷ xs) ++ filter (stands_after epoch site) (x ∷ xs) ≡ x ∷ xs
rejoined_by epoch site x xs Less e up none rest = rw e (ap (λ (ys : List HeldExposure). x ∷ ys) rest)
rejoined_by epoch site x xs Equal e up none rest = let no = rw e at none in cc
rejoined_by epoch site x xs Greater e up none rest =
    let first = place_total.antisymm (epoch, site) (place x) in
    let lower = less_back (ordering_then (int_cmp epoch x.epoch) (slice_cmp nat_cmp site x.site)) (exposure_cmp epoch site x) first (ap is_gt e) in
    let nothing : filter (stands_before epoch site) xs ≡ [] =
    filter_none (stands_before epoch site) xs (λ k d l. ap is_lt (greater_back (exposure_cmp epoch site (get_or xs k d)) (ordering_then (int_cmp epoch (get_or xs k d).epoch) (slice_cmp nat_cmp site (get_or xs k d).site))
    (place_total.antisymm (place (get_or xs k d)) (epoch, site)) (place_total.trans (epoch, site) (place x) (place (get_or xs k d)) lower (up k d l)))) in
    let rest' : filter (stands_after epoch site) xs ≡ xs = rw nothing at rest in
    rw (e, nothing) (ap (λ (ys : List HeldExposure). x ∷ ys) rest')

rejoined : (epoch : ℤ) (site : List ℕ) (xs : List HeldExposure) → AllPairs GoesBefore xs → list_any (stands_at epoch site) xs ≡ false → filter (stands_before epoch site) xs ++ filter (stands_after epoch site) xs ≡ xs
rejoined epoch site [] h none = refl
rejoined epoch site (x ∷ xs) h none =
    rejoined_by epoch site x xs (exposure_cmp epoch site x) refl (λ k d l. h 0 (suc k) d (omega arith) (omega arith)) none
    (rejoined epoch site xs (λ i j d l m. h (suc i) (suc j) d (omega arith) (omega arith)) (or_parts (stands_at epoch site x) (list_any (stands_at epoch site) xs) none).1)

out_again : (x : HeldExposure) (xs : List HeldExposure) → AllPairs GoesBefore xs → list_any (stands_at x.epoch x.site) xs ≡ false → without_exposure x.epoch x.site (with_exposure x xs) ≡ xs
out_again x xs h none =
    let before : filter (but_at x.epoch x.site) (ahead x xs) ≡ ahead x xs =
    filter_all (but_at x.epoch x.site) (ahead x xs) (λ k d l. less_is_other (exposure_cmp x.epoch x.site (get_or (ahead x xs) k d)) (filter_passes (stands_before x.epoch x.site) xs k d l)) in
    let after : filter (but_at x.epoch x.site) (behind x xs) ≡ behind x xs =
    filter_all (but_at x.epoch x.site) (behind x xs) (λ k d l. greater_is_other (exposure_cmp x.epoch x.site (get_or (behind x xs) k d)) (filter_passes (stands_after x.epoch x.site) xs k d l)) in
    let itself : exposure_cmp x.epoch x.site x ≡ Equal = tied_itself place_total (place x) in
    filter-append (but_at x.epoch x.site) (ahead x xs) (x ∷ behind x xs) ∙ (rw (itself, before, after) (rejoined x.epoch x.site xs h none))

pub removing_undoes : (old new : LogData) (x : ExposureData) → IsOrderly old → refusal old x ≡ None → TakesIn old new x → without_exposure x.epoch x.site new.exposures ≡ old.exposures
removing_undoes old new x o none a =
    let unheld : list_any (stands_at a.held.epoch a.held.site) old.exposures ≡ false = rw (a.epoch, a.site) (unrefused old x none).unheld in
    rw (a.is, ← a.epoch, ← a.site) (out_again a.held old.exposures o.one_by_one unheld)
