-- No night has a tracklet twice: its sets of places are in order, each once, and no two of its spots are the same.
use Rattle.std.proofs.Common.{◌≡◌, ℕ, ◌<◌, ℤ, List, [], ◌∷◌, map, length, get_or, refl, sym, ap, subst, ◌∙◌, inl, inr, arith, map-id, pos}
use Rattle.std.specs.BTreeSet.{insert_key}
use Rattle.std.specs.Cmp.Lexicographic.{slice_cmp, nat_list_cmp_total}
use Rattle.std.specs.List.{All, Contains}
use Rattle.std.specs.List.Sorted.{IsStrictlySortedBy}
use Rattle.std.specs.Ordering.{nat_cmp, ordering_reverse}
use Rattle.std.specs.declared.cmp.Ordering.{Ordering}
use Rattle.std.specs.declared.cmp.Ordering.TheVariants.{Less, Equal, Greater}
use Rattle.std.proofs.lemmas.Bool.{cases_lt}
use Rattle.std.proofs.lemmas.List.{get_or-map, length-map}
use Rattle.std.proofs.lemmas.List.Elements.{All-cons, All-head, All-map, All-tail, Contains-get_or}
use Rattle.std.proofs.lemmas.List.Kept.{AllPairs-filter}
use Rattle.std.proofs.lemmas.Map.Keys.{Less-from_sorted}
use Rattle.std.proofs.lemmas.Map.Views.{All-insert_key}
use Rattle.std.proofs.lemmas.Simd.{map-map}
use Rattle.sky_math.specs.Lists.{EachTwo}
use Rattle.sky_units.proofs.SpotsAtPlaces.{spots_are}
use Rattle.sky_units.specs.AtPlaces.{spots_at}
use Rattle.sky_units.specs.SettingsData.{SettingsData}
use Rattle.sky_units.specs.SpotData.{SpotData}
use Rattle.sky_units.specs.TrackletData.{NightTracklets}
use Rattle.miti_text.specs.CanonicalOrder.{canonical_cmp}
use Rattle.miti_text.specs.Observation.{Observation}
use Rattle.exposure_log.specs.Held.{LogData, detections_of, of_night, spot_of, spots_of_night}
use Rattle.exposure_log.specs.Orderly.{IsOrderly}
use Rattle.exposure_log.proofs.Sorting.{canonical_total}
use Rattle.night_tree.specs.Nights.{in_order, sets_of, tracklets_of, tracklets_of_each, with_set}
use Rattle.night_tree.specs.Tracklets.{IsSet}
use Rattle.night_tree.proofs.EachTwoOf.{each_two_cons, each_two_head, each_two_tail}
use Rattle.night_tree.proofs.NightTracklets.{all_in_order, are_sets}
use Rattle.night_tree.proofs.Sets.{inserted}
use Rattle.plain_tracks.proofs.Members.{each_two_map}
use Rattle.kept_nights.specs.LinkerState.{LinkerState}
use Rattle.kept_nights.specs.KeptNights.{held_nights, night_data, nights_of}
use Rattle.kept_nights.proofs.HeldNights.{Entry, each_is, filtered, here, of_night_entry}

-- ---- the sets of places rise
abbrev pub Comes : List ℕ → List ℕ → Type 0
Comes one later = slice_cmp nat_cmp one later ≡ Less

pub never_itself : (set : List ℕ) → Comes set set → ⊥
never_itself set h =
    let clash : Less ≡ Greater = sym h ∙ nat_list_cmp_total.antisymm set set ∙ ap ordering_reverse h in
    cc

as_key : (set : List ℕ) (sets : List (List ℕ)) → insert_key (slice_cmp nat_cmp) sets set ≡ with_set set sets
as_key set sets = sym (map-id (insert_key (slice_cmp nat_cmp) sets set)) ∙ inserted (λ places. places) sets set ∙ ap (with_set set) (map-id sets)

all_with : (P : List ℕ → Type 0) (set : List ℕ) (sets : List (List ℕ)) → P set → All P sets → All P (with_set set sets)
all_with P set sets h all = subst (All P) (as_key set sets) (All-insert_key (slice_cmp nat_cmp) set P sets all h)

rises_with : (set : List ℕ) (sets : List (List ℕ)) → EachTwo Comes sets → EachTwo Comes (with_set set sets)
rises_with set [] h = λ i j d ij jn. absurd (omega arith)
rises_with set (first ∷ rest) h = by (slice_cmp nat_cmp set first) refl (rises_with set rest (each_two_tail Comes first rest h))
  where
    by : (order : Ordering) → slice_cmp nat_cmp set first ≡ order → EachTwo Comes (with_set set rest) → EachTwo Comes (with_set set (first ∷ rest))
    by Less e others =
        let behind = each_two_head Comes first rest h in
        rw e (each_two_cons Comes set (first ∷ rest) (All-cons (Comes set) first rest e (λ k d kn. nat_list_cmp_total.trans set first (get_or rest k d) e (behind k d kn))) h)
    by Equal e others = rw e h
    by Greater e others = rw e (each_two_cons Comes first (with_set set rest) (all_with (Comes first) set rest (nat_list_cmp_total.antisymm first set ∙ ap ordering_reverse e) (each_two_head Comes first rest h)) others)

pub sets_rise : (sets : List (List ℕ)) → EachTwo Comes (in_order sets)
sets_rise [] = λ i j d ij jn. absurd (omega arith)
sets_rise (set ∷ rest) = rises_with set (in_order rest) (sets_rise rest)

-- ---- different places have different spots
abbrev Differ : {X : Type 0} → X → X → Type 0
Differ one other = one ≡ other → ⊥

no_spot : SpotData
no_spot = record { num = 0; epoch = pos 0; ra = pos 0; dec = pos 0 }

same_place : (spots : List SpotData) (p q : ℕ) → EachTwo Differ spots → p < length spots → q < length spots → get_or spots p no_spot ≡ get_or spots q no_spot → p ≡ q
same_place spots p q apart pn qn e = elim (cases_lt p q) [
  | inl less ↦ absurd (apart p q no_spot less qn e)
  | inr more ↦ elim (cases_lt q p) [ inl less ↦ absurd (apart q p no_spot less pn (sym e)) | inr same ↦ omega arith ]
]

same_of_mapped : {X : Type 0} (f : ℕ → X) (n : ℕ) → ((p q : ℕ) → p < n → q < n → f p ≡ f q → p ≡ q) → (ps qs : List ℕ) → All (λ p. p < n) ps → All (λ p. p < n) qs → map f ps ≡ map f qs → ps ≡ qs
same_of_mapped f n one [] [] pn qn e = refl
same_of_mapped f n one [] (q ∷ qs) pn qn e = absurd (cc)
same_of_mapped f n one (p ∷ ps) [] pn qn e = absurd (cc)
same_of_mapped f n one (p ∷ ps) (q ∷ qs) pn qn e =
    let first : f p ≡ f q = cc in
    let others : map f ps ≡ map f qs = cc in
    let a : p ≡ q = one p q (All-head (λ k. k < n) p ps pn) (All-head (λ k. k < n) q qs qn) first in
    let b : ps ≡ qs = same_of_mapped f n one ps qs (All-tail (λ k. k < n) p ps pn) (All-tail (λ k. k < n) q qs qn) others in
    cc

pub same_places : (spots : List SpotData) (ps qs : List ℕ) → EachTwo Differ spots → All (λ p. p < length spots) ps → All (λ p. p < length spots) qs → spots_at spots ps ≡ spots_at spots qs → ps ≡ qs
same_places spots ps qs apart pn qn e =
    same_of_mapped (λ p. get_or spots p no_spot) (length spots) (λ p q. same_place spots p q apart) ps qs pn qn
    (sym (spots_are spots ps no_spot pn) ∙ e ∙ spots_are spots qs no_spot qn)

-- ---- the spots of a night
same_twice : (d : Observation) → canonical_cmp d d ≡ Less → ⊥
same_twice d h =
    let clash : Less ≡ Greater = sym h ∙ canonical_total.antisymm d d ∙ ap ordering_reverse h in
    cc

abbrev HaveOtherSpots : Entry → Entry → Type 0
HaveOtherSpots one other = Differ (spot_of one) (spot_of other)

entries_differ : (ds : List Entry) → IsStrictlySortedBy canonical_cmp (map (λ (x : Entry). x.1) ds) → ((n : ℕ) (d e : Observation) → Contains ds (n, d) → Contains ds (n, e) → d ≡ e) → EachTwo HaveOtherSpots ds
entries_differ ds up apart = λ i j d ij jn e.
    let one : Entry = get_or ds i d in
    let other : Entry = get_or ds j d in
    let less = Less-from_sorted canonical_cmp (map (λ (x : Entry). x.1) ds) i j d.1 up ij (omega (arith, jn, length-map ds (λ (x : Entry). x.1))) in
    let below : canonical_cmp one.1 other.1 ≡ Less = rw (get_or-map (λ (x : Entry). x.1) ds i d d.1 (omega arith), get_or-map (λ (x : Entry). x.1) ds j d d.1 jn) at less in
    let number : one.0 ≡ other.0 = ap (λ (spot : SpotData). spot.num) e in
    let there : Contains ds (one.0, other.1) = subst (λ n. Contains ds (n, other.1)) (sym number) (Contains-get_or ds j d jn) in
    let same : one.1 ≡ other.1 = apart one.0 one.1 other.1 (Contains-get_or ds i d (omega arith)) there in
    same_twice one.1 (subst (λ (x : Observation). canonical_cmp one.1 x ≡ Less) (sym same) below)

spots_differ : (log : LogData) (night : ℤ) → IsOrderly log → EachTwo Differ (spots_of_night log night)
spots_differ log night o =
    each_two_map Differ spot_of (detections_of (of_night log.night_shift night log.exposures))
    (rw (filtered log night log.exposures o.of_one) (AllPairs-filter HaveOtherSpots (of_night_entry log night) (detections_of log.exposures) (entries_differ (detections_of log.exposures) o.in_order o.numbers)))

-- ---- the tracklets of a night
tracklets_differ : (settings : SettingsData) (spots : List SpotData) → EachTwo Differ spots → EachTwo Differ (tracklets_of settings spots)
tracklets_differ settings spots apart =
    let sets : List (List ℕ) = in_order (sets_of settings spots) in
    let each : All (IsSet spots) sets = all_in_order (IsSet spots) (sets_of settings spots) (are_sets settings spots) in
    each_two_map Differ (spots_at spots) sets (λ i j d ij jn e.
    let one : List ℕ = get_or sets i d in
    let same : one ≡ get_or sets j d = same_places spots one (get_or sets j d) apart (each i d (omega arith)).within (each j d jn).within e in
    never_itself one (subst (Comes one) (sym same) (sets_rise (sets_of settings spots) i j d ij jn)))

-- the tracklets of a night with held exposures, each once
pub once_of_night : (s : LinkerState) (night : ℤ) → IsOrderly s.log → EachTwo (λ one other. one ≡ other → ⊥) (night_data s night).tracklets
once_of_night s night o = tracklets_differ s.settings (spots_of_night s.log night) (spots_differ s.log night o)

-- ---- they are told by the labels of their spots
abbrev HaveOtherLabels : SpotData → SpotData → Type 0
HaveOtherLabels one other = one.num ≡ other.num → ⊥

abbrev label : SpotData → ℕ
label spot = spot.num

abbrev label_at : List SpotData → ℕ → ℕ
label_at spots p = label (get_or spots p no_spot)

same_label : (spots : List SpotData) (p q : ℕ) → EachTwo HaveOtherLabels spots → p < length spots → q < length spots → label_at spots p ≡ label_at spots q → p ≡ q
same_label spots p q apart pn qn e = elim (cases_lt p q) [
  | inl less ↦ absurd (apart p q no_spot less qn e)
  | inr more ↦ elim (cases_lt q p) [ inl less ↦ absurd (apart q p no_spot less pn (sym e)) | inr same ↦ omega arith ]
]

labels_at : (spots : List SpotData) (ps : List ℕ) → All (λ p. p < length spots) ps → map label (spots_at spots ps) ≡ map (label_at spots) ps
labels_at spots ps pn = ap (map label) (spots_are spots ps no_spot pn) ∙ map-map label (λ (p : ℕ). get_or spots p no_spot) ps

numbers_differ : (ds : List Entry) → IsStrictlySortedBy canonical_cmp (map (λ (x : Entry). x.1) ds) → ((n : ℕ) (d e : Observation) → Contains ds (n, d) → Contains ds (n, e) → d ≡ e) → EachTwo (λ (one other : Entry). HaveOtherLabels (spot_of one) (spot_of other)) ds
numbers_differ ds up apart = λ i j d ij jn number.
    let one : Entry = get_or ds i d in
    let other : Entry = get_or ds j d in
    let less = Less-from_sorted canonical_cmp (map (λ (x : Entry). x.1) ds) i j d.1 up ij (omega (arith, jn, length-map ds (λ (x : Entry). x.1))) in
    let below : canonical_cmp one.1 other.1 ≡ Less = rw (get_or-map (λ (x : Entry). x.1) ds i d d.1 (omega arith), get_or-map (λ (x : Entry). x.1) ds j d d.1 jn) at less in
    let there : Contains ds (one.0, other.1) = subst (λ n. Contains ds (n, other.1)) (sym number) (Contains-get_or ds j d jn) in
    let same : one.1 ≡ other.1 = apart one.0 one.1 other.1 (Contains-get_or ds i d (omega arith)) there in
    same_twice one.1 (subst (λ (x : Observation). canonical_cmp one.1 x ≡ Less) (sym same) below)

labels_differ : (log : LogData) (night : ℤ) → IsOrderly log → EachTwo HaveOtherLabels (spots_of_night log night)
labels_differ log night o =
    each_two_map HaveOtherLabels spot_of (detections_of (of_night log.night_shift night log.exposures))
    (rw (filtered log night log.exposures o.of_one) (AllPairs-filter (λ (one other : Entry). HaveOtherLabels (spot_of one) (spot_of other)) (of_night_entry log night) (detections_of log.exposures) (numbers_differ (detections_of log.exposures) o.in_order o.numbers)))

-- no two tracklets of a night have spots of the same labels
pub labels_of_night : (s : LinkerState) (night : ℤ) → IsOrderly s.log → EachTwo (λ (one other : List SpotData). map (λ (spot : SpotData). spot.num) one ≡ map (λ (spot : SpotData). spot.num) other → ⊥) (night_data s night).tracklets
labels_of_night s night o =
    let spots : List SpotData = spots_of_night s.log night in
    let sets : List (List ℕ) = in_order (sets_of s.settings spots) in
    let each : All (IsSet spots) sets = all_in_order (IsSet spots) (sets_of s.settings spots) (are_sets s.settings spots) in
    each_two_map (λ (one other : List SpotData). map label one ≡ map label other → ⊥) (spots_at spots) sets (λ i j d ij jn e.
    let one : List ℕ = get_or sets i d in
    let other : List ℕ = get_or sets j d in
    let within_one : All (λ p. p < length spots) one = (each i d (omega arith)).within in
    let within_other : All (λ p. p < length spots) other = (each j d jn).within in
    let same : one ≡ other = same_of_mapped (label_at spots) (length spots) (λ p q. same_label spots p q (labels_differ s.log night o)) one other within_one within_other (sym (labels_at spots one within_one) ∙ (e ∙ labels_at spots other within_other)) in
    never_itself one (subst (Comes one) (sym same) (sets_rise (sets_of s.settings spots) i j d ij jn)))

-- no kept night has a tracklet twice
abbrev pub HaveEachOnce : List NightTracklets → Type 0
HaveEachOnce nights = All (EachTwo (λ one other. one ≡ other → ⊥)) nights

pub each_once : (s : LinkerState) → IsOrderly s.log → HaveEachOnce (tracklets_of_each (nights_of s))
each_once s o =
    let once : (night : ℤ) → EachTwo Differ (here s night) = λ night. tracklets_differ s.settings (spots_of_night s.log night) (spots_differ s.log night o) in
    subst HaveEachOnce (sym (each_is s)) (All-map (EachTwo Differ) (here s) (held_nights s.log) (λ k d kn. once (get_or (held_nights s.log) k d)))
