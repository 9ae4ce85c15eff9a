-- A rising list of detections is cut into exposures, and in one way.
use Rattle.std.proofs.Common.{◌≡◌, ℕ, ◌+◌, ◌-◌, ◌^◌, ◌<◌, ◌≤◌, ℤ, true, false, cond, List, [], ◌∷◌, ◌++◌, length, get_or, take, drop, reverse, refl, sym, ap, ◌∙◌, subst, arith, zero, suc, inl, inr, length-take, append_assoc}
use Rattle.std.specs.List.{All, AllPairs, flat_map}
use Rattle.std.specs.declared.cmp.Ordering.{Ordering}
use Rattle.std.specs.declared.cmp.Ordering.TheVariants.{Less, Equal, Greater}
use Rattle.std.specs.Ordering.{int_cmp, nat_cmp, ordering_then, is_eq, is_gt}
use Rattle.std.specs.Cmp.Lexicographic.{slice_cmp}
use Rattle.std.proofs.lemmas.Bool.{cases_Bool, cases_eq}
use Rattle.std.proofs.lemmas.Cmp.{tied_itself, int_cmp_total, nat_list_cmp_total}
use Rattle.std.proofs.lemmas.List.{get_or_default, get_or-take, get_or-drop, length-drop, append-nil, reverse-append, take-append-drop}
use Rattle.std.proofs.lemmas.List.Elements.{All-nil, All-cons, All-head, All-tail, All-append, All-weaker}
use Rattle.std.proofs.lemmas.List.Kept.{AllPairs-cons}
use Rattle.std.proofs.lemmas.Map.Lookups.{exact_bytes, exact_signed}
use Rattle.miti_text.specs.Observation.{Observation}
use Rattle.exposure_log.specs.Held.{ExposureData}
use Rattle.exposure_log.specs.Exposures.{IsExposure, IdsDontFall}
use Rattle.exposure_log.specs.Gathered.{Precedes, NotAfter, IsOfOneExposure}
use Rattle.exposure_log.specs.Deliveries.{IsOneExposure}
use Rattle.exposure_log.proofs.Order.{Place, by_place, place_total}
use Rattle.exposure_log.proofs.StableSort.{equal_from_no_greater}

abbrev pub Ds : Type 0
Ds = List Observation

abbrev pub at : Observation → Place
at d = (d.epoch, d.site)

abbrev place : ExposureData → Place
place x = (x.epoch, x.site)

abbrev pub joined : List ExposureData → Ds
joined xs = flat_map (λ x. x.detections) xs

-- the detection alone, and in front of others
abbrev in_front : Observation → Ds → ExposureData
in_front d ds = record { epoch = d.epoch; site = d.site; detections = d ∷ ds }

-- the exposures with one detection more in front: in the first, where it is of the same place
abbrev with_first : Observation → List ExposureData → List ExposureData
with_first d [] = in_front d [] ∷ []
with_first d (x ∷ xs) = cond (is_eq (by_place (at d) (place x))) (in_front d x.detections ∷ xs) (in_front d [] ∷ x ∷ xs)

abbrev pub cut : Ds → List ExposureData
cut [] = []
cut (d ∷ ds) = with_first d (cut ds)

-- ---- nothing is lost

with_first_joined : (d : Observation) (xs : List ExposureData) → joined (with_first d xs) ≡ d ∷ joined xs
with_first_joined d [] = refl
with_first_joined d (x ∷ xs) = elim (cases_Bool (is_eq (by_place (at d) (place x)))) [
  | inl y ↦ rw y refl
  | inr f ↦ rw f refl
]

pub cut_joined : (ds : Ds) → joined (cut ds) ≡ ds
cut_joined [] = refl
cut_joined (d ∷ ds) = with_first_joined d (cut ds) ∙ ap (λ (zs : Ds). d ∷ zs) (cut_joined ds)

-- ---- how two detections compare

not_after : (a b c : Ordering) → is_gt (ordering_then a (ordering_then b c)) ≡ false → is_gt (ordering_then a b) ≡ false
not_after Less b c h = refl
not_after Equal Less c h = refl
not_after Equal Equal c h = refl
not_after Equal Greater c h = h
not_after Greater b c h = h

before : (a b c : Ordering) → ordering_then a b ≡ Less → is_gt (ordering_then a (ordering_then b c)) ≡ false
before Less b c h = refl
before Equal Less c h = refl
before Equal Equal c h = cc
before Equal Greater c h = cc
before Greater b c h = cc

pub both_equal : (a b : Ordering) → ordering_then a b ≡ Equal → (a ≡ Equal) × (b ≡ Equal)
both_equal Less b h = cc
both_equal Equal b h = (refl, h)
both_equal Greater b h = cc

pub is_equal : (r : Ordering) → is_eq r ≡ true → r ≡ Equal
is_equal Less h = cc
is_equal Equal h = refl
is_equal Greater h = cc

is_less : (r : Ordering) → is_eq r ≡ false → is_gt r ≡ false → r ≡ Less
is_less Less e g = refl
is_less Equal e g = cc
is_less Greater e g = cc

not_equal : (r : Ordering) → r ≡ Less → is_eq r ≡ false
not_equal r h = rw h refl

no_later_place : (d e : Observation) → NotAfter d e → is_gt (by_place (at d) (at e)) ≡ false
no_later_place d e h = not_after (int_cmp d.epoch e.epoch) (slice_cmp nat_cmp d.site e.site) (slice_cmp nat_cmp d.id e.id) h

earlier_place : (d e : Observation) → by_place (at d) (at e) ≡ Less → NotAfter d e
earlier_place d e h = before (int_cmp d.epoch e.epoch) (slice_cmp nat_cmp d.site e.site) (slice_cmp nat_cmp d.id e.id) h

-- places that are tied are the same
pub same_place : (p q : Place) → by_place p q ≡ Equal → (p.0 ≡ q.0) × (p.1 ≡ q.1)
same_place p q h =
    let both = both_equal (int_cmp p.0 q.0) (slice_cmp nat_cmp p.1 q.1) h in
    (exact_signed p.0 q.0 both.0, exact_bytes p.1 q.1 both.1)

abbrev pair : ℤ → List ℕ → Place
pair e s = (e, s)

place_is : (p q : Place) → p.0 ≡ q.0 → p.1 ≡ q.1 → p ≡ q
place_is p q e s = ap (λ (z : ℤ). pair z p.1) e ∙ ap (pair q.0) s

pub same_at : (p q : Place) → p.0 ≡ q.0 → p.1 ≡ q.1 → by_place p q ≡ Equal
same_at p q e s = ap (λ (z : Place). by_place z q) (place_is p q e s) ∙ tied_itself place_total q

pub same_epoch : (x y : ℤ) → x ≡ y → int_cmp x y ≡ Equal
same_epoch x y e = ap (λ (z : ℤ). int_cmp z y) e ∙ tied_itself int_cmp_total y

pub same_site : (x y : List ℕ) → x ≡ y → slice_cmp nat_cmp x y ≡ Equal
same_site x y e = ap (λ (z : List ℕ). slice_cmp nat_cmp z y) e ∙ tied_itself nat_list_cmp_total y

by_id : (x y : Observation) → NotAfter x y → IsOfOneExposure x y → is_gt (slice_cmp nat_cmp x.id y.id) ≡ false
by_id x y h one = rw (same_epoch x.epoch y.epoch one.0, same_site x.site y.site one.1) at h

pub by_ids : (a b c : Ordering) → ordering_then a b ≡ Equal → is_gt c ≡ false → is_gt (ordering_then a (ordering_then b c)) ≡ false
by_ids a b c e h = let both = both_equal a b e in rw (both.0, both.1) h

-- ---- what holds of each detection of joined exposures

all_right : {X : Type 0} (P : X → Type 0) (xs ys : List X) → All P (xs ++ ys) → All P ys
all_right P [] ys h = h
all_right P (x ∷ xs) ys h = all_right P xs ys (All-tail P x (xs ++ ys) h)

all_left : {X : Type 0} (P : X → Type 0) (xs ys : List X) → All P (xs ++ ys) → All P xs
all_left P [] ys h = All-nil P
all_left P (x ∷ xs) ys h = All-cons P x xs (All-head P x (xs ++ ys) h) (all_left P xs ys (All-tail P x (xs ++ ys) h))

joined_all : (P : Observation → Type 0) (xs : List ExposureData) → All (λ x. All P x.detections) xs → All P (joined xs)
joined_all P [] h = All-nil P
joined_all P (x ∷ xs) h = All-append P x.detections (joined xs) (All-head (λ y. All P y.detections) x xs h) (joined_all P xs (All-tail (λ y. All P y.detections) x xs h))

place_holds : (P : Place → Type 0) (p : Place) (ds : Ds) → 0 < length ds → All (λ d. d.epoch ≡ p.0) ds → All (λ d. d.site ≡ p.1) ds → All (λ d. P (at d)) ds → P p
place_holds P p [] some e s h = absurd (omega arith)
place_holds P p (d ∷ ds) some e s h =
    subst P (place_is (at d) p (All-head (λ o. o.epoch ≡ p.0) d ds e) (All-head (λ o. o.site ≡ p.1) d ds s)) (All-head (λ o. P (at o)) d ds h)

-- what holds of the place of each detection holds of the place of each exposure
places_hold : (P : Place → Type 0) (xs : List ExposureData) → All IsOneExposure xs → All (λ d. P (at d)) (joined xs) → All (λ x. P (place x)) xs
places_hold P [] each h = All-nil (λ x. P (place x))
places_hold P (x ∷ xs) each h =
    let one = All-head IsOneExposure x xs each in
    All-cons (λ y. P (place y)) x xs
    (place_holds P (place x) x.detections one.some one.one_epoch one.one_site (all_left (λ d. P (at d)) x.detections (joined xs) h))
    (places_hold P xs (All-tail IsOneExposure x xs each) (all_right (λ d. P (at d)) x.detections (joined xs) h))

first_precedes : (x : ExposureData) (xs : List ExposureData) → AllPairs Precedes (x ∷ xs) → All (Precedes x) xs
first_precedes x xs h k d l = h 0 (suc k) d (omega arith) (omega arith)

rest_in_order : {X : Type 0} (R : X → X → Type 0) (x : X) (xs : List X) → AllPairs R (x ∷ xs) → AllPairs R xs
rest_in_order R x xs h i j d l m = h (suc i) (suc j) d (omega arith) (omega arith)

-- ---- one detection more in front

with_first_in_order : (d : Observation) (xs : List ExposureData) → AllPairs Precedes xs → All (λ x. is_gt (by_place (at d) (place x)) ≡ false) xs → AllPairs Precedes (with_first d xs)
with_first_in_order d [] p h = AllPairs-cons Precedes (in_front d []) [] (All-nil (Precedes (in_front d []))) p
with_first_in_order d (x ∷ xs) p h = elim (cases_Bool (is_eq (by_place (at d) (place x)))) [
  | inl y ↦
      let equal : by_place (at d) (place x) ≡ Equal = is_equal (by_place (at d) (place x)) y in
      let later : All (Precedes (in_front d x.detections)) xs = λ k z l. place_total.congr (at d) (place x) (place (get_or xs k z)) equal ∙ first_precedes x xs p k z l in
      rw y (AllPairs-cons Precedes (in_front d x.detections) xs later (rest_in_order Precedes x xs p))
  | inr f ↦
      let less : by_place (at d) (place x) ≡ Less = is_less (by_place (at d) (place x)) f (All-head (λ z. is_gt (by_place (at d) (place z)) ≡ false) x xs h) in
      let later : All (Precedes (in_front d [])) xs = λ k z l. place_total.trans (at d) (place x) (place (get_or xs k z)) less (first_precedes x xs p k z l) in
      rw f (AllPairs-cons Precedes (in_front d []) (x ∷ xs) (All-cons (Precedes (in_front d [])) x xs less later) p)
]

alone : (d : Observation) → IsOneExposure (in_front d [])
alone d = record {
  some = omega arith;
  one_epoch = All-cons (λ o. o.epoch ≡ d.epoch) d [] refl (All-nil (λ o. o.epoch ≡ d.epoch));
  one_site = All-cons (λ o. o.site ≡ d.site) d [] refl (All-nil (λ o. o.site ≡ d.site));
  by_id = λ i j e l h. absurd (omega (arith, l, h));
}

abbrev ids_dont_fall : Observation → Observation → Type 0
ids_dont_fall d e = is_gt (slice_cmp nat_cmp d.id e.id) ≡ false

in_front_of : (d : Observation) (x : ExposureData) → IsOneExposure x → by_place (at d) (place x) ≡ Equal → All (NotAfter d) x.detections → IsOneExposure (in_front d x.detections)
in_front_of d x one e h =
    let same = same_place (at d) (place x) e in
    let epochs : All (λ o. o.epoch ≡ d.epoch) x.detections = λ k z l. one.one_epoch k z l ∙ sym same.0 in
    let sites : All (λ o. o.site ≡ d.site) x.detections = λ k z l. one.one_site k z l ∙ sym same.1 in
    record {
      some = omega arith;
      one_epoch = All-cons (λ o. o.epoch ≡ d.epoch) d x.detections refl epochs;
      one_site = All-cons (λ o. o.site ≡ d.site) d x.detections refl sites;
      by_id = AllPairs-cons ids_dont_fall d x.detections (λ k z l. by_id d (get_or x.detections k z) (h k z l) (sym (epochs k z l), sym (sites k z l))) one.by_id;
    }

with_first_each : (d : Observation) (xs : List ExposureData) → All IsOneExposure xs → All (NotAfter d) (joined xs) → All IsOneExposure (with_first d xs)
with_first_each d [] each h = All-cons IsOneExposure (in_front d []) [] (alone d) each
with_first_each d (x ∷ xs) each h = elim (cases_Bool (is_eq (by_place (at d) (place x)))) [
  | inl y ↦
      let here = in_front_of d x (All-head IsOneExposure x xs each) (is_equal (by_place (at d) (place x)) y) (all_left (NotAfter d) x.detections (joined xs) h) in
      rw y (All-cons IsOneExposure (in_front d x.detections) xs here (All-tail IsOneExposure x xs each))
  | inr f ↦ rw f (All-cons IsOneExposure (in_front d []) (x ∷ xs) (alone d) each)
]

-- ---- a rising list is cut into exposures

first_not_after : (d : Observation) (ds : Ds) → AllPairs NotAfter (d ∷ ds) → All (NotAfter d) ds
first_not_after d ds h k e l = h 0 (suc k) e (omega arith) (omega arith)

first_not_after_joined : (d : Observation) (ds : Ds) → AllPairs NotAfter (d ∷ ds) → All (NotAfter d) (joined (cut ds))
first_not_after_joined d ds h = rw (cut_joined ds) (first_not_after d ds h)

pub cut_each : (ds : Ds) → AllPairs NotAfter ds → All IsOneExposure (cut ds)
cut_each [] h = All-nil IsOneExposure
cut_each (d ∷ ds) h = with_first_each d (cut ds) (cut_each ds (rest_in_order NotAfter d ds h)) (first_not_after_joined d ds h)

pub cut_in_order : (ds : Ds) → AllPairs NotAfter ds → AllPairs Precedes (cut ds)
cut_in_order [] h = λ i j d l m. absurd (omega arith)
cut_in_order (d ∷ ds) h =
    let rest = rest_in_order NotAfter d ds h in
    let later = All-weaker (NotAfter d) (λ e. is_gt (by_place (at d) (at e)) ≡ false) (no_later_place d) (joined (cut ds)) (first_not_after_joined d ds h) in
    with_first_in_order d (cut ds) (cut_in_order ds rest) (places_hold (λ p. is_gt (by_place (at d) p) ≡ false) (cut ds) (cut_each ds rest) later)

-- ---- in one way

-- the joined detections of exposures in order rise
append_in_order : {X : Type 0} (R : X → X → Type 0) (xs ys : List X) → AllPairs R xs → AllPairs R ys → All (λ x. All (R x) ys) xs → AllPairs R (xs ++ ys)
append_in_order R [] ys p q h = q
append_in_order R (x ∷ xs) ys p q h =
    let first : All (R x) xs = λ k d l. p 0 (suc k) d (omega arith) (omega arith) in
    AllPairs-cons R x (xs ++ ys) (All-append (R x) xs ys first (All-head (λ z. All (R z) ys) x xs h)) (append_in_order R xs ys (rest_in_order R x xs p) q (All-tail (λ z. All (R z) ys) x xs h))

one_rises : (x : ExposureData) → IsOneExposure x → AllPairs NotAfter x.detections
one_rises x one i j d l h =
    let i' : i < length x.detections = omega (arith, l, h) in
    let a = get_or x.detections i d in
    let b = get_or x.detections j d in
    by_ids (int_cmp a.epoch b.epoch) (slice_cmp nat_cmp a.site b.site) (slice_cmp nat_cmp a.id b.id)
    (same_at (at a) (at b) (one.one_epoch i d i' ∙ sym (one.one_epoch j d h)) (one.one_site i d i' ∙ sym (one.one_site j d h)))
    (one.by_id i j d l h)

-- a detection of an exposure stands before each of a later exposure
stands_earlier : (x y : ExposureData) (d e : Observation) → Precedes x y → d.epoch ≡ x.epoch → d.site ≡ x.site → e.epoch ≡ y.epoch → e.site ≡ y.site → NotAfter d e
stands_earlier x y d e p a b a' b' =
    let from = place_is (at d) (place x) a b in
    let to = place_is (at e) (place y) a' b' in
    earlier_place d e (ap (λ (z : Place). by_place z (at e)) from ∙ (ap (by_place (place x)) to ∙ p))

before_rest : (x : ExposureData) (xs : List ExposureData) → All IsOneExposure xs → All (Precedes x) xs → (d : Observation) → d.epoch ≡ x.epoch → d.site ≡ x.site → All (NotAfter d) (joined xs)
before_rest x xs each p d a b = joined_all (NotAfter d) xs (λ k y l m e n. stands_earlier x (get_or xs k y) d (get_or (get_or xs k y).detections m e) (p k y l) a b ((each k y l).one_epoch m e n) ((each k y l).one_site m e n))

pub joined_rises : (xs : List ExposureData) → AllPairs Precedes xs → All IsOneExposure xs → AllPairs NotAfter (joined xs)
joined_rises [] p each = λ i j d l h. absurd (omega arith)
joined_rises (x ∷ xs) p each =
    let one = All-head IsOneExposure x xs each in
    let rest = All-tail IsOneExposure x xs each in
    append_in_order NotAfter x.detections (joined xs) (one_rises x one) (joined_rises xs (rest_in_order Precedes x xs p) rest)
    (λ k d l. before_rest x xs rest (first_precedes x xs p) (get_or x.detections k d) (one.one_epoch k d l) (one.one_site k d l))

-- a detection before exposures of later places
cut_alone : (d : Observation) (xs : List ExposureData) → All (λ y. by_place (at d) (place y) ≡ Less) xs → with_first d xs ≡ in_front d [] ∷ xs
cut_alone d [] h = refl
cut_alone d (x ∷ xs) h = rw (not_equal (by_place (at d) (place x)) (All-head (λ y. by_place (at d) (place y) ≡ Less) x xs h)) refl

-- what is the same for all is as in the first
as_first : {Y : Type 0} (f : Observation → Y) (v : Y) (d : Observation) (ds : Ds) → All (λ o. f o ≡ v) (d ∷ ds) → All (λ o. f o ≡ f d) ds
as_first f v d ds h k o l = h (suc k) o (omega arith) ∙ sym (h 0 d (omega arith))

-- detections of one place before exposures of later places
cut_run : (d : Observation) (ds rest : Ds) (xs : List ExposureData) → cut rest ≡ xs → All (λ e. e.epoch ≡ d.epoch) ds → All (λ e. e.site ≡ d.site) ds → All (λ y. by_place (at d) (place y) ≡ Less) xs
    → cut ((d ∷ ds) ++ rest) ≡ in_front d ds ∷ xs
cut_run d [] rest xs c es ss h = ap (with_first d) c ∙ cut_alone d xs h
cut_run d (e ∷ ds) rest xs c es ss h =
    let here : at e ≡ at d = place_is (at e) (at d) (All-head (λ o. o.epoch ≡ d.epoch) e ds es) (All-head (λ o. o.site ≡ d.site) e ds ss) in
    let later = subst (λ p. All (λ y. by_place p (place y) ≡ Less) xs) (sym here) h in
    let one = cut_run e ds rest xs c (as_first (λ o. o.epoch) d.epoch e ds es) (as_first (λ o. o.site) d.site e ds ss) later in
    let level : is_eq (by_place (at d) (at e)) ≡ true = ap (λ (p : Place). is_eq (by_place (at d) p)) here ∙ ap is_eq (tied_itself place_total (at d)) in
    ap (with_first d) one ∙ rw level refl

abbrev exposure_as : ℤ → List ℕ → Ds → ExposureData
exposure_as epoch site ds = record { epoch = epoch; site = site; detections = ds }

same_exposure : (x : ExposureData) (d : Observation) (ds : Ds) → x.detections ≡ d ∷ ds → d.epoch ≡ x.epoch → d.site ≡ x.site → in_front d ds ≡ x
same_exposure x d ds is epoch site =
    ap (λ (z : ℤ). exposure_as z d.site (d ∷ ds)) epoch ∙ (ap (λ (z : List ℕ). exposure_as x.epoch z (d ∷ ds)) site ∙ ap (exposure_as x.epoch x.site) (sym is))

cut_one : (x : ExposureData) (ds : Ds) (xs : List ExposureData) → x.detections ≡ ds → IsOneExposure x → All (Precedes x) xs → cut (joined xs) ≡ xs → cut (ds ++ joined xs) ≡ x ∷ xs
cut_one x [] xs is one p c = absurd (let some = rw is at one.some in omega (arith, some))
cut_one x (d ∷ ds) xs is one p c =
    let epochs : All (λ e. e.epoch ≡ x.epoch) (d ∷ ds) = rw is at one.one_epoch in
    let sites : All (λ e. e.site ≡ x.site) (d ∷ ds) = rw is at one.one_site in
    let same = same_exposure x d ds is (All-head (λ o. o.epoch ≡ x.epoch) d ds epochs) (All-head (λ o. o.site ≡ x.site) d ds sites) in
    let later : All (Precedes (in_front d ds)) xs = subst (λ z. All (Precedes z) xs) (sym same) p in
    cut_run d ds (joined xs) xs c (as_first (λ o. o.epoch) x.epoch d ds epochs) (as_first (λ o. o.site) x.site d ds sites) later
    ∙ ap (λ (z : ExposureData). z ∷ xs) same

pub cut_again : (xs : List ExposureData) → AllPairs Precedes xs → All IsOneExposure xs → cut (joined xs) ≡ xs
cut_again [] p each = refl
cut_again (x ∷ xs) p each = cut_one x x.detections xs refl (All-head IsOneExposure x xs each) (first_precedes x xs p) (cut_again xs (rest_in_order Precedes x xs p) (All-tail IsOneExposure x xs each))

-- ---- the last exposure is cut off

pub one_exposure : (x : ExposureData) → IsExposure x → IsOneExposure x
one_exposure x is = record { some = is.some; one_epoch = is.one_epoch; one_site = is.one_site; by_id = is.by_id }

pub ids_rise : (ds : Ds) → ((d : Observation) → All (λ e. IsOfOneExposure e (get_or ds (length ds - 1) d)) ds) → AllPairs NotAfter ds → IdsDontFall ds
ids_rise ds one rise i j e l h =
    let a = one e i e (omega (arith, l, h)) in
    let b = one e j e h in
    by_id (get_or ds i e) (get_or ds j e) (rise i j e l h) (a.0 ∙ sym b.0, a.1 ∙ sym b.1)

with_first_some : (d : Observation) (xs : List ExposureData) → 0 < length (with_first d xs)
with_first_some d [] = omega arith
with_first_some d (x ∷ xs) = elim (cases_Bool (is_eq (by_place (at d) (place x)))) [
  | inl y ↦ rw y (omega arith)
  | inr f ↦ rw f (omega arith)
]

with_first_front : (d : Observation) (xs : List ExposureData) (last : ExposureData) → 0 < length xs → with_first d (xs ++ last ∷ []) ≡ with_first d xs ++ last ∷ []
with_first_front d [] last h = absurd (omega arith)
with_first_front d (x ∷ xs) last h = elim (cases_Bool (is_eq (by_place (at d) (place x)))) [
  | inl y ↦ rw y refl
  | inr f ↦ rw f refl
]

-- the last detection is of another place
abbrev EndsElsewhere : Ds → ExposureData → Type 0
EndsElsewhere ds x = (k : ℕ) (d : Observation) → length ds ≡ suc k → is_eq (by_place (at (get_or ds k d)) (place x)) ≡ false

cut_last : (ds : Ds) (x : ExposureData) → cut x.detections ≡ x ∷ [] → EndsElsewhere ds x → cut (ds ++ x.detections) ≡ cut ds ++ x ∷ []
cut_last [] x one other = one
cut_last (d ∷ []) x one other = ap (with_first d) one ∙ rw (other 0 d refl) refl
cut_last (d ∷ e ∷ ds) x one other =
    ap (with_first d) (cut_last (e ∷ ds) x one (λ k f h. other (suc k) f (omega (arith, h)))) ∙ with_first_front d (cut (e ∷ ds)) x (with_first_some e (cut ds))

cut_whole : (x : ExposureData) → IsOneExposure x → cut x.detections ≡ x ∷ []
cut_whole x one = ap cut (sym (append-nil x.detections)) ∙ cut_one x x.detections [] refl one (All-nil (Precedes x)) refl

elsewhere : (d last : Observation) (x : ExposureData) → last.epoch ≡ x.epoch → last.site ≡ x.site → (IsOfOneExposure d last → ⊥) → is_eq (by_place (at d) (place x)) ≡ false
elsewhere d last x epoch site apart = elim (cases_Bool (is_eq (by_place (at d) (place x)))) [
  | inl y ↦ absurd (let same = same_place (at d) (place x) (is_equal (by_place (at d) (place x)) y) in apart (same.0 ∙ sym epoch, same.1 ∙ sym site))
  | inr f ↦ f
]

module _ (rest : Ds) (start : ℕ) (within : start < length rest) where
  pub front_rises : AllPairs NotAfter rest → AllPairs NotAfter (take start rest)
  front_rises rise i j d l h =
      let j' : j < start = omega (arith, h, length-take start rest) in
      rw (get_or-take start rest i d (omega (arith, l, j')), get_or-take start rest j d j') (rise i j d l (omega (arith, j', within)))

  pub back_rises : AllPairs NotAfter rest → AllPairs NotAfter (drop start rest)
  back_rises rise i j d l h =
      rw (get_or-drop start rest i d, get_or-drop start rest j d) (rise (start + i) (start + j) d (omega (arith, l)) (omega (arith, h, length-drop start rest)))

  pub back_is_one : ((k : ℕ) (d : Observation) → start ≤ k → k < length rest → IsOfOneExposure (get_or rest k d) (get_or rest (length rest - 1) d))
      → (d : Observation) → All (λ e. IsOfOneExposure e (get_or (drop start rest) (length (drop start rest) - 1) d)) (drop start rest)
  back_is_one one d k e h =
      let many = length-drop start rest in
      let last : length (drop start rest) - 1 < length (drop start rest) = omega (arith, h) in
      let end : start + (length (drop start rest) - 1) ≡ length rest - 1 = omega (arith, many, within) in
      let there : get_or (drop start rest) (length (drop start rest) - 1) d ≡ get_or rest (length rest - 1) d = get_or-drop start rest (length (drop start rest) - 1) d ∙ ap (λ (n : ℕ). get_or rest n d) end in
      let same : get_or rest (length rest - 1) e ≡ get_or rest (length rest - 1) d = within_is rest (length rest - 1) e d (omega (arith, within)) in
      rw (get_or-drop start rest k e, there, sym same) (one (start + k) e (omega arith) (omega (arith, h, many)))
    where
      within_is : (ds : Ds) (k : ℕ) (d e : Observation) → k < length ds → get_or ds k d ≡ get_or ds k e
      within_is [] k d e h = absurd (omega (arith, h))
      within_is (x ∷ xs) zero d e h = refl
      within_is (x ∷ xs) (suc k) d e h = within_is xs k d e (omega (arith, h))

  pub taken_off : (x : ExposureData) → IsExposure x → x.detections ≡ drop start rest
      → ((d : Observation) → 0 < start → IsOfOneExposure (get_or rest (start - 1) d) (get_or rest (length rest - 1) d) → ⊥)
      → cut rest ≡ cut (take start rest) ++ x ∷ []
  taken_off x is same other =
      let many = length-drop start rest in
      let ends : EndsElsewhere (take start rest) x = λ k d h.
      let k' : k ≡ start - 1 = omega (arith, h, length-take start rest, within) in
      let here : get_or (take start rest) k d ≡ get_or rest (start - 1) d = get_or-take start rest k d (omega (arith, h, length-take start rest)) ∙ ap (λ (n : ℕ). get_or rest n d) k' in
      let last = length rest - 1 - start in
      let h' : last < length x.detections = rw same (omega (arith, many, within)) in
      let end : start + last ≡ length rest - 1 = omega (arith, within) in
      let there : get_or x.detections last d ≡ get_or rest (length rest - 1) d = ap (λ (ds : Ds). get_or ds last d) same ∙ (get_or-drop start rest last d ∙ ap (λ (n : ℕ). get_or rest n d) end) in
      rw here (elsewhere (get_or rest (start - 1) d) (get_or rest (length rest - 1) d) x (rw there at (is.one_epoch last d h')) (rw there at (is.one_site last d h')) (other d (omega (arith, h, length-take start rest)))) in
      ap cut (sym (take-append-drop start rest) ∙ ap (λ (ds : Ds). take start rest ++ ds) (sym same))
      ∙ cut_last (take start rest) x (cut_whole x (one_exposure x is)) ends

-- one between two of one exposure is of it too
between : (first x last : Observation) → NotAfter first x → NotAfter x last → IsOfOneExposure first last → IsOfOneExposure x last
between first x last h k one =
    let same : at last ≡ at first = sym (place_is (at first) (at last) one.0 one.1) in
    let back : is_gt (by_place (at x) (at first)) ≡ false = subst (λ p. is_gt (by_place (at x) p) ≡ false) same (no_later_place x last k) in
    let level = equal_from_no_greater (by_place (at x) (at first)) (by_place (at first) (at x)) (place_total.antisymm (at x) (at first)) back (no_later_place first x h) in
    let here = same_place (at x) (at first) level in
    (here.0 ∙ one.0, here.1 ∙ one.1)

pub all_of_one : (ds : Ds) (first last : Observation) → AllPairs NotAfter ds → first ≡ get_or ds 0 first → last ≡ get_or ds (length ds - 1) last → IsOfOneExposure first last
    → (k : ℕ) (d : Observation) → 0 ≤ k → k < length ds → IsOfOneExposure (get_or ds k d) (get_or ds (length ds - 1) d)
all_of_one ds first last rise f l one k d low h =
    let f' : get_or ds 0 d ≡ first = get_or_default ds 0 d first (omega (arith, h)) ∙ sym f in
    let l' : get_or ds (length ds - 1) d ≡ last = get_or_default ds (length ds - 1) d last (omega (arith, h)) ∙ sym l in
    elim (cases_eq k 0) [
      | inl e ↦ rw (e, f', l') one
      | inr some ↦ elim (cases_eq k (length ds - 1)) [
        | inl e ↦ rw e (refl, refl)
        | inr ne ↦
            let a : NotAfter first (get_or ds k d) = subst (λ x. NotAfter x (get_or ds k d)) f' (rise 0 k d (omega (arith, some)) h) in
            let b : NotAfter (get_or ds k d) last = subst (λ x. NotAfter (get_or ds k d) x) l' (rise k (length ds - 1) d (omega (arith, ne, h)) (omega (arith, h))) in
            rw l' (between first (get_or ds k d) last a b one)
      ]
    ]

-- from a place on all are of one exposure with the last
pub record EndsWithOne (ds : Ds) (start : ℕ) : Type 0 where
  pub within : start < length ds
  pub of_one : (k : ℕ) (d : Observation) → start ≤ k → k < length ds → IsOfOneExposure (get_or ds k d) (get_or ds (length ds - 1) d)

-- what holds as exposures are cut off, the last first
pub record Cut (whole rest : Ds) (exposures : List ExposureData) : Type 0 where
  pub few : length rest < 2 ^ 32
  pub rising : AllPairs NotAfter rest
  pub cut_so_far : cut rest ++ reverse exposures ≡ cut whole

pub one_more : (whole rest : Ds) (exposures : List ExposureData) (start : ℕ) (x : ExposureData) → Cut whole rest exposures → start < length rest → cut rest ≡ cut (take start rest) ++ x ∷ []
    → Cut whole (take start rest) (exposures ++ x ∷ [])
one_more whole rest exposures start x c within is = record {
  few = omega (arith, c.few, within, length-take start rest);
  rising = front_rises rest start within c.rising;
  cut_so_far = ap (λ (xs : List ExposureData). cut (take start rest) ++ xs) (reverse-append exposures (x ∷ []))
      ∙ (sym (append_assoc (cut (take start rest)) (x ∷ []) (reverse exposures)) ∙ (ap (λ (xs : List ExposureData). xs ++ reverse exposures) (sym is) ∙ c.cut_so_far));
}

pub all_cut : (whole rest : Ds) (exposures : List ExposureData) → AllPairs NotAfter whole → length rest ≡ 0 → Cut whole rest exposures
    → AllPairs Precedes (reverse exposures) × All IsOneExposure (reverse exposures) × (joined (reverse exposures) ≡ whole)
all_cut whole [] exposures rise h c = rw c.cut_so_far (cut_in_order whole rise, cut_each whole rise, cut_joined whole)
all_cut whole (d ∷ ds) exposures rise h c = absurd (omega (arith, h))
