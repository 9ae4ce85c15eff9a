-- What a search for a place says of the exposures: which stand before it, at it and after it.
use Rattle.std.proofs.Common.{◌≡◌, ◌≢◌, ℕ, ◌<◌, ◌≤◌, ℤ, Bool, true, false, not, Option, Some, List, [], ◌∷◌, length, get_or, take, drop, map, refl, sym, ap, ◌∙◌, arith, zero, suc, inl, inr}
use Rattle.std.specs.List.{list_any, slice_index, filter, remove}
use Rattle.std.specs.declared.cmp.Ordering.{Ordering}
use Rattle.std.specs.declared.cmp.Ordering.TheVariants.{Less, Equal, Greater}
use Rattle.std.specs.Ordering.{nat_cmp, ordering_reverse, is_eq}
use Rattle.std.specs.Cmp.Lexicographic.{slice_cmp}
use Rattle.std.proofs.lemmas.Cmp.{nat_list_cmp_total, tied_itself}
use Rattle.std.proofs.lemmas.Bool.{cases_Bool, or_from, cases_order}
use Rattle.miti_text.specs.Observation.{Observation}
use Rattle.exposure_log.specs.declared.numbered.NumberedExposure.{NumberedExposure}
use Rattle.number_register.specs.Numbering.{slot}
use Rattle.exposure_log.specs.Numbered.{numbered_cmp, IsNumbered, RiseStrictly}
use Rattle.number_register.specs.Numbering.{AreDistinct}
use Rattle.exposure_log.proofs.Order.{place_total, place_of, by_place}

-- ---- lists and a test

pub any_map : {X Y : Type 0} (p : Y → Bool) (f : X → Y) (xs : List X) → list_any p (map f xs) ≡ list_any (λ x. p (f x)) xs
any_map p f [] = refl
any_map p f (x ∷ xs) = rw (any_map p f xs) refl

pub any_none : {X : Type 0} (p : X → Bool) (xs : List X) → ((k : ℕ) (d : X) → k < length xs → p (get_or xs k d) ≡ false) → list_any p xs ≡ false
any_none p [] h = refl
any_none p (x ∷ xs) h = or_from (p x) (list_any p xs) (h 0 x (omega arith)) (any_none p xs (λ k d l. h (suc k) d (omega arith)))

pub filter_all : {X : Type 0} (p : X → Bool) (xs : List X) → ((k : ℕ) (d : X) → k < length xs → p (get_or xs k d) ≡ true) → filter p xs ≡ xs
filter_all p [] h = refl
filter_all p (x ∷ xs) h = rw (h 0 x (omega arith), filter_all p xs (λ k d l. h (suc k) d (omega arith))) refl

pub filter_none : {X : Type 0} (p : X → Bool) (xs : List X) → ((k : ℕ) (d : X) → k < length xs → p (get_or xs k d) ≡ false) → filter p xs ≡ []
filter_none p [] h = refl
filter_none p (x ∷ xs) h = rw (h 0 x (omega arith)) (filter_none p xs (λ k d l. h (suc k) d (omega arith)))

pub filter_only : {X : Type 0} (p : X → Bool) (xs : List X) (i : ℕ) (e : X) → i < length xs → p (get_or xs i e) ≡ true → ((k : ℕ) (d : X) → k < length xs → k ≢ i → p (get_or xs k d) ≡ false) → filter p xs ≡ get_or xs i e ∷ []
filter_only p [] i e l t h = absurd (omega arith)
filter_only p (x ∷ xs) zero e l t h = rw (t, filter_none p xs (λ k d m. h (suc k) d (omega arith) (λ q. omega (arith, q)))) refl
filter_only p (x ∷ xs) (suc i) e l t h = rw (h 0 x (omega arith) (λ q. omega (arith, q))) (filter_only p xs i e (omega arith) t (λ k d m ne. h (suc k) d (omega arith) (λ q. ne (omega (arith, q)))))

pub filter_remove : {X : Type 0} (p : X → Bool) (xs : List X) (i : ℕ) (e : X) → i < length xs → p (get_or xs i e) ≡ false → ((k : ℕ) (d : X) → k < length xs → k ≢ i → p (get_or xs k d) ≡ true) → filter p xs ≡ remove xs i
filter_remove p [] i e l t h = absurd (omega arith)
filter_remove p (x ∷ xs) zero e l t h = rw (t, filter_all p xs (λ k d m. h (suc k) d (omega arith) (λ q. omega (arith, q)))) refl
filter_remove p (x ∷ xs) (suc i) e l t h = rw (h 0 x (omega arith) (λ q. omega (arith, q)), filter_remove p xs i e (omega arith) t (λ k d m ne. h (suc k) d (omega arith) (λ q. ne (omega (arith, q))))) refl

pub filter_take : {X : Type 0} (p : X → Bool) (xs : List X) (i : ℕ) → ((k : ℕ) (d : X) → k < i → k < length xs → p (get_or xs k d) ≡ true) → ((k : ℕ) (d : X) → i ≤ k → k < length xs → p (get_or xs k d) ≡ false) → filter p xs ≡ take i xs
filter_take p xs zero h k = filter_none p xs (λ j d l. k j d (omega arith) l)
filter_take p [] (suc i) h k = refl
filter_take p (x ∷ xs) (suc i) h k = rw (h 0 x (omega arith) (omega arith), filter_take p xs i (λ j d l m. h (suc j) d (omega arith) (omega arith)) (λ j d l m. k (suc j) d (omega arith) (omega arith))) refl

pub filter_drop : {X : Type 0} (p : X → Bool) (xs : List X) (i : ℕ) → ((k : ℕ) (d : X) → k < i → k < length xs → p (get_or xs k d) ≡ false) → ((k : ℕ) (d : X) → i ≤ k → k < length xs → p (get_or xs k d) ≡ true) → filter p xs ≡ drop i xs
filter_drop p xs zero h k = filter_all p xs (λ j d l. k j d (omega arith) l)
filter_drop p [] (suc i) h k = refl
filter_drop p (x ∷ xs) (suc i) h k = rw (h 0 x (omega arith) (omega arith)) (filter_drop p xs i (λ j d l m. h (suc j) d (omega arith) (omega arith)) (λ j d l m. k (suc j) d (omega arith) (omega arith)))

by_test : {X Y : Type 0} (p : Y → Bool) (f : X → Y) (x : X) (xs : List X) (b : Bool) → p (f x) ≡ b → filter p (map f xs) ≡ map f (filter (λ x. p (f x)) xs) → filter p (map f (x ∷ xs)) ≡ map f (filter (λ x. p (f x)) (x ∷ xs))
by_test p f x xs true e h = rw (e, h) refl
by_test p f x xs false e h = rw e h

pub filter_map_is : {X Y : Type 0} (p : Y → Bool) (f : X → Y) (xs : List X) → filter p (map f xs) ≡ map f (filter (λ x. p (f x)) xs)
filter_map_is p f [] = refl
filter_map_is p f (x ∷ xs) = by_test p f x xs (p (f x)) refl (filter_map_is p f xs)

-- a filter within a wider one
pub filter_within : {X : Type 0} (p q : X → Bool) (xs : List X) → ((x : X) → p x ≡ true → q x ≡ true) → filter p (filter q xs) ≡ filter p xs
filter_within p q [] wider = refl
filter_within p q (x ∷ xs) wider = elim (cases_Bool (p x)) [
  | inl y ↦ rw (wider x y, y, filter_within p q xs wider) refl
  | inr f ↦ elim (cases_Bool (q x)) [
    | inl t ↦ rw (t, f, filter_within p q xs wider) refl
    | inr n ↦ rw (n, f, filter_within p q xs wider) refl
  ]
]

-- where a test holds of nothing, its opposite keeps everything
pub filter_none_out : {X : Type 0} (p : X → Bool) (xs : List X) → filter p xs ≡ [] → filter (λ x. not (p x)) xs ≡ xs
filter_none_out p [] none = refl
filter_none_out p (x ∷ xs) none = elim (cases_Bool (p x)) [
  | inl y ↦ let no : x ∷ filter p xs ≡ [] = rw y at none in cc
  | inr f ↦ let rest : filter p xs ≡ [] = rw f at none in rw (f, filter_none_out p xs rest) refl
]

-- ---- places

reversed : (a b c : Ordering) → a ≡ ordering_reverse b → b ≡ c → a ≡ ordering_reverse c
reversed a b c e h = e ∙ ap ordering_reverse h

pub other_place : (listed : List NumberedExposure) (epoch : ℤ) (site : List ℕ) (i : ℕ) (g : NumberedExposure) → RiseStrictly listed → i < length listed → numbered_cmp epoch site (get_or listed i g) ≡ Equal
    → (k : ℕ) → k < length listed → k ≢ i → is_eq (numbered_cmp epoch site (get_or listed k g)) ≡ false
other_place listed epoch site i g rise h found k l ne =
    let t : ℤ × List ℕ = (epoch, site) in
    let moved = place_total.congr (place_of (get_or listed i g)) t (place_of (get_or listed k g)) found in
    elim (cases_order k i) [
      | inl e ↦ absurd (ne e)
      | inr (inl lt) ↦
          let less : by_place (place_of (get_or listed k g)) (place_of (get_or listed i g)) ≡ Less = rise k i g lt h in
          let more = reversed (by_place (place_of (get_or listed i g)) (place_of (get_or listed k g))) (by_place (place_of (get_or listed k g)) (place_of (get_or listed i g))) Less (place_total.antisymm (place_of (get_or listed i g)) (place_of (get_or listed k g))) less in
          let back = reversed (by_place (place_of (get_or listed k g)) t) (by_place t (place_of (get_or listed k g))) Greater (place_total.antisymm (place_of (get_or listed k g)) t) (sym moved ∙ more) in
          ap is_eq back
      | inr (inr gt) ↦
          let less : by_place (place_of (get_or listed i g)) (place_of (get_or listed k g)) ≡ Less = rise i k g gt l in
          let back = reversed (by_place (place_of (get_or listed k g)) t) (by_place t (place_of (get_or listed k g))) Less (place_total.antisymm (place_of (get_or listed k g)) t) (sym moved ∙ less) in
          ap is_eq back
    ]

less_is_not_equal : (r : Ordering) → r ≡ Equal → r ≡ Less → ⊥
less_is_not_equal r e h = let no : Equal ≡ Less = sym e ∙ h in cc

not_itself : (id : List ℕ) → slice_cmp nat_cmp id id ≡ Less → ⊥
not_itself id h = less_is_not_equal (slice_cmp nat_cmp id id) (tied_itself nat_list_cmp_total id) h

-- an exposure's numbers differ
pub distinct_numbers : (slots : List (Option Observation)) (g : NumberedExposure) → IsNumbered slots g → AreDistinct g.numbers.items
distinct_numbers slots g is j k l h same =
    let d = is.held k h in
    let there : slot slots (slice_index g.numbers.items j) ≡ Some d.0 = ap (slot slots) same ∙ d.1 in
    let less = is.by_id j k d.0 d.0 l h there d.1 in
    not_itself d.0.id less
