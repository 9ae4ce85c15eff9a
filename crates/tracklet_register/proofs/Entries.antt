-- The numbers of one night among those of all.
use Rattle.std.proofs.Common.{◌≡◌, ◌↔◌, ℕ, ◌<◌, ℤ, ◌<ℤ◌, true, false, not, cond, filter, if◌then◌else◌, List, [], ◌∷◌, ◌++◌, length, map, get_or, take, zero, suc, refl, sym, subst, ◌∙◌, ◌⊎◌, inl, inr, arith}
use Rattle.std.proofs.lemmas.Bool.Decides.{Decides-int_eq, not_from_Decides}
use Rattle.std.proofs.lemmas.Int.{ints}
use Rattle.std.proofs.lemmas.List.Elements.{All-contains, All-head, All-tail, Contains-append_cases, Contains-append_left, Contains-append_right, Contains-get_or, Contains-push, Contains-push_cases}
use Rattle.std.proofs.Math.ListN.{set}
use Rattle.std.specs.Int.Signed.{lt_z}
use Rattle.std.specs.List.{All, Contains}
use Rattle.std.specs.Ordering.{int_eq}
use Rattle.sky_units.proofs.Members.{front_or_rest, in_front, in_map, in_none, in_rest, of_map}
use Rattle.tracklet_register.specs.Entries.{IsFirstOf, IsOther, isnt_before, isnt_of}
use Rattle.tracklet_register.specs.Registers.{HasNight, IsBefore, numbers_of}
use Rattle.tracklet_register.specs.declared.nights.NightNumbers.{NightNumbers}

-- two numbers of nights are the same, or not
pub same_night : (a b : ℤ) → ((a ≡ b) × (int_eq a b ≡ true)) ⊎ ((¬ (a ≡ b)) × (int_eq a b ≡ false))
same_night a b = (elim (int_eq a b) as (λ r. int_eq a b ≡ r → ((a ≡ b) × (int_eq a b ≡ true)) ⊎ ((¬ (a ≡ b)) × (int_eq a b ≡ false))) [
  | true ↦ λ e. inl ((Decides-int_eq a b).0 e, e)
  | false ↦ λ e. inr (not_from_Decides (int_eq a b) (Decides-int_eq a b) e, e)
]) refl

own_numbers : (e : NightNumbers) (nights : List NightNumbers) (n : ℤ) → e.number ≡ n → numbers_of (e ∷ nights) n ≡ e.numbers.items
own_numbers e nights n is = elim (same_night e.number n) [
  | inl w ↦ subst (λ b. (if b then e.numbers.items else numbers_of nights n) ≡ e.numbers.items) (sym w.1) refl
  | inr w ↦ absurd (w.0 is)
]

other_numbers : (e : NightNumbers) (nights : List NightNumbers) (n : ℤ) → ¬ (e.number ≡ n) → numbers_of (e ∷ nights) n ≡ numbers_of nights n
other_numbers e nights n differ = elim (same_night e.number n) [
  | inl w ↦ absurd (differ w.0)
  | inr w ↦ subst (λ b. (if b then e.numbers.items else numbers_of nights n) ≡ numbers_of nights n) (sym w.1) refl
]

-- a night that isn't there has none
pub none_of : (nights : List NightNumbers) (n : ℤ) → All (IsOther n) nights → numbers_of nights n ≡ []
none_of [] n a = refl
none_of (e ∷ nights) n a = other_numbers e nights n (All-head (IsOther n) e nights a) ∙ none_of nights n (All-tail (IsOther n) e nights a)

pub isnt_there : (nights : List NightNumbers) (n : ℤ) → All (IsOther n) nights → HasNight nights n → ⊥
isnt_there nights n a h =
    let w = of_map (λ (night : NightNumbers). night.number) nights n h in
    All-contains (IsOther n) nights w.0 a w.1 w.2

-- those of the first entry of a night
first_of_rest : (e : NightNumbers) (nights : List NightNumbers) (n : ℤ) (i : ℕ) → IsFirstOf (e ∷ nights) n (suc i) → IsFirstOf nights n i
first_of_rest e nights n i f = record {
  within = (let less = f.within in omega (arith, less));
  is = f.is;
  before = All-tail (IsOther n) e (take i nights) f.before;
}

isnt_first : (e : NightNumbers) (nights : List NightNumbers) (n : ℤ) (i : ℕ) → IsFirstOf (e ∷ nights) n (suc i) → ¬ (e.number ≡ n)
isnt_first e nights n i f = All-head (IsOther n) e (take i nights) f.before

pub numbers_at : (nights : List NightNumbers) (n : ℤ) (i : ℕ) (d : NightNumbers) → IsFirstOf nights n i → numbers_of nights n ≡ (get_or nights i d).numbers.items
numbers_at [] n i d f = (let less = f.within in absurd (omega (arith, less)))
numbers_at (e ∷ nights) n zero d f = own_numbers e nights n (f.is d)
numbers_at (e ∷ nights) n (suc i) d f = other_numbers e nights n (isnt_first e nights n i f) ∙ numbers_at nights n i d (first_of_rest e nights n i f)

pub first_is_there : (nights : List NightNumbers) (n : ℤ) (i : ℕ) → IsFirstOf nights n i → HasNight nights n
first_is_there [] n i f = (let less = f.within in absurd (omega (arith, less)))
first_is_there (x ∷ nights) n i f = subst (HasNight (x ∷ nights)) (f.is x) (in_map (λ (night : NightNumbers). night.number) (x ∷ nights) (get_or (x ∷ nights) i x) (Contains-get_or (x ∷ nights) i x f.within))

-- an entry without numbers behind the others
pub pushed_of : (nights : List NightNumbers) (e : NightNumbers) (n : ℤ) → e.numbers.items ≡ [] → numbers_of (nights ++ e ∷ []) n ≡ numbers_of nights n
pushed_of [] e n none = elim (same_night e.number n) [ inl w ↦ own_numbers e [] n w.0 ∙ none | inr w ↦ other_numbers e [] n w.0 ]
pushed_of (x ∷ nights) e n none = elim (same_night x.number n) [
  | inl w ↦ own_numbers x (nights ++ e ∷ []) n w.0 ∙ sym (own_numbers x nights n w.0)
  | inr w ↦ other_numbers x (nights ++ e ∷ []) n w.0 ∙ (pushed_of nights e n none ∙ sym (other_numbers x nights n w.0))
]

-- another entry in place of the first one of its night
pub put_here : (nights : List NightNumbers) (n : ℤ) (i : ℕ) (e : NightNumbers) → IsFirstOf nights n i → e.number ≡ n → numbers_of (set nights i e) n ≡ e.numbers.items
put_here [] n i e f is = (let less = f.within in absurd (omega (arith, less)))
put_here (x ∷ nights) n zero e f is = own_numbers e nights n is
put_here (x ∷ nights) n (suc i) e f is = other_numbers x (set nights i e) n (isnt_first x nights n i f) ∙ put_here nights n i e (first_of_rest x nights n i f) is

pub put_elsewhere : (nights : List NightNumbers) (n m : ℤ) (i : ℕ) (e : NightNumbers) → IsFirstOf nights n i → e.number ≡ n → ¬ (m ≡ n) → numbers_of (set nights i e) m ≡ numbers_of nights m
put_elsewhere [] n m i e f is differ = (let less = f.within in absurd (omega (arith, less)))
put_elsewhere (x ∷ nights) n m zero e f is differ = other_numbers e nights m (λ s. differ (sym s ∙ is)) ∙ sym (other_numbers x nights m (λ s. differ (sym s ∙ f.is x)))
put_elsewhere (x ∷ nights) n m (suc i) e f is differ = elim (same_night x.number m) [
  | inl w ↦ own_numbers x (set nights i e) m w.0 ∙ sym (own_numbers x nights m w.0)
  | inr w ↦ other_numbers x (set nights i e) m w.0 ∙ (put_elsewhere nights n m i e (first_of_rest x nights n i f) is differ ∙ sym (other_numbers x nights m w.0))
]

pub put_is_there : (nights : List NightNumbers) (i : ℕ) (e : NightNumbers) → i < length nights → HasNight (set nights i e) e.number
put_is_there [] i e less = absurd (omega (arith, less))
put_is_there (x ∷ nights) zero e less = in_front e.number (map (λ (night : NightNumbers). night.number) nights)
put_is_there (x ∷ nights) (suc i) e less = in_rest x.number (map (λ (night : NightNumbers). night.number) (set nights i e)) e.number (put_is_there nights i e (omega (arith, less)))

-- ---- entries that are there still
pub pushed_keeps : (nights : List NightNumbers) (e : NightNumbers) (n : ℤ) → HasNight nights n → HasNight (nights ++ e ∷ []) n
pushed_keeps nights e n h =
    let w = of_map (λ (night : NightNumbers). night.number) nights n h in
    subst (HasNight (nights ++ e ∷ [])) w.2 (in_map (λ (night : NightNumbers). night.number) (nights ++ e ∷ []) w.0 (Contains-append_left nights (e ∷ []) w.0 w.1))

pub put_keeps : (nights : List NightNumbers) (n m : ℤ) (i : ℕ) (e : NightNumbers) → IsFirstOf nights n i → e.number ≡ n → HasNight nights m → HasNight (set nights i e) m
put_keeps [] n m i e f is h = (let less = f.within in absurd (omega (arith, less)))
put_keeps (x ∷ nights) n m zero e f is h = subst (λ (k : ℤ). Contains (k ∷ map (λ (night : NightNumbers). night.number) nights) m) (f.is x ∙ sym is) h
put_keeps (x ∷ nights) n m (suc i) e f is h = elim (front_or_rest x.number (map (λ (night : NightNumbers). night.number) nights) m h) [
  | inl s ↦ subst (HasNight (x ∷ set nights i e)) s (in_front x.number (map (λ (night : NightNumbers). night.number) (set nights i e)))
  | inr d ↦ in_rest x.number (map (λ (night : NightNumbers). night.number) (set nights i e)) m (put_keeps nights n m i e (first_of_rest x nights n i f) is d)
]

-- ---- a night that goes
pub left_gone : (nights : List NightNumbers) (number : ℤ) → numbers_of (filter (isnt_of number) nights) number ≡ []
left_gone [] number = refl
left_gone (e ∷ nights) number = elim (same_night e.number number) [
  | inl w ↦ subst (λ b. numbers_of (cond (not b) (e ∷ filter (isnt_of number) nights) (filter (isnt_of number) nights)) number ≡ []) (sym w.1) (left_gone nights number)
  | inr w ↦ subst (λ b. numbers_of (cond (not b) (e ∷ filter (isnt_of number) nights) (filter (isnt_of number) nights)) number ≡ []) (sym w.1) (other_numbers e (filter (isnt_of number) nights) number w.0 ∙ left_gone nights number)
]

pub left_kept : (nights : List NightNumbers) (number n : ℤ) → ¬ (n ≡ number) → numbers_of (filter (isnt_of number) nights) n ≡ numbers_of nights n
left_kept [] number n differ = refl
left_kept (e ∷ nights) number n differ = elim (same_night e.number number) [
  | inl w ↦ subst (λ b. numbers_of (cond (not b) (e ∷ filter (isnt_of number) nights) (filter (isnt_of number) nights)) n ≡ numbers_of (e ∷ nights) n) (sym w.1)
      (left_kept nights number n differ ∙ sym (other_numbers e nights n (λ s. differ (sym s ∙ w.0))))
  | inr w ↦ subst (λ b. numbers_of (cond (not b) (e ∷ filter (isnt_of number) nights) (filter (isnt_of number) nights)) n ≡ numbers_of (e ∷ nights) n) (sym w.1) (elim (same_night e.number n) [
    | inl v ↦ own_numbers e (filter (isnt_of number) nights) n v.0 ∙ sym (own_numbers e nights n v.0)
    | inr v ↦ other_numbers e (filter (isnt_of number) nights) n v.0 ∙ (left_kept nights number n differ ∙ sym (other_numbers e nights n v.0))
  ])
]

-- ---- nights that go
-- a number of a night stands in an entry of it
pub entry_of : (nights : List NightNumbers) (n : ℤ) (number : ℕ) → Contains (numbers_of nights n) number → (e : NightNumbers) × Contains nights e × (e.number ≡ n)
entry_of [] n number c = absurd (in_none number c)
entry_of (e ∷ nights) n number c = elim (same_night e.number n) [
  | inl w ↦ (e, in_front e nights, w.0)
  | inr w ↦
      let v = entry_of nights n number (subst (λ (list : List ℕ). Contains list number) (other_numbers e nights n w.0) c) in
      (v.0, in_rest e nights v.0 v.1, v.2)
]

-- the numbers of the entries of nights before one
abbrev pub IsOfEntry : List NightNumbers → ℤ → List NightNumbers → ℕ → Type 0
IsOfEntry nights first entries number = (e : NightNumbers) × Contains entries e × (e.number <ℤ first) × Contains (numbers_of nights e.number) number

pub of_entry_more : (nights : List NightNumbers) (first : ℤ) (entries : List NightNumbers) (e : NightNumbers) (old new : List ℕ)
    → ((number : ℕ) → Contains old number ↔ IsOfEntry nights first entries number)
    → ((number : ℕ) → Contains new number ↔ (Contains old number ⊎ ((e.number <ℤ first) × Contains (numbers_of nights e.number) number)))
    → (number : ℕ) → Contains new number ↔ IsOfEntry nights first (entries ++ e ∷ []) number
of_entry_more nights first entries e old new before now number = (
  λ c. elim ((now number).0 c) [
    | inl d ↦ (let w = (before number).0 d in (w.0, Contains-append_left entries (e ∷ []) w.0 w.1, w.2, w.3))
    | inr w ↦ (e, Contains-push entries e, w.0, w.1)
  ],
  λ w. elim (Contains-push_cases entries e w.0 w.1) [
    | inl d ↦ (now number).1 (inl ((before number).1 (w.0, d, w.2, w.3)))
    | inr s ↦ (now number).1 (inr (subst (λ (x : NightNumbers). x.number <ℤ first) (sym s) w.2, subst (λ (x : NightNumbers). Contains (numbers_of nights x.number) number) (sym s) w.3))
  ],
)

pub of_entry_all : (nights : List NightNumbers) (first : ℤ) (list : List ℕ) → ((number : ℕ) → Contains list number ↔ IsOfEntry nights first nights number) → (number : ℕ) → Contains list number ↔ IsBefore nights first number
of_entry_all nights first list all number = (
  λ c. (let w = (all number).0 c in (w.0.number, w.2, w.3)),
  λ w.
      let v = entry_of nights w.0 number w.2 in
      (all number).1 (v.0, v.1, subst (λ n. n <ℤ first) (sym v.2) w.1, subst (λ n. Contains (numbers_of nights n) number) (sym v.2) w.2),
)

is_early : (a b : ℤ) → lt_z a b ≡ true → a <ℤ b
is_early a b t = omega (arith, ints, t)

is_late : (a b : ℤ) → lt_z a b ≡ false → ¬ (a <ℤ b)
is_late a b f = λ l. omega (arith, ints, f, l)

-- what is left of the nights
pub cut_gone : (nights : List NightNumbers) (first n : ℤ) → n <ℤ first → numbers_of (filter (isnt_before first) nights) n ≡ []
cut_gone [] first n l = refl
cut_gone (e ∷ nights) first n l =
    (elim (lt_z e.number first) as (λ b. lt_z e.number first ≡ b → numbers_of (cond (not b) (e ∷ filter (isnt_before first) nights) (filter (isnt_before first) nights)) n ≡ []) [
      | true ↦ λ t. cut_gone nights first n l
      | false ↦ λ f. other_numbers e (filter (isnt_before first) nights) n (λ s. is_late e.number first f (subst (λ m. m <ℤ first) (sym s) l)) ∙ cut_gone nights first n l
    ]) refl

pub cut_kept : (nights : List NightNumbers) (first n : ℤ) → ¬ (n <ℤ first) → numbers_of (filter (isnt_before first) nights) n ≡ numbers_of nights n
cut_kept [] first n l = refl
cut_kept (e ∷ nights) first n l =
    (elim (lt_z e.number first) as (λ b. lt_z e.number first ≡ b → numbers_of (cond (not b) (e ∷ filter (isnt_before first) nights) (filter (isnt_before first) nights)) n ≡ numbers_of (e ∷ nights) n) [
      | true ↦ λ t. cut_kept nights first n l ∙ sym (other_numbers e nights n (λ s. l (subst (λ m. m <ℤ first) s (is_early e.number first t))))
      | false ↦ λ f. elim (same_night e.number n) [
        | inl w ↦ own_numbers e (filter (isnt_before first) nights) n w.0 ∙ sym (own_numbers e nights n w.0)
        | inr w ↦ other_numbers e (filter (isnt_before first) nights) n w.0 ∙ (cut_kept nights first n l ∙ sym (other_numbers e nights n w.0))
      ]
    ]) refl

pub of_entry_none : (nights : List NightNumbers) (first : ℤ) (list : List ℕ) → list ≡ [] → (number : ℕ) → Contains list number ↔ IsOfEntry nights first [] number
of_entry_none nights first list e number = (λ c. absurd (in_none number (subst (λ (l : List ℕ). Contains l number) e c)), λ w. absurd (in_none w.0 w.1))

pub extended : (old more new : List ℕ) (night first : ℤ) → new ≡ old ++ more → night <ℤ first → (number : ℕ) → Contains new number ↔ (Contains old number ⊎ ((night <ℤ first) × Contains more number))
extended old more new night first e l number = (
  λ c. elim (Contains-append_cases old more number (subst (λ (list : List ℕ). Contains list number) e c)) [ inl d ↦ inl d | inr d ↦ inr (l, d) ],
  λ w. subst (λ (list : List ℕ). Contains list number) (sym e) (elim w [ inl d ↦ Contains-append_left old more number d | inr v ↦ Contains-append_right old more number v.1 ]),
)
