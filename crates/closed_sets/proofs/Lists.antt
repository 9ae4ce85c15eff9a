-- Members of lists, and lists of different members.
use Rattle.std.proofs.Common.{◌≡◌, ℕ, zero, suc, ◌+◌, ◌<◌, ◌≤◌, ◌==◌, Bool, true, false, not, cond, List, [], ◌∷◌, ◌++◌, ◌⊎◌, inl, inr, length, take, drop, get_or, sym, ◌∙◌, ap, subst, refl, arith, append_assoc, ◌↔◌}
use Rattle.std.specs.List.{Contains, filter}
use Rattle.std.specs.List.Sorted.{IsStrictlySortedBy}
use Rattle.std.specs.Ordering.{nat_cmp}
use Rattle.std.specs.declared.cmp.Ordering.TheVariants.{Less}
use Rattle.std.proofs.lemmas.Bool.{cases_Bool, cases_eq, false≢true}
use Rattle.std.specs.Bool.{Decides}
use Rattle.std.proofs.lemmas.Bool.Decides.{Decides-eqb, Decides-like, Decides-or, nat_tests}
use Rattle.std.proofs.lemmas.List.{take-append-drop, take_more}
use Rattle.std.proofs.lemmas.List.Elements.{All-contains, All-from_recursion, Contains-append_cases, Contains-append_left, Contains-append_right, Contains-get_or}
use Rattle.std.proofs.lemmas.List.Kept.{IsStrictlySortedBy-filter}
use Rattle.sky_units.specs.Tracks.{AreAmong}
use Rattle.closed_sets.specs.Counting.{AreDifferent}
use Rattle.closed_sets.specs.Search.{is_one}
pub use Rattle.sky_units.proofs.Members.{front_or_rest, in_filter, in_front, in_map, in_none, in_rest, of_filter as from_filter, of_map as from_map}

pub empty : {X : Type 0} → (xs : List X) → length xs ≡ 0 → xs ≡ []
empty [] e = refl
empty (x ∷ xs) e = absurd (omega arith)

pub only_one : {X : Type 0} → (x y : X) → Contains (x ∷ []) y → x ≡ y
only_one x y c = elim (front_or_rest x [] y c) [ inl e ↦ e | inr d ↦ absurd (in_none y d) ]

-- a number is in a list or isn't
pub in_or_not : (xs : List ℕ) (x : ℕ) → Contains xs x ⊎ (¬ Contains xs x)
in_or_not [] x = inr (in_none x)
in_or_not (y ∷ ys) x = elim (cases_eq y x) [
  | inl e ↦ inl (subst (Contains (y ∷ ys)) e (in_front y ys))
  | inr differ ↦ elim (in_or_not ys x) [
    | inl c ↦ inl (in_rest y ys x c)
    | inr never ↦ inr (λ c. elim (front_or_rest y ys x c) [ inl e ↦ differ e | inr d ↦ never d ])
  ]
]

-- one list has a number that another lacks, or all its numbers are there
pub outside_or_in : (xs ys : List ℕ) → ((x : ℕ) × Contains xs x × (¬ Contains ys x)) ⊎ ((x : ℕ) → Contains xs x → Contains ys x)
outside_or_in [] ys = inr (λ x c. absurd (in_none x c))
outside_or_in (x ∷ xs) ys = elim (in_or_not ys x) [
  | inr new ↦ inl (x, in_front x xs, new)
  | inl here ↦ elim (outside_or_in xs ys) [
    | inl w ↦ inl (w.0, in_rest x xs w.0 w.1, w.2)
    | inr h ↦ inr (λ y c. elim (front_or_rest x xs y c) [ inl e ↦ subst (Contains ys) e here | inr d ↦ h y d ])
  ]
]

-- two lists have a number in common, or none
pub common_or_none : (xs ys : List ℕ) → ((x : ℕ) × Contains xs x × Contains ys x) ⊎ ((x : ℕ) → Contains xs x → ¬ Contains ys x)
common_or_none [] ys = inr (λ x c. absurd (in_none x c))
common_or_none (x ∷ xs) ys = elim (in_or_not ys x) [
  | inl here ↦ inl (x, in_front x xs, here)
  | inr new ↦ elim (common_or_none xs ys) [
    | inl w ↦ inl (w.0, in_rest x xs w.0 w.1, w.2)
    | inr h ↦ inr (λ y c d. elim (front_or_rest x xs y c) [ inl e ↦ new (subst (Contains ys) (sym e) d) | inr k ↦ h y k d ])
  ]
]

-- ---- all of one list in another
pub among : {X : Type 0} → (xs ys : List X) → ((x : X) → Contains xs x → Contains ys x) → AreAmong xs ys
among xs ys h = λ k d l. h (get_or xs k d) (Contains-get_or xs k d l)

pub in_whole : {X : Type 0} → (xs ys : List X) (x : X) → AreAmong xs ys → Contains xs x → Contains ys x
in_whole xs ys x a c = All-contains (Contains ys) xs x a c

pub among_trans : {X : Type 0} → (xs ys zs : List X) → AreAmong xs ys → AreAmong ys zs → AreAmong xs zs
among_trans xs ys zs a b = among xs zs (λ x c. in_whole ys zs x b (in_whole xs ys x a c))

pub among_cons : {X : Type 0} → (x : X) (xs ys : List X) → Contains ys x → AreAmong xs ys → AreAmong (x ∷ xs) ys
among_cons x xs ys c a = among (x ∷ xs) ys (λ y d. elim (front_or_rest x xs y d) [ inl e ↦ subst (Contains ys) e c | inr k ↦ in_whole xs ys y a k ])

pub among_self : {X : Type 0} → (xs : List X) → AreAmong xs xs
among_self xs = among xs xs (λ x c. c)

pub among_none : {X : Type 0} → (ys : List X) → AreAmong [] ys
among_none ys = among [] ys (λ x c. absurd (in_none x c))

-- ---- filters
-- a member of a map, and what it comes from
-- ---- a list at one of its places
pub split_at_place : {X : Type 0} → (xs : List X) (i : ℕ) (d : X) → i < length xs → xs ≡ take i xs ++ get_or xs i d ∷ drop (i + 1) xs
split_at_place xs i d l = sym (take-append-drop (i + 1) xs) ∙ (ap (λ ys. ys ++ drop (i + 1) xs) (take_more xs i d l) ∙ append_assoc (take i xs) (get_or xs i d ∷ []) (drop (i + 1) xs))

-- ---- different members
pub different_append : {X : Type 0} → (xs ys : List X) → AreDifferent xs → AreDifferent ys → ((x : X) → Contains xs x → ¬ Contains ys x) → AreDifferent (xs ++ ys)
different_append [] ys a b apart = b
different_append (x ∷ xs) ys a b apart = (
  λ c. elim (Contains-append_cases xs ys x c) [ inl d ↦ a.0 d | inr d ↦ apart x (in_front x xs) d ],
  different_append xs ys a.1 b (λ y c. apart y (in_rest x xs y c)),
)

pub different_push : {X : Type 0} → (xs : List X) (x : X) → AreDifferent xs → (¬ Contains xs x) → AreDifferent (xs ++ x ∷ [])
different_push xs x a new = different_append xs (x ∷ []) a (in_none x, tt) (λ y c d. new (subst (Contains xs) (sym (only_one x y d)) c))

pub different_left : {X : Type 0} → (xs ys : List X) → AreDifferent (xs ++ ys) → AreDifferent xs
different_left [] ys h = tt
different_left (x ∷ xs) ys h = (λ c. h.0 (Contains-append_left xs ys x c), different_left xs ys h.1)

pub different_right : {X : Type 0} → (xs ys : List X) → AreDifferent (xs ++ ys) → AreDifferent ys
different_right [] ys h = h
different_right (x ∷ xs) ys h = different_right xs ys h.1

pub different_apart : {X : Type 0} → (xs ys : List X) → AreDifferent (xs ++ ys) → (x : X) → Contains xs x → ¬ Contains ys x
different_apart [] ys h x c = absurd (in_none x c)
different_apart (y ∷ xs) ys h x c = elim (front_or_rest y xs x c) [
  | inl e ↦ λ d. h.0 (Contains-append_right xs ys y (subst (Contains ys) (sym e) d))
  | inr k ↦ different_apart xs ys h.1 x k
]

pub few_filter : {X : Type 0} → (p : X → Bool) (xs : List X) → length (filter p xs) ≤ length xs
few_filter p [] = omega arith
few_filter p (x ∷ xs) =
    let few = few_filter p xs in
    elim (p x) as (λ b. length (cond b (x ∷ filter p xs) (filter p xs)) ≤ length (x ∷ xs)) [ true ↦ omega arith | false ↦ omega arith ]

pub different_filter : {X : Type 0} → (p : X → Bool) (xs : List X) → AreDifferent xs → AreDifferent (filter p xs)
different_filter p [] d = tt
different_filter p (x ∷ xs) d = elim (p x) as (λ b. AreDifferent (cond b (x ∷ filter p xs) (filter p xs))) [
  | true ↦ (λ c. d.0 (from_filter p xs x c).0, different_filter p xs d.1)
  | false ↦ different_filter p xs d.1
]

-- ---- different members of one list that are all in another are no more than its members
without : {X : Type 0} → (ys : List X) (x : X) → Contains ys x → (zs : List X) × (length ys ≡ suc (length zs)) × ((y : X) → Contains ys y → (x ≡ y) ⊎ Contains zs y)
without [] x c = absurd (in_none x c)
without (y ∷ ys) x c = elim (front_or_rest y ys x c) [
  | inl e ↦ (ys, refl, λ z d. elim (front_or_rest y ys z d) [ inl f ↦ inl (sym e ∙ f) | inr k ↦ inr k ])
  | inr k ↦ (
      let w = without ys x k in (
        y ∷ w.0,
        ap suc w.1,
        λ z d. elim (front_or_rest y ys z d) [
          | inl f ↦ inr (subst (Contains (y ∷ w.0)) f (in_front y w.0))
          | inr m ↦ elim (w.2 z m) [ inl g ↦ inl g | inr n ↦ inr (in_rest y w.0 z n) ]
        ],
      ))
]

pub no_longer : {X : Type 0} → (xs ys : List X) → AreDifferent xs → ((x : X) → Contains xs x → Contains ys x) → length xs ≤ length ys
no_longer [] ys d h = omega arith
no_longer (x ∷ xs) ys d h =
    let w = without ys x (h x (in_front x xs)) in
    let size : length ys ≡ suc (length w.0) = w.1 in
    let rest : length xs ≤ length w.0 = no_longer xs w.0 d.1 (λ y c. elim (w.2 y (h y (in_rest x xs y c))) [ inl e ↦ absurd (d.0 (subst (Contains xs) (sym e) c)) | inr k ↦ k ]) in
    omega arith

-- the members of a set are different
less_than : (x y : ℕ) → nat_cmp x y ≡ Less → x < y
less_than x y h = grind (arith, nat_tests)

pub first_least : (x : ℕ) (xs : List ℕ) (y : ℕ) → IsStrictlySortedBy nat_cmp (x ∷ xs) → Contains xs y → x < y
unfolding IsStrictlySortedBy
first_least x xs y h c = less_than x y (All-contains (λ z. nat_cmp x z ≡ Less) xs y (All-from_recursion (λ z. nat_cmp x z ≡ Less) xs h.0) c)

pub rest_is_set : (x : ℕ) (xs : List ℕ) → IsStrictlySortedBy nat_cmp (x ∷ xs) → IsStrictlySortedBy nat_cmp xs
unfolding IsStrictlySortedBy
rest_is_set x xs h = h.1

pub one_is_set : (x : ℕ) → IsStrictlySortedBy nat_cmp (x ∷ [])
unfolding IsStrictlySortedBy
one_is_set x = (tt, tt)

pub different_set : (xs : List ℕ) → IsStrictlySortedBy nat_cmp xs → AreDifferent xs
different_set [] h = tt
different_set (x ∷ xs) h = (
  λ c. (let less : x < x = first_least x xs x h c in omega arith),
  different_set xs (rest_is_set x xs h),
)

-- sets with the same members are the same
pub same_sets : (xs ys : List ℕ) → IsStrictlySortedBy nat_cmp xs → IsStrictlySortedBy nat_cmp ys → ((x : ℕ) → Contains xs x → Contains ys x) → ((x : ℕ) → Contains ys x → Contains xs x) → xs ≡ ys
same_sets [] [] h k to from = refl
same_sets [] (y ∷ ys) h k to from = absurd (in_none y (from y (in_front y ys)))
same_sets (x ∷ xs) [] h k to from = absurd (in_none x (to x (in_front x xs)))
same_sets (x ∷ xs) (y ∷ ys) h k to from =
    let first : x ≡ y = same_first x y xs ys h k (to x (in_front x xs)) (from y (in_front y ys)) in
    let rest : xs ≡ ys = same_sets xs ys (rest_is_set x xs h) (rest_is_set y ys k)
    (λ z c. in_other_rest x y xs ys z first h c (to z (in_rest x xs z c)))
    (λ z c. in_other_rest y x ys xs z (sym first) k c (from z (in_rest y ys z c))) in
    cc
  where
    same_first : (x y : ℕ) (xs ys : List ℕ) → IsStrictlySortedBy nat_cmp (x ∷ xs) → IsStrictlySortedBy nat_cmp (y ∷ ys) → Contains (y ∷ ys) x → Contains (x ∷ xs) y → x ≡ y
    same_first x y xs ys h k c d = elim (front_or_rest y ys x c) [
      | inl e ↦ sym e
      | inr later ↦ elim (front_or_rest x xs y d) [
        | inl e ↦ e
        | inr after ↦
            let one : x < y = first_least x xs y h after in
            let other : y < x = first_least y ys x k later in
            absurd (omega arith)
      ]
    ]

    in_other_rest : (x y : ℕ) (xs ys : List ℕ) (z : ℕ) → x ≡ y → IsStrictlySortedBy nat_cmp (x ∷ xs) → Contains xs z → Contains (y ∷ ys) z → Contains ys z
    in_other_rest x y xs ys z first h c d = elim (front_or_rest y ys z d) [
      | inl e ↦
          let less : x < z = first_least x xs z h c in
          absurd (omega arith)
      | inr k ↦ k
    ]

-- the first members are among more of them
pub in_longer : {X : Type 0} → (m n : ℕ) (xs : List X) (x : X) → m ≤ n → Contains (take m xs) x → Contains (take n xs) x
in_longer zero n xs x h c = absurd (in_none x c)
in_longer (suc m) zero xs x h c = absurd (omega arith)
in_longer (suc m) (suc n) [] x h c = c
in_longer (suc m) (suc n) (y ∷ ys) x h c = elim (front_or_rest y (take m ys) x c) [
  | inl e ↦ subst (Contains (y ∷ take n ys)) e (in_front y (take n ys))
  | inr d ↦ in_rest y (take n ys) x (in_longer m n ys x (omega arith) d)
]

pub in_taken : {X : Type 0} → (n : ℕ) (xs : List X) (x : X) → Contains (take n xs) x → Contains xs x
in_taken n xs x c = subst (λ ys. Contains ys x) (take-append-drop n xs) (Contains-append_left (take n xs) (drop n xs) x c)

pub in_dropped : {X : Type 0} → (n : ℕ) (xs : List X) (x : X) → Contains (drop n xs) x → Contains xs x
in_dropped n xs x c = subst (λ ys. Contains ys x) (take-append-drop n xs) (Contains-append_right (take n xs) (drop n xs) x c)

pub taken_or_dropped : {X : Type 0} → (n : ℕ) (xs : List X) (x : X) → Contains xs x → Contains (take n xs) x ⊎ Contains (drop n xs) x
taken_or_dropped n xs x c = Contains-append_cases (take n xs) (drop n xs) x (subst (λ ys. Contains ys x) (sym (take-append-drop n xs)) c)

pub taken_apart : {X : Type 0} → (n : ℕ) (xs : List X) → AreDifferent xs → (x : X) → Contains (take n xs) x → ¬ Contains (drop n xs) x
taken_apart n xs d x c = different_apart (take n xs) (drop n xs) (subst AreDifferent (sym (take-append-drop n xs)) d) x c

-- ---- the members of a whole that are in a list
is_in : List ℕ → ℕ → Bool
is_in xs x = elim (in_or_not xs x) [ inl c ↦ true | inr never ↦ false ]

is_in_says : (xs : List ℕ) (x : ℕ) → (is_in xs x ≡ true) ↔ Contains xs x
unfolding is_in
is_in_says xs x = elim (in_or_not xs x) as (λ w. (elim w [ inl c ↦ true | inr never ↦ false ] ≡ true) ↔ Contains xs x) [
  | inl c ↦ (λ e. c, λ d. refl)
  | inr never ↦ (λ e. absurd (cc), λ d. absurd (never d))
]

-- the members of a whole that are in a list
pub part_of : List ℕ → List ℕ → List ℕ
part_of xs whole = filter (is_in xs) whole

pub in_part : (xs whole : List ℕ) → AreAmong xs whole → (x : ℕ) → Contains (part_of xs whole) x ↔ Contains xs x
unfolding part_of
in_part xs whole a x = (
  λ c. (is_in_says xs x).0 (from_filter (is_in xs) whole x c).1,
  λ c. in_filter (is_in xs) whole x (in_whole xs whole x a c) ((is_in_says xs x).1 c),
)

pub part_is_set : (xs whole : List ℕ) → IsStrictlySortedBy nat_cmp whole → IsStrictlySortedBy nat_cmp (part_of xs whole)
unfolding part_of
part_is_set xs whole s = IsStrictlySortedBy-filter nat_cmp (is_in xs) whole s

-- ---- the test of membership
pub one_of : (numbers : List ℕ) (x : ℕ) → Decides (is_one numbers x) (Contains numbers x)
one_of [] x = (λ e. absurd (cc), λ c. absurd (in_none x c))
one_of (y ∷ ys) x = Decides-like (is_one (y ∷ ys) x)
    (λ w. elim w [ inl e ↦ subst (Contains (y ∷ ys)) e (in_front y ys) | inr c ↦ in_rest y ys x c ])
    (λ c. front_or_rest y ys x c)
    (Decides-or (y == x) (is_one ys x) (Decides-eqb y x) (one_of ys x))

pub not_one : (numbers : List ℕ) (x : ℕ) → (not (is_one numbers x) ≡ true) ↔ (¬ Contains numbers x)
not_one numbers x = elim (cases_Bool (is_one numbers x)) [
  | inl t ↦ (λ e. absurd (false≢true (subst (λ (b : Bool). not b ≡ true) t e)), λ n. absurd (n ((one_of numbers x).0 t)))
  | inr f ↦ (λ e c. false≢true (sym f ∙ (one_of numbers x).1 c), λ n. subst (λ (b : Bool). not b ≡ true) (sym f) refl)
]
