-- Lists of items: members, what is left without some, and sets with the same members.
use Rattle.std.proofs.Common.{◌≡◌, ℕ, ◌+◌, ◌<◌, ◌≤◌, ◌==◌, Bool, true, false, not, cond, List, [], ◌∷◌, length, get_or, refl, sym, subst, ap, ap₂, ◌∙◌, add-one, arith, Result, Ok, Err}
use Rattle.std.specs.Bool.{Decides}
use Rattle.std.specs.List.{Contains, filter}
use Rattle.std.specs.List.Sorted.{IsBinarySearchResult, IsStrictlySortedBy}
use Rattle.std.specs.Result.{is_ok}
use Rattle.std.proofs.lemmas.List.{get_or_default}
use Rattle.std.proofs.lemmas.List.Sorted.{searched}
use Rattle.std.specs.Ordering.{nat_cmp}
use Rattle.std.proofs.lemmas.Bool.{cases_Bool, cases_eq, cases_lt}
use Rattle.std.proofs.lemmas.Bool.Decides.{Decides-eqb, Decides-like, Decides-or}
use Rattle.std.proofs.lemmas.List.Elements.{All-contains, Contains-get_or}
use Rattle.std.proofs.lemmas.List.Kept.{IsStrictlySortedBy-filter}
use Rattle.std.proofs.lemmas.Map.Keys.{below_from_sorted, non_decreasing_from_sorted, sorted_tail}
use mathlib.Core.Logic.{◌⊎◌, inl, inr}
use Rattle.closed_sets.specs.Families.{IsSet}
use Rattle.sky_units.specs.Tracks.{AreAmong}
use Rattle.kept_sets.specs.Lists.{HoldsOne, is_one, less}
pub use Rattle.sky_units.proofs.Members.{front_or_rest, in_filter, in_front, in_map, in_none, in_rest, of_filter, of_map}

module _ {X : Type 0} (p : X → Bool) where
  -- a test that every element passes
  pub filter_all : (xs : List X) → ((x : X) → Contains xs x → p x ≡ true) → filter p xs ≡ xs
  filter_all [] h = refl
  filter_all (x ∷ xs) h =
      ap (λ b. cond b (x ∷ filter p xs) (filter p xs)) (h x (in_front x xs)) ∙ ap (λ ys. x ∷ ys) (filter_all xs (λ y c. h y (in_rest x xs y c)))

-- ---- all of one list among another
pub among : (xs ys : List ℕ) → ((x : ℕ) → Contains xs x → Contains ys x) → AreAmong xs ys
among xs ys h = λ k d l. h (get_or xs k d) (Contains-get_or xs k d l)

pub member : (xs ys : List ℕ) → AreAmong xs ys → (x : ℕ) → Contains xs x → Contains ys x
member xs ys a x c = All-contains (Contains ys) xs x a c

pub among_itself : (xs : List ℕ) → AreAmong xs xs
among_itself xs = among xs xs (λ x c. c)

pub among_then : (xs ys zs : List ℕ) → AreAmong xs ys → AreAmong ys zs → AreAmong xs zs
among_then xs ys zs a b = among xs zs (λ x c. member ys zs b x (member xs ys a x c))

-- ---- decisions
pub one_of : (items : List ℕ) (item : ℕ) → Decides (is_one items item) (Contains items item)
one_of [] item = (λ e. absurd (cc), λ c. absurd (in_none item c))
one_of (x ∷ xs) item = Decides-like (is_one (x ∷ xs) item)
    (λ w. elim w [ inl e ↦ subst (Contains (x ∷ xs)) e (in_front x xs) | inr c ↦ in_rest x xs item c ])
    (λ c. front_or_rest x xs item c)
    (Decides-or (x == item) (is_one xs item) (Decides-eqb x item) (one_of xs item))

pub in_or_not : (items : List ℕ) (item : ℕ) → Contains items item ⊎ (Contains items item → ⊥)
in_or_not items item = elim (cases_Bool (is_one items item)) [
  | inl t ↦ inl ((one_of items item).0 t)
  | inr f ↦ inr (λ c. let t = (one_of items item).1 c in absurd (cc))
]

pub among_or_not : (xs ys : List ℕ) → AreAmong xs ys ⊎ ((x : ℕ) × Contains xs x × (Contains ys x → ⊥))
among_or_not [] ys = inl (among [] ys (λ x c. absurd (in_none x c)))
among_or_not (x ∷ xs) ys = elim (in_or_not ys x) [
  | inr n ↦ inr (x, in_front x xs, n)
  | inl here ↦ elim (among_or_not xs ys) [
    | inr w ↦ inr (w.0, in_rest x xs w.0 w.1, w.2)
    | inl a ↦ inl (among (x ∷ xs) ys (λ y c. elim (front_or_rest x xs y c) [ inl e ↦ subst (Contains ys) e here | inr d ↦ member xs ys a y d ]))
  ]
]

pub holds_or_not : (items set : List ℕ) → HoldsOne items set ⊎ (HoldsOne items set → ⊥)
holds_or_not items [] = inr (λ w. in_none w.0 w.2)
holds_or_not items (x ∷ xs) = elim (in_or_not items x) [
  | inl c ↦ inl (x, c, in_front x xs)
  | inr n ↦ elim (holds_or_not items xs) [
    | inl w ↦ inl (w.0, w.1, in_rest x xs w.0 w.2)
    | inr m ↦ inr (λ w. elim (front_or_rest x xs w.0 w.2) [ inl e ↦ n (subst (Contains items) (sym e) w.1) | inr d ↦ m (w.0, w.1, d) ])
  ]
]

pub same_or_not : (xs ys : List ℕ) → (xs ≡ ys) ⊎ (xs ≡ ys → ⊥)
same_or_not [] [] = inl refl
same_or_not [] (y ∷ ys) = inr (λ e. absurd (cc))
same_or_not (x ∷ xs) [] = inr (λ e. absurd (cc))
same_or_not (x ∷ xs) (y ∷ ys) = elim (cases_eq x y) [
  | inr n ↦ inr (λ e. let head : x ≡ y = cc in n head)
  | inl h ↦ elim (same_or_not xs ys) [
    | inl t ↦ inl (ap₂ (λ z zs. z ∷ zs) h t)
    | inr n ↦ inr (λ e. let tail : xs ≡ ys = cc in n tail)
  ]
]

pub listed_or_not : (sets : List (List ℕ)) (set : List ℕ) → Contains sets set ⊎ (Contains sets set → ⊥)
listed_or_not [] set = inr (in_none set)
listed_or_not (x ∷ xs) set = elim (same_or_not x set) [
  | inl e ↦ inl (subst (Contains (x ∷ xs)) e (in_front x xs))
  | inr n ↦ elim (listed_or_not xs set) [
    | inl c ↦ inl (in_rest x xs set c)
    | inr m ↦ inr (λ c. elim (front_or_rest x xs set c) [ inl e ↦ n e | inr d ↦ m d ])
  ]
]

-- ---- a set without some items
pub not_true : (b : Bool) → not b ≡ true → b ≡ true → ⊥
not_true true e t = absurd (cc)
not_true false e t = absurd (cc)

pub not_false : (b : Bool) → (b ≡ true → ⊥) → not b ≡ true
not_false true n = absurd (n refl)
not_false false n = refl

pub of_less : (items set : List ℕ) (item : ℕ) → Contains (less items set) item → Contains set item × (Contains items item → ⊥)
unfolding less
of_less items set item c =
    let w = of_filter (λ x. not (is_one items x)) set item c in
    (w.0, λ d. not_true (is_one items item) w.1 ((one_of items item).1 d))

pub in_less : (items set : List ℕ) (item : ℕ) → Contains set item → (Contains items item → ⊥) → Contains (less items set) item
unfolding less
in_less items set item c n = in_filter (λ x. not (is_one items x)) set item c (not_false (is_one items item) (λ t. n ((one_of items item).0 t)))

pub less_among : (items set : List ℕ) → AreAmong (less items set) set
less_among items set = among (less items set) set (λ x c. (of_less items set x c).0)

-- what lies in a set and holds none of some items lies in the set without them
pub among_less : (items part set : List ℕ) → AreAmong part set → (HoldsOne items part → ⊥) → AreAmong part (less items set)
among_less items part set a n = among part (less items set) (λ x c. in_less items set x (member part set a x c) (λ d. n (x, d, c)))

pub less_same : (items set : List ℕ) → (HoldsOne items set → ⊥) → less items set ≡ set
unfolding less
less_same items set n = filter_all (λ x. not (is_one items x)) set (λ x c. not_false (is_one items x) (λ t. n (x, (one_of items x).0 t, c)))

pub less_is_set : (items set : List ℕ) → IsSet set → IsSet (less items set)
unfolding less
less_is_set items set s = IsStrictlySortedBy-filter nat_cmp (λ x. not (is_one items x)) set s

-- ---- sets
pub no_items : IsSet []
unfolding IsStrictlySortedBy
no_items = tt

pub behind_first : (x : ℕ) (xs : List ℕ) (y : ℕ) → IsSet (x ∷ xs) → Contains xs y → x < y
behind_first x xs y s c =
    let below = below_from_sorted (x ∷ xs) 0 (c.0 + 1) y s (omega arith) (let l = c.1 in omega arith) in
    let there : get_or (x ∷ xs) (c.0 + 1) y ≡ y = rw add-one c.2 in
    subst (λ z. x < z) there below

module _ (x y : ℕ) (xs ys : List ℕ) where
  -- behind a first item that both sets have
  tails : IsSet (x ∷ xs) → IsSet (y ∷ ys) → x ≡ y → AreAmong (x ∷ xs) (y ∷ ys) → AreAmong xs ys
  tails s t e a = among xs ys (λ z c. elim (front_or_rest y ys z (member (x ∷ xs) (y ∷ ys) a z (in_rest x xs z c))) [
    | inl f ↦ (let l = behind_first x xs z s c in absurd (omega arith))
    | inr d ↦ d
  ])

  -- where the first items differ, all of one set lies behind the first of the other
  behind : IsSet (x ∷ xs) → IsSet (y ∷ ys) → (x ≡ y → ⊥) → AreAmong (x ∷ xs) (y ∷ ys) → AreAmong (x ∷ xs) ys
  behind s t n a =
      let first : Contains ys x = elim (front_or_rest y ys x (member (x ∷ xs) (y ∷ ys) a x (in_front x xs))) [ inl e ↦ absurd (n (sym e)) | inr d ↦ d ] in
      let above : y < x = behind_first y ys x t first in
      among (x ∷ xs) ys (λ z c. elim (front_or_rest y ys z (member (x ∷ xs) (y ∷ ys) a z c)) [
        | inr d ↦ d
        | inl f ↦ elim (front_or_rest x xs z c) [
          | inl e ↦ subst (Contains ys) e first
          | inr d ↦ (let l = behind_first x xs z s d in absurd (omega arith))
        ]
      ])

pub at_least : (ys xs : List ℕ) → IsSet xs → IsSet ys → AreAmong xs ys → length xs ≤ length ys
at_least [] [] s t a = omega arith
at_least [] (x ∷ xs) s t a = absurd (in_none x (member (x ∷ xs) [] a x (in_front x xs)))
at_least (y ∷ ys) [] s t a = omega arith
at_least (y ∷ ys) (x ∷ xs) s t a = elim (cases_eq x y) [
  | inl e ↦ (let l = at_least ys xs (sorted_tail nat_cmp x xs s) (sorted_tail nat_cmp y ys t) (tails x y xs ys s t e a) in omega arith)
  | inr n ↦ (let l = at_least ys (x ∷ xs) s (sorted_tail nat_cmp y ys t) (behind x y xs ys s t n a) in omega arith)
]

pub same_sets : (xs ys : List ℕ) → IsSet xs → IsSet ys → AreAmong xs ys → AreAmong ys xs → xs ≡ ys
same_sets [] [] s t a b = refl
same_sets [] (y ∷ ys) s t a b = absurd (in_none y (member (y ∷ ys) [] b y (in_front y ys)))
same_sets (x ∷ xs) [] s t a b = absurd (in_none x (member (x ∷ xs) [] a x (in_front x xs)))
same_sets (x ∷ xs) (y ∷ ys) s t a b = elim (cases_eq x y) [
  | inl e ↦ ap₂ (λ z zs. z ∷ zs) e (same_sets xs ys (sorted_tail nat_cmp x xs s) (sorted_tail nat_cmp y ys t) (tails x y xs ys s t e a) (tails y x ys xs t s (sym e) b))
  | inr n ↦ absurd (
      let c = member (x ∷ xs) ys (behind x y xs ys s t n a) x (in_front x xs) in
      let l = behind_first y ys x t c in
      let d = member (y ∷ ys) xs (behind y x ys xs t s (λ e. n (sym e)) b) y (in_front y ys) in
      let k = behind_first x xs y s d in
      let never : ⊥ = omega arith in never
      )
]

-- ---- how many items a set lacks
module _ (p q : ℕ → Bool) (passes : (x : ℕ) → p x ≡ true → q x ≡ true) where
  fewer_or_same : (xs : List ℕ) → length (filter p xs) ≤ length (filter q xs)
  fewer_or_same [] = omega arith
  fewer_or_same (x ∷ xs) = elim (cases_Bool (p x)) [
    | inl t ↦ (let l = fewer_or_same xs in rw (t, passes x t) (omega arith))
    | inr f ↦ elim (cases_Bool (q x)) [
      | inl t ↦ (let l = fewer_or_same xs in rw (f, t) (omega arith))
      | inr g ↦ rw (f, g) (fewer_or_same xs)
    ]
  ]

  fewer : (xs : List ℕ) (y : ℕ) → Contains xs y → p y ≡ false → q y ≡ true → length (filter p xs) < length (filter q xs)
  fewer [] y c f t = absurd (in_none y c)
  fewer (x ∷ xs) y c f t = elim (front_or_rest x xs y c) [
    | inl e ↦
        let here : p x ≡ false = subst (λ z. p z ≡ false) (sym e) f in
        let there : q x ≡ true = subst (λ z. q z ≡ true) (sym e) t in
        let l = fewer_or_same xs in rw (here, there) (omega arith)
    | inr d ↦ (let l = fewer xs y d f t in elim (cases_Bool (p x)) [
      | inl g ↦ rw (g, passes x g) (omega arith)
      | inr g ↦ elim (cases_Bool (q x)) [ inl h ↦ rw (g, h) (omega arith) | inr h ↦ rw (g, h) l ]
    ])
  ]

not_is : (b : Bool) → b ≡ true → not b ≡ false
not_is b e = ap not e

pub lacks_fewer : (items small large : List ℕ) (item : ℕ) → AreAmong small large → Contains items item → Contains large item → (Contains small item → ⊥) → length (less large items) < length (less small items)
unfolding less
lacks_fewer items small large item a c l n = fewer (λ x. not (is_one large x)) (λ x. not (is_one small x))
    (λ x t. not_false (is_one small x) (λ s. not_true (is_one large x) t ((one_of large x).1 (member small large a x ((one_of small x).0 s)))))
    items item c
    (not_is (is_one large item) ((one_of large item).1 l))
    (not_false (is_one small item) (λ s. n ((one_of small item).0 s)))

-- ---- a search among rising items
pub search_is : (items : List ℕ) (item : ℕ) (found : Result ℕ ℕ) → IsSet items → IsBinarySearchResult (λ y. nat_cmp y item) items found → is_ok found ≡ is_one items item
search_is items item (Ok place) s r =
    let w = searched items item (Ok place) r (λ i j ij l. non_decreasing_from_sorted items s i j 0 ij l) in
    sym ((one_of items item).1 (place, w.0, get_or_default items place item 0 w.0 ∙ w.1))
search_is items item (Err place) s r =
    let w = searched items item (Err place) r (λ i j ij l. non_decreasing_from_sorted items s i j 0 ij l) in
    elim (cases_Bool (is_one items item)) [
      | inr f ↦ sym f
      | inl t ↦
          let c = (one_of items item).0 t in
          let e : get_or items c.0 0 ≡ item = get_or_default items c.0 0 item c.1 ∙ c.2 in
          elim (cases_lt c.0 place) [
            | inl l ↦ (let below = w.1 c.0 l in absurd (omega arith))
            | inr l ↦ (let above = w.2 c.0 l c.1 in absurd (omega arith))
          ]
    ]
