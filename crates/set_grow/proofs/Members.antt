-- Members of lists, what holds of each two elements, and properties that hold or don't of each thing.
use Rattle.std.proofs.Common.{◌≡◌, ◌+◌, ◌≤◌, List, [], ◌∷◌, ◌++◌, length, length-append, get_or, zero, suc, refl, sym, subst, ap, ◌∙◌, arith}
use Rattle.std.proofs.lemmas.List.Elements.{All-nil, All-cons, All-contains, All-head, All-tail, Contains-get_or, Contains-append_left, Contains-append_right, Contains-append_cases}
use Rattle.std.specs.List.{All, Contains}
use mathlib.Core.Logic.{◌⊎◌, inl, inr}
use Rattle.sky_math.specs.Lists.{EachTwo}
use Rattle.sky_units.specs.Tracks.{AreAmong}
pub use Rattle.sky_units.proofs.Members.{front_or_rest, in_front, in_map as in_mapped, in_none, in_rest, of_map as of_mapped}

-- ---- one list among another
pub each_among : {X : Type 0} → (xs ys : List X) → ((x : X) → Contains xs x → Contains ys x) → AreAmong xs ys
each_among xs ys h = λ k d l. h (get_or xs k d) (Contains-get_or xs k d l)

pub among : {X : Type 0} → (xs ys : List X) (x : X) → AreAmong xs ys → Contains xs x → Contains ys x
among xs ys x h c = All-contains (Contains ys) xs x h c

pub among_both : {X : Type 0} → (xs ys zs : List X) → AreAmong xs ys → AreAmong ys zs → AreAmong xs zs
among_both xs ys zs h g = each_among xs zs (λ x c. among ys zs x g (among xs ys x h c))

-- ---- each two
pub each_two_tail : {X : Type 0} (R : X → X → Type 0) (x : X) (xs : List X) → EachTwo R (x ∷ xs) → EachTwo R xs
each_two_tail R x xs h = λ i j d ij jn. h (suc i) (suc j) d (omega arith) (omega arith)

pub each_two_head : {X : Type 0} (R : X → X → Type 0) (x : X) (xs : List X) → EachTwo R (x ∷ xs) → All (R x) xs
each_two_head R x xs h = λ k d kn. h 0 (suc k) d (omega arith) (omega arith)

pub each_two_cons : {X : Type 0} (R : X → X → Type 0) (x : X) (xs : List X) → All (R x) xs → EachTwo R xs → EachTwo R (x ∷ xs)
each_two_cons R x xs first rest zero zero d ij jn = absurd (omega arith)
each_two_cons R x xs first rest zero (suc j) d ij jn = first j d (omega arith)
each_two_cons R x xs first rest (suc i) zero d ij jn = absurd (omega arith)
each_two_cons R x xs first rest (suc i) (suc j) d ij jn = rest i j d (omega arith) (omega arith)

-- ---- it holds or doesn't
abbrev pub IsDecided : Type 0 → Type 0
IsDecided P = P ⊎ (¬ P)

pub reworded : {P Q : Type 0} → (P → Q) → (Q → P) → IsDecided P → IsDecided Q
reworded there back (inl p) = inl (there p)
reworded there back (inr n) = inr (λ q. n (back q))

pub both : {P Q : Type 0} → IsDecided P → IsDecided Q → IsDecided (P × Q)
both (inl p) (inl q) = inl (p, q)
both (inl p) (inr n) = inr (λ w. n w.1)
both (inr n) d = inr (λ w. n w.0)

pub all_or_not : {X : Type 0} → (P : X → Type 0) → ((x : X) → IsDecided (P x)) → (xs : List X) → IsDecided (All P xs)
all_or_not P d [] = inl (All-nil P)
all_or_not P d (x ∷ xs) = reworded (λ h. All-cons P x xs h.0 h.1) (λ h. (All-head P x xs h, All-tail P x xs h)) (both (d x) (all_or_not P d xs))

pub each_two_or_not : {X : Type 0} → (R : X → X → Type 0) → ((x y : X) → IsDecided (R x y)) → (xs : List X) → IsDecided (EachTwo R xs)
each_two_or_not R d [] = inl (λ i j e ij jl. absurd (omega arith))
each_two_or_not R d (x ∷ xs) = reworded (λ h. each_two_cons R x xs h.0 h.1) (λ h. (each_two_head R x xs h, each_two_tail R x xs h)) (both (all_or_not (R x) (d x) xs) (each_two_or_not R d xs))

pub contains_or_not : {X : Type 0} → ((x y : X) → IsDecided (x ≡ y)) → (xs : List X) (x : X) → IsDecided (Contains xs x)
contains_or_not same [] x = inr (in_none x)
contains_or_not same (y ∷ ys) x = elim (same y x) [
  | inl e ↦ inl (subst (Contains (y ∷ ys)) e (in_front y ys))
  | inr differ ↦ elim (contains_or_not same ys x) [
    | inl c ↦ inl (in_rest y ys x c)
    | inr never ↦ inr (λ c. elim (front_or_rest y ys x c) [ inl e ↦ differ e | inr d ↦ never d ])
  ]
]

-- some member of a list has the property, or none
pub some_or_none : {X : Type 0} → (P : X → Type 0) (xs : List X) → ((x : X) → Contains xs x → IsDecided (P x)) → IsDecided ((x : X) × Contains xs x × P x)
some_or_none P [] d = inr (λ w. in_none w.0 w.1)
some_or_none P (x ∷ xs) d = elim (d x (in_front x xs)) [
  | inl p ↦ inl (x, in_front x xs, p)
  | inr never ↦ elim (some_or_none P xs (λ y c. d y (in_rest x xs y c))) [
    | inl w ↦ inl (w.0, in_rest x xs w.0 w.1, w.2)
    | inr none ↦ inr (λ w. elim (front_or_rest x xs w.0 w.1) [ inl e ↦ never (subst P (sym e) w.2) | inr c ↦ none (w.0, c, w.2) ])
  ]
]

-- ---- a list of different things among another one is no longer
around : {X : Type 0} → (xs : List X) (x : X) → Contains xs x → (before : List X) × (after : List X) × (xs ≡ before ++ x ∷ after)
around [] x c = absurd (in_none x c)
around (y ∷ ys) x c = elim (front_or_rest y ys x c) [
  | inl e ↦ ([], ys, ap (λ z. z ∷ ys) e)
  | inr d ↦ (let w = around ys x d in (y ∷ w.0, w.1, ap (λ zs. y ∷ zs) w.2))
]

with_middle : {X : Type 0} → (before after : List X) (x y : X) → Contains (before ++ x ∷ after) y → (x ≡ y) ⊎ Contains (before ++ after) y
with_middle before after x y c = elim (Contains-append_cases before (x ∷ after) y c) [
  | inl d ↦ inr (Contains-append_left before after y d)
  | inr d ↦ elim (front_or_rest x after y d) [ inl e ↦ inl e | inr f ↦ inr (Contains-append_right before after y f) ]
]

pub no_longer : {X : Type 0} → (xs ys : List X) → EachTwo (λ one other. one ≡ other → ⊥) xs → AreAmong xs ys → length xs ≤ length ys
no_longer [] ys d h = omega arith
no_longer {X} (x ∷ xs) ys d h =
    let w = around ys x (among (x ∷ xs) ys x h (in_front x xs)) in
    let differ : All (λ y. x ≡ y → ⊥) xs = each_two_head (λ a b. a ≡ b → ⊥) x xs d in
    let size : length ys ≡ length w.0 + (length w.1 + 1) = ap length w.2 ∙ (length-append w.0 (x ∷ w.1) ∙ omega arith) in
    let size' : length (w.0 ++ w.1) ≡ length w.0 + length w.1 = length-append w.0 w.1 in
    let others : (y : X) → Contains xs y → Contains (w.0 ++ w.1) y = λ y c.
    let here : Contains (w.0 ++ x ∷ w.1) y = subst (λ zs. Contains zs y) w.2 (among (x ∷ xs) ys y h (in_rest x xs y c)) in
    elim (with_middle w.0 w.1 x y here) as (λ _. Contains (w.0 ++ w.1) y) [ inl s ↦ absurd (All-contains (λ z. x ≡ z → ⊥) xs y differ c s) | inr f ↦ f ] in
    let rest : length xs ≤ length (w.0 ++ w.1) = no_longer xs (w.0 ++ w.1) (each_two_tail (λ a b. a ≡ b → ⊥) x xs d) (each_among xs (w.0 ++ w.1) others) in
    omega arith

-- ---- two lists that rise and have the same members are the same
first_before : {X : Type 0} → (R : X → X → Type 0) (x : X) (xs : List X) (y : X) → EachTwo R (x ∷ xs) → Contains xs y → R x y
first_before R x xs y o c = All-contains (R x) xs y (each_two_head R x xs o) c

same_first : {X : Type 0} → (R : X → X → Type 0) → ((x y : X) → R x y → R y x → ⊥) → (one other : X) (ones others : List X) → EachTwo R (one ∷ ones) → EachTwo R (other ∷ others) → Contains (other ∷ others) one → Contains (one ∷ ones) other → one ≡ other
same_first R never one other ones others o p c d = elim (front_or_rest other others one c) [
  | inl e ↦ sym e
  | inr later ↦ elim (front_or_rest one ones other d) [
    | inl e ↦ e
    | inr after ↦ absurd (never one other (first_before R one ones other o after) (first_before R other others one p later))
  ]
]

-- what is in the rest of one is in the rest of the other, where the first is the same
in_other_rest : {X : Type 0} → (R : X → X → Type 0) → ((x y : X) → R x y → R y x → ⊥) → (first : X) (ones others : List X) → EachTwo R (first ∷ ones) → ((x : X) → Contains (first ∷ ones) x → Contains (first ∷ others) x) → (x : X) → Contains ones x → Contains others x
in_other_rest R never first ones others o h x c = elim (front_or_rest first others x (h x (in_rest first ones x c))) [
  | inl e ↦
      let itself : R first first = subst (R first) (sym e) (first_before R first ones x o c) in
      absurd (never first first itself itself)
  | inr d ↦ d
]

pub same_members : {X : Type 0} → (R : X → X → Type 0) → ((x y : X) → R x y → R y x → ⊥) → (ones others : List X) → EachTwo R ones → EachTwo R others → ((x : X) → Contains ones x → Contains others x) → ((x : X) → Contains others x → Contains ones x) → ones ≡ others
same_members R never [] [] o p h g = refl
same_members R never [] (other ∷ others) o p h g = absurd (in_none other (g other (in_front other others)))
same_members R never (one ∷ ones) [] o p h g = absurd (in_none one (h one (in_front one ones)))
same_members {X} R never (one ∷ ones) (other ∷ others) o p h g =
    let first : one ≡ other = same_first R never one other ones others o p (h one (in_front one ones)) (g other (in_front other others)) in
    let p' : EachTwo R (one ∷ others) = subst (λ x. EachTwo R (x ∷ others)) (sym first) p in
    let h' : (x : X) → Contains (one ∷ ones) x → Contains (one ∷ others) x = subst (λ y. (x : X) → Contains (one ∷ ones) x → Contains (y ∷ others) x) (sym first) h in
    let g' : (x : X) → Contains (one ∷ others) x → Contains (one ∷ ones) x = subst (λ y. (x : X) → Contains (y ∷ others) x → Contains (one ∷ ones) x) (sym first) g in
    let rest : ones ≡ others = same_members R never ones others
    (each_two_tail R one ones o)
    (each_two_tail R one others p')
    (in_other_rest R never one ones others o h')
    (in_other_rest R never one others ones p' g') in
    cc
