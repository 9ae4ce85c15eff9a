-- Lists with one element more, or with another one at a place.
use Rattle.std.proofs.Common.{◌≡◌, ℕ, zero, suc, ◌<◌, Some, List, [], ◌∷◌, ◌++◌, inl, inr, length, get_or, refl, sym, subst, ap, ◌∙◌, arith}
use Rattle.std.proofs.lemmas.Bool.{cases_order}
use Rattle.std.proofs.lemmas.List.Elements.{All-from_recursion, All-nil, All-push, recursion_from_All}
use Rattle.std.proofs.lemmas.Bool.Decides.{nat_tests}
use Rattle.std.proofs.lemmas.Option.{get_or_from_slice_get, slice_get-get_or, slice_get_within}
use Rattle.std.proofs.Math.ListN.{set}
use Rattle.std.specs.List.{All, Contains, slice_get}
use Rattle.std.specs.List.Sorted.{IsStrictlySortedBy}
use Rattle.std.specs.Ordering.{nat_cmp}
use Rattle.std.specs.declared.cmp.Ordering.TheVariants.{Less}
use Rattle.closed_sets.specs.Families.{IsSet}
use Rattle.set_grow.proofs.Members.{each_two_cons, each_two_head, each_two_tail, in_front, in_rest}
use Rattle.tracklet_register.specs.Replacing.{AreDifferent}

-- ---- one element more
pub different_push : {X : Type 0} → (xs : List X) (x : X) → AreDifferent xs → ¬ (Contains xs x) → AreDifferent (xs ++ x ∷ [])
different_push [] x a new = λ i j d ij jl. absurd (omega (arith, ij, jl))
different_push {X} (y ∷ ys) x a new =
    let R : X → X → Type 0 = λ one other. one ≡ other → ⊥ in
    let head : All (R y) ys = each_two_head R y ys a in
    let first : All (R y) (ys ++ x ∷ []) = All-push (R y) ys x head (λ e. new (subst (Contains (y ∷ ys)) e (in_front y ys))) in
    each_two_cons R y (ys ++ x ∷ []) first (different_push ys x (each_two_tail R y ys a) (λ c. new (in_rest y ys x c)))

nat_less : (a b : ℕ) → a < b → nat_cmp a b ≡ Less
nat_less a b h = grind (arith, nat_tests)

pub rises_push : (xs : List ℕ) (x : ℕ) → IsSet xs → ((y : ℕ) → Contains xs y → y < x) → IsSet (xs ++ x ∷ [])
unfolding IsStrictlySortedBy
rises_push [] x s below = (recursion_from_All (λ y. nat_cmp x y ≡ Less) [] (All-nil (λ y. nat_cmp x y ≡ Less)), tt)
rises_push (y ∷ ys) x s below =
    let first : All (λ z. nat_cmp y z ≡ Less) (ys ++ x ∷ []) = All-push (λ z. nat_cmp y z ≡ Less) ys x (All-from_recursion (λ z. nat_cmp y z ≡ Less) ys s.0) (nat_less y x (below y (in_front y ys))) in
    (recursion_from_All (λ z. nat_cmp y z ≡ Less) (ys ++ x ∷ []) first, rises_push ys x s.1 (λ z c. below z (in_rest y ys z c)))

-- ---- different elements
pub same_place : {X : Type 0} → (xs : List X) (i j : ℕ) (x : X) → AreDifferent xs → slice_get xs i ≡ Some x → slice_get xs j ≡ Some x → i ≡ j
same_place xs i j x a e f =
    let il = slice_get_within xs i x e in
    let jl = slice_get_within xs j x f in
    let is : get_or xs i x ≡ x = get_or_from_slice_get xs i x x e in
    let js : get_or xs j x ≡ x = get_or_from_slice_get xs j x x f in
    elim (cases_order i j) [
      | inl s ↦ s
      | inr d ↦ elim d [
        | inl l ↦ absurd (a i j x l jl (is ∙ sym js))
        | inr l ↦ absurd (a j i x l il (js ∙ sym is))
      ]
    ]

-- ---- another element at a place
pub get_same : {X : Type 0} → (xs : List X) (i : ℕ) (x : X) → i < length xs → slice_get (set xs i x) i ≡ Some x
get_same [] i x l = absurd (omega (arith, l))
get_same (y ∷ ys) zero x l = refl
get_same (y ∷ ys) (suc i) x l = get_same ys i x (omega (arith, l))

pub get_other : {X : Type 0} → (xs : List X) (i j : ℕ) (x : X) → ¬ (j ≡ i) → slice_get (set xs i x) j ≡ slice_get xs j
get_other [] i j x differ = refl
get_other (y ∷ ys) zero zero x differ = absurd (differ refl)
get_other (y ∷ ys) zero (suc j) x differ = refl
get_other (y ∷ ys) (suc i) zero x differ = refl
get_other (y ∷ ys) (suc i) (suc j) x differ = get_other ys i j x (λ e. differ (ap suc e))

-- ---- a place of an element
pub at_place : {X : Type 0} → (xs : List X) (x : X) → Contains xs x → (i : ℕ) × (slice_get xs i ≡ Some x)
at_place xs x c = (c.0, slice_get-get_or xs c.0 x c.1 ∙ ap (λ y. Some y) c.2)

pub of_place : {X : Type 0} → (xs : List X) (i : ℕ) (x : X) → slice_get xs i ≡ Some x → Contains xs x
of_place xs i x e = (i, slice_get_within xs i x e, get_or_from_slice_get xs i x x e)

-- ---- what stands at a place stands there in a longer list
pub get_longer : {X : Type 0} → (xs ys : List X) (i : ℕ) (x : X) → slice_get xs i ≡ Some x → slice_get (xs ++ ys) i ≡ Some x
get_longer [] ys i x e = (let l = slice_get_within [] i x e in absurd (omega (arith, l)))
get_longer (z ∷ xs) ys zero x e = e
get_longer (z ∷ xs) ys (suc i) x e = get_longer xs ys i x e
