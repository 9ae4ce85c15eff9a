-- Strictly sorted lists: when two are the same, and lists of tuples in lexicographic order.
use Rattle.std.proofs.Common.{◌≡◌, ℕ, zero, suc, ◌+◌, ◌<◌, ◌≤◌, Bool, true, false, cond, List, [], ◌∷◌, ◌++◌, ◌⊎◌, inl, inr, map, sym, ◌∙◌, ap, subst, refl, arith}
use Rattle.std.specs.Cmp.{IsTotalOrder}
use Rattle.std.specs.List.{All, Contains, filter, flat_map, range_with_len}
use Rattle.std.specs.List.Sorted.{IsStrictlySortedBy}
use Rattle.std.specs.Ordering.{nat_cmp, ordering_reverse}
use Rattle.std.specs.declared.cmp.Ordering.{Ordering}
use Rattle.std.specs.declared.cmp.Ordering.TheVariants.{Less, Equal, Greater}
use Rattle.std.proofs.lemmas.Bool.{cases_order}
use Rattle.std.proofs.lemmas.Bool.Decides.{nat_tests}
use Rattle.std.proofs.lemmas.List.Elements.{All-nil, All-cons, All-head, All-tail, All-append, All-contains, All-from_recursion, All-map, All-weaker, Contains-append_cases, Contains-append_left, Contains-append_right, Contains-push, Contains-push_cases, recursion_from_All}
pub use Rattle.sky_units.proofs.Members.{front_or_rest, in_filter, in_front, in_map, in_none, in_rest}

pub in_flat_map : {X Y : Type 0} (f : X → List Y) (xs : List X) (x : X) (y : Y) → Contains xs x → Contains (f x) y → Contains (flat_map f xs) y
in_flat_map f [] x y c h = absurd (in_none x c)
in_flat_map f (z ∷ zs) x y c h = elim (front_or_rest z zs x c) [
  | inl e ↦ Contains-append_left (f z) (flat_map f zs) y (subst (λ w. Contains (f w) y) (sym e) h)
  | inr d ↦ Contains-append_right (f z) (flat_map f zs) y (in_flat_map f zs x y d h)
]

at_or_above : (a x : ℕ) → a ≤ x → (a ≡ x) ⊎ (a < x)
at_or_above a x low = elim (cases_order a x) [ inl e ↦ inl e | inr h ↦ elim h [ inl less ↦ inr less | inr more ↦ absurd (omega arith) ] ]

pub in_range : (a n x : ℕ) → a ≤ x → x < a + n → Contains (range_with_len a n) x
in_range a zero x low high = absurd (omega arith)
in_range a (suc n) x low high = elim (at_or_above a x low) [
  | inl e ↦ subst (Contains (a ∷ range_with_len (a + 1) n)) e (in_front a (range_with_len (a + 1) n))
  | inr above ↦ in_rest a (range_with_len (a + 1) n) x (in_range (a + 1) n x (omega arith) (omega arith))
]

pub nat_less : (a b : ℕ) → a < b → nat_cmp a b ≡ Less
nat_less a b h = grind (arith, nat_tests)

pub nat_same : (a : ℕ) → nat_cmp a a ≡ Equal
nat_same a = grind (arith, nat_tests)

module _ {X : Type 0} (cmp : X → X → Ordering) where
  -- each of the first list is below each of the second
  abbrev AllBelow : List X → List X → Type 0
  AllBelow xs ys = All (λ x. All (λ y. cmp x y ≡ Less) ys) xs

  sorted_append : (xs ys : List X) → IsStrictlySortedBy cmp xs → IsStrictlySortedBy cmp ys → AllBelow xs ys → IsStrictlySortedBy cmp (xs ++ ys)
  unfolding IsStrictlySortedBy
  sorted_append [] ys h k across = k
  sorted_append (x ∷ xs) ys h k across =
      let above = All-append (λ y. cmp x y ≡ Less) xs ys (All-from_recursion (λ y. cmp x y ≡ Less) xs h.0) (All-head (λ z. All (λ y. cmp z y ≡ Less) ys) x xs across) in
      (recursion_from_All (λ y. cmp x y ≡ Less) (xs ++ ys) above, sorted_append xs ys h.1 k (All-tail (λ z. All (λ y. cmp z y ≡ Less) ys) x xs across))

  none_sorted : IsStrictlySortedBy cmp []
  unfolding IsStrictlySortedBy
  none_sorted = tt

  module _ (rows : ℕ → List X) (key : X → ℕ) (keyed : (i : ℕ) → All (λ x. key x ≡ i) (rows i)) (less : (x y : X) → key x < key y → cmp x y ≡ Less) (sorted : (i : ℕ) → IsStrictlySortedBy cmp (rows i)) where
    above : (a n b : ℕ) → b < a → All (λ y. b < key y) (flat_map rows (range_with_len a n))
    above a zero b h = All-nil (λ y. b < key y)
    above a (suc n) b h = All-append (λ y. b < key y) (rows a) (flat_map rows (range_with_len (a + 1) n))
        (All-weaker (λ y. key y ≡ a) (λ y. b < key y) (λ y e. omega arith) (rows a) (keyed a)) (above (a + 1) n b (omega arith))

    -- rows of rising keys, joined
    pub sorted_rows : (a n : ℕ) → IsStrictlySortedBy cmp (flat_map rows (range_with_len a n))
    sorted_rows a zero = none_sorted
    sorted_rows a (suc n) =
        let rest = flat_map rows (range_with_len (a + 1) n) in
        sorted_append (rows a) rest (sorted a) (sorted_rows (a + 1) n)
        (All-weaker (λ x. key x ≡ a) (λ x. All (λ y. cmp x y ≡ Less) rest) (λ x e. All-weaker (λ y. a < key y) (λ y. cmp x y ≡ Less) (λ y h. less x y (omega arith)) rest (above (a + 1) n a (omega arith))) (rows a) (keyed a))

pub sorted_map : {X Y : Type 0} (cmp : X → X → Ordering) (other : Y → Y → Ordering) (f : X → Y) → ((x y : X) → cmp x y ≡ Less → other (f x) (f y) ≡ Less) → (xs : List X) → IsStrictlySortedBy cmp xs → IsStrictlySortedBy other (map f xs)
unfolding IsStrictlySortedBy
sorted_map cmp other f same [] h = tt
sorted_map cmp other f same (x ∷ xs) h = (
  recursion_from_All (λ y. other (f x) y ≡ Less) (map f xs) (All-map (λ y. other (f x) y ≡ Less) f xs (All-weaker (λ y. cmp x y ≡ Less) (λ y. other (f x) (f y) ≡ Less) (λ y e. same x y e) xs (All-from_recursion (λ y. cmp x y ≡ Less) xs h.0))),
  sorted_map cmp other f same xs h.1,
)

range_above : (a n b : ℕ) → b < a → All (λ y. nat_cmp b y ≡ Less) (range_with_len a n)
range_above a zero b h = All-nil (λ y. nat_cmp b y ≡ Less)
range_above a (suc n) b h = All-cons (λ y. nat_cmp b y ≡ Less) a (range_with_len (a + 1) n) (nat_less b a h) (range_above (a + 1) n b (omega arith))

pub sorted_range : (a n : ℕ) → IsStrictlySortedBy nat_cmp (range_with_len a n)
unfolding IsStrictlySortedBy
sorted_range a zero = tt
sorted_range a (suc n) = (recursion_from_All (λ y. nat_cmp a y ≡ Less) (range_with_len (a + 1) n) (range_above (a + 1) n a (omega arith)), sorted_range (a + 1) n)

module _ {X : Type 0} (cmp : X → X → Ordering) (total : IsTotalOrder cmp) where
  never_both : (x y : X) → cmp x y ≡ Less → cmp y x ≡ Less → ⊥
  never_both x y a b =
      let e : cmp x y ≡ ordering_reverse (cmp y x) = total.antisymm x y in
      let f : cmp x y ≡ Greater = e ∙ ap ordering_reverse b in
      cc

  first_before : (x : X) (xs : List X) (y : X) → IsStrictlySortedBy cmp (x ∷ xs) → Contains xs y → cmp x y ≡ Less
  unfolding IsStrictlySortedBy
  first_before x xs y h c = All-contains (λ z. cmp x z ≡ Less) xs y (All-from_recursion (λ z. cmp x z ≡ Less) xs h.0) c

  rest_sorted : (x : X) (xs : List X) → IsStrictlySortedBy cmp (x ∷ xs) → IsStrictlySortedBy cmp xs
  unfolding IsStrictlySortedBy
  rest_sorted x xs h = h.1

  same_first : (x y : X) (xs ys : List X) → IsStrictlySortedBy cmp (x ∷ xs) → IsStrictlySortedBy cmp (y ∷ ys) → Contains (y ∷ ys) x → Contains (x ∷ xs) y → x ≡ y
  same_first x y xs ys h k c d = elim (front_or_rest y ys x c) [
    | inl e ↦ sym e
    | inr later ↦ elim (front_or_rest x xs y d) [
      | inl e ↦ e
      | inr after ↦ absurd (never_both x y (first_before x xs y h after) (first_before y ys x k later))
    ]
  ]

  in_other_rest : (first : X) (xs ys : List X) → IsStrictlySortedBy cmp (first ∷ xs) → ((x : X) → Contains (first ∷ xs) x → Contains (first ∷ ys) x) → (x : X) → Contains xs x → Contains ys x
  in_other_rest first xs ys h to x c = elim (front_or_rest first ys x (to x (in_rest first xs x c))) [
    | inl e ↦
        let itself : cmp first first ≡ Less = subst (λ z. cmp first z ≡ Less) (sym e) (first_before first xs x h c) in
        absurd (never_both first first itself itself)
    | inr d ↦ d
  ]

  -- strictly sorted lists with the same members are the same
  pub same_sorted : (xs ys : List X) → IsStrictlySortedBy cmp xs → IsStrictlySortedBy cmp ys → ((x : X) → Contains xs x → Contains ys x) → ((x : X) → Contains ys x → Contains xs x) → xs ≡ ys
  same_sorted [] [] h k to from = refl
  same_sorted [] (y ∷ ys) h k to from = absurd (in_none y (from y (in_front y ys)))
  same_sorted (x ∷ xs) [] h k to from = absurd (in_none x (to x (in_front x xs)))
  same_sorted (x ∷ xs) (y ∷ ys) h k to from =
      let first : x ≡ y = same_first x y xs ys h k (to x (in_front x xs)) (from y (in_front y ys)) in
      let k' : IsStrictlySortedBy cmp (x ∷ ys) = subst (λ z. IsStrictlySortedBy cmp (z ∷ ys)) (sym first) k in
      let to' : (z : X) → Contains (x ∷ xs) z → Contains (x ∷ ys) z = subst (λ w. (z : X) → Contains (x ∷ xs) z → Contains (w ∷ ys) z) (sym first) to in
      let from' : (z : X) → Contains (x ∷ ys) z → Contains (x ∷ xs) z = subst (λ w. (z : X) → Contains (w ∷ ys) z → Contains (x ∷ xs) z) (sym first) from in
      let rest : xs ≡ ys = same_sorted xs ys (rest_sorted x xs h) (rest_sorted x ys k') (in_other_rest x xs ys h to') (in_other_rest x ys xs k' from') in
      cc
