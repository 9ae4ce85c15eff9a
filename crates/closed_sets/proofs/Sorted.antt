-- Sorted lists of sets.
use Rattle.std.proofs.Common.{◌≡◌, ℕ, Bool, true, nat_eq, inl, inr, List, [], ◌∷◌, map, get_or, arith, Result, Ok, Err, refl, eqb, sym, ◌∙◌, subst, ◌↔◌}
use Rattle.std.specs.Cmp.Lexicographic.{pointwise, slice_cmp, texts_ties}
use Rattle.std.specs.List.{Contains, dedup}
use Rattle.std.specs.List.Sorted.{IsBinarySearchResult, IsPermutation, IsSorted, IsStrictlySortedBy}
use Rattle.std.specs.Result.{is_ok}
use Rattle.std.specs.Ordering.{nat_cmp}
use Rattle.std.specs.declared.cmp.Ordering.{Ordering}
use Rattle.std.specs.declared.cmp.Ordering.TheVariants.{Less}
use Rattle.std.proofs.lemmas.Cmp.{nat_list_cmp_total, nat_list_eq_equiv, on_equiv, on_total}
use Rattle.std.proofs.lemmas.List.Elements.{All-from_recursion, All-map, All-weaker, recursion_from_All}
use Rattle.std.proofs.lemmas.List.Kept.{Any-dedup, Contains-from_dedup, IsStrictlySortedBy-dedup}
use Rattle.std.proofs.lemmas.Bool.Decides.{Decides-eqb}
use Rattle.std.proofs.lemmas.Slice.Eq.{slice_eq-Decides}
use Rattle.std.proofs.lemmas.List.Sorted.{Contains-permutation, IsPermutation-sym, searched}
use Rattle.std.proofs.lemmas.List.{get_or_default}
use Rattle.std.proofs.lemmas.Map.Keys.{non_decreasing_from_sorted}
use Rattle.std.proofs.lemmas.Bool.{cases_Bool, cases_lt}
use Rattle.closed_sets.specs.Families.{IsSet}
use Rattle.closed_sets.specs.Search.{is_one}
use Rattle.closed_sets.proofs.Lists.{from_map, in_map, one_of}

-- whether two numbers are the same
abbrev pub nat_same : ℕ → ℕ → Bool
nat_same = eqb

pub sorted_map : {X Y : Type 0} (cmp : X → X → Ordering) (other : Y → Y → Ordering) (f : X → Y) → ((x y : X) → cmp x y ≡ Less → other (f x) (f y) ≡ Less) → (xs : List X) → IsStrictlySortedBy cmp xs → IsStrictlySortedBy other (map f xs)
unfolding IsStrictlySortedBy
sorted_map cmp other f same [] h = tt
sorted_map cmp other f same (x ∷ xs) h = (
  recursion_from_All (λ y. other (f x) y ≡ Less) (map f xs) (All-map (λ y. other (f x) y ≡ Less) f xs (All-weaker (λ y. cmp x y ≡ Less) (λ y. other (f x) (f y) ≡ Less) (λ y e. same x y e) xs (All-from_recursion (λ y. cmp x y ≡ Less) xs h.0))),
  sorted_map cmp other f same xs h.1,
)

exact_lists : (xs ys : List ℕ) → pointwise nat_eq xs ys ≡ true → xs ≡ ys
exact_lists xs ys h = (slice_eq-Decides Decides-eqb xs ys (pointwise nat_eq xs ys) refl).0 h

-- sorted and with repeats dropped: the same sets, in order
module _ {X : Type 0} (f : X → List ℕ) where
  abbrev pub set_cmp : X → X → Ordering
  set_cmp one other = slice_cmp nat_cmp (f one) (f other)

  abbrev pub set_same : X → X → Bool
  set_same one other = pointwise nat_eq (f one) (f other)

  pub sets_in_order : (sorted kept : List X) → IsSorted set_cmp sorted → kept ≡ dedup set_same sorted → IsStrictlySortedBy (slice_cmp nat_cmp) (map f kept)
  sets_in_order sorted kept s e = subst (λ (l : List X). IsStrictlySortedBy (slice_cmp nat_cmp) (map f l)) (sym e)
      (sorted_map set_cmp (slice_cmp nat_cmp) f (λ x y h. h) (dedup set_same sorted) (IsStrictlySortedBy-dedup (on_total f nat_list_cmp_total) (λ x y. texts_ties (f x) (f y)) sorted s))

  pub sets_stay : (found sorted kept : List X) → IsPermutation found sorted → kept ≡ dedup set_same sorted → (set : List ℕ) → Contains (map f kept) set ↔ Contains (map f found) set
  sets_stay found sorted kept p e set = (
    λ c.
        let w = from_map f kept set c in
        let d : Contains sorted w.0 = Contains-from_dedup set_same sorted w.0 (subst (λ (l : List X). Contains l w.0) e w.1) in
        subst (Contains (map f found)) w.2 (in_map f found w.0 (Contains-permutation sorted found w.0 (IsPermutation-sym found sorted p) d)),
    λ c.
        let w = from_map f found set c in
        let any = Any-dedup (on_equiv f nat_list_eq_equiv) sorted w.0 (Contains-permutation found sorted w.0 p w.1) in
        let x : X = any.1 in
        let there : Contains (dedup set_same sorted) x = (any.0, any.2, any.3) in
        let same : f w.0 ≡ f x = exact_lists (f w.0) (f x) any.4 in
        subst (Contains (map f kept)) (sym same ∙ w.2) (in_map f kept x (subst (λ (l : List X). Contains l x) (sym e) there)),
  )

-- ---- a search in a set
pub search_is : (set : List ℕ) (x : ℕ) (found : Result ℕ ℕ) → IsSet set → IsBinarySearchResult (λ y. nat_cmp y x) set found → is_ok found ≡ is_one set x
search_is set x (Ok place) s r =
    let w = searched set x (Ok place) r (λ i j ij l. non_decreasing_from_sorted set s i j 0 ij l) in
    sym ((one_of set x).1 (place, w.0, get_or_default set place x 0 w.0 ∙ w.1))
search_is set x (Err place) s r =
    let w = searched set x (Err place) r (λ i j ij l. non_decreasing_from_sorted set s i j 0 ij l) in
    elim (cases_Bool (is_one set x)) [
      | inr f ↦ sym f
      | inl t ↦
          let c = (one_of set x).0 t in
          let e : get_or set c.0 0 ≡ x = get_or_default set c.0 0 x c.1 ∙ c.2 in
          elim (cases_lt c.0 place) [
            | inl l ↦ (let below = w.1 c.0 l in absurd (omega arith))
            | inr l ↦ (let above = w.2 c.0 l c.1 in absurd (omega arith))
          ]
    ]
