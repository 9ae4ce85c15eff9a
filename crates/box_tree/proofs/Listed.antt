-- What a join found, sorted and without repeats, is the list of all that is wanted.
use Rattle.std.proofs.Common.{◌≡◌, Bool, true, List, [], inl, inr, sym, ◌∙◌}
use Rattle.std.specs.Cmp.{IsEquivalence, IsTotalOrder}
use Rattle.std.specs.List.{Contains, dedup, filter}
use Rattle.std.specs.List.Sorted.{IsPermutation, IsSorted, IsStrictlySortedBy}
use Rattle.std.specs.Ordering.{eq_by_cmp}
use Rattle.std.specs.declared.cmp.Ordering.{Ordering}
use Rattle.std.proofs.lemmas.Cmp.{eq_by_cmp_equiv}
use Rattle.std.proofs.lemmas.List.Elements.{All-contains, filter_passes}
use Rattle.std.proofs.lemmas.List.Kept.{Contains-dedup, Contains-from_dedup, IsStrictlySortedBy-dedup, IsStrictlySortedBy-filter}
use Rattle.std.proofs.lemmas.List.Sorted.{Contains-permutation, IsPermutation-sym}
use Rattle.std.proofs.lemmas.Map.Lookups.{CmpEqualImpliesEq}
use Rattle.std.proofs.lemmas.Map.Views.{tells_apart}
use Rattle.box_tree.specs.Joins.{Adds}
use Rattle.box_tree.proofs.Sorting.{in_filter, in_none, same_sorted}

module _ {X : Type 0} (cmp : X → X → Ordering) (total : IsTotalOrder cmp) (exact : CmpEqualImpliesEq cmp) (same : X → X → Bool) (ties : (x y : X) → same x y ≡ eq_by_cmp cmp x y) where
  same_equiv : IsEquivalence same
  same_equiv =
      let laws = eq_by_cmp_equiv total in
      record {
        refl = λ x. ties x x ∙ laws.refl x;
        symm = λ x y. ties x y ∙ laws.symm x y ∙ sym (ties y x);
        congr = λ x y z h. ties x z ∙ laws.congr x y z (sym (ties x y) ∙ h) ∙ sym (ties y z);
      }

  same_exact : (x y : X) → same x y ≡ true → x ≡ y
  same_exact x y h = tells_apart exact x y (sym (ties x y) ∙ h)

  pub listed : (wanted : X → Bool) (Region : X → Type 0) (all found sorted kept : List X) → IsStrictlySortedBy cmp all → Adds wanted Region [] found → ((x : X) → wanted x ≡ true → Region x) → ((x : X) → wanted x ≡ true → Contains all x) → IsPermutation found sorted → IsSorted cmp sorted → kept ≡ dedup same sorted → kept ≡ filter wanted all
  listed wanted Region all found sorted kept in_order adds in_region in_all moved is_sorted is =
      is ∙ same_sorted cmp total (dedup same sorted) (filter wanted all) (IsStrictlySortedBy-dedup total ties sorted is_sorted) (IsStrictlySortedBy-filter cmp wanted all in_order)
      (λ x h.
      let in_found : Contains found x = Contains-permutation sorted found x (IsPermutation-sym found sorted moved) (Contains-from_dedup same sorted x h) in
      elim (adds.sound x in_found) [ inl none ↦ absurd (in_none x none) | inr w ↦ in_filter wanted all x (in_all x w) w ])
      (λ x h.
      let w : wanted x ≡ true = All-contains (λ y. wanted y ≡ true) (filter wanted all) x (filter_passes wanted all) h in
      Contains-dedup same_equiv same_exact sorted x (Contains-permutation found sorted x moved (adds.complete x (in_region x w) w)))
