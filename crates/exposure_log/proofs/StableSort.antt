-- Sorting by a total order so that ties keep their order: it can be done, and in one way.
use Rattle.std.proofs.Common.{◌≡◌, Bool, true, false, not, ◌&&◌, cond, List, [], ◌∷◌, get_or, refl, sym, ap, ◌∙◌, subst, arith, suc, inl, inr}
use Rattle.std.specs.List.{All, AllPairs, filter}
use Rattle.std.specs.List.Sorted.{IsPermutation, IsStable, ties}
use Rattle.std.specs.Cmp.{IsTotalOrder}
use Rattle.std.specs.declared.cmp.Ordering.{Ordering}
use Rattle.std.specs.declared.cmp.Ordering.TheVariants.{Less, Equal, Greater}
use Rattle.std.specs.Ordering.{ordering_reverse, is_lt, is_gt}
use Rattle.std.proofs.lemmas.Bool.{cases_Bool}
use Rattle.std.proofs.lemmas.Cmp.{upto, tied_itself}
use Rattle.std.proofs.lemmas.List.Elements.{All-cons, All-head, All-same, All-filter}
use Rattle.std.proofs.lemmas.List.Kept.{AllPairs-cons}
use Rattle.std.proofs.lemmas.List.Sorted.{IsPermutation-refl, IsPermutation-trans, IsPermutation-cons, IsPermutation-middle, All-permutation}
use Rattle.exposure_log.proofs.Fronts.{first_same, rest_same}

-- the element in front of a sorted list, and then at its place
abbrev put : {X : Type 0} → (X → X → Ordering) → X → List X → List X
put cmp d [] = d ∷ []
put cmp d (e ∷ es) = cond (is_gt (cmp d e)) (e ∷ put cmp d es) (d ∷ e ∷ es)

abbrev pub sorted : {X : Type 0} → (X → X → Ordering) → List X → List X
sorted cmp [] = []
sorted cmp (d ∷ ds) = put cmp d (sorted cmp ds)

-- no element stands after a later one
abbrev pub Rises : {X : Type 0} → (X → X → Ordering) → List X → Type 0
Rises cmp xs = AllPairs (λ x y. is_gt (cmp x y) ≡ false) xs

abbrev tied : {X : Type 0} → (X → X → Ordering) → X → X → Bool
tied cmp x y = ties (λ a b. is_lt (cmp a b)) x y

-- ---- two answers of a comparison

equal_from_no_less : (r s : Ordering) → r ≡ ordering_reverse s → not (is_lt r) && not (is_lt s) ≡ true → r ≡ Equal
equal_from_no_less r Less e h = let no = rw e at h in cc
equal_from_no_less r Equal e h = e
equal_from_no_less r Greater e h = let no = rw e at h in cc

no_less_from_equal : (r s : Ordering) → r ≡ ordering_reverse s → r ≡ Equal → not (is_lt r) && not (is_lt s) ≡ true
no_less_from_equal r Less e h = cc
no_less_from_equal r Equal e h = rw h refl
no_less_from_equal r Greater e h = cc

pub equal_from_no_greater : (r s : Ordering) → r ≡ ordering_reverse s → is_gt r ≡ false → is_gt s ≡ false → r ≡ Equal
equal_from_no_greater r Less e g h = let no = rw e at g in cc
equal_from_no_greater r Equal e g h = e
equal_from_no_greater r Greater e g h = cc

no_greater_back : (r s : Ordering) → r ≡ ordering_reverse s → is_gt s ≡ true → is_gt r ≡ false
no_greater_back r Less e h = cc
no_greater_back r Equal e h = cc
no_greater_back r Greater e h = rw e refl

not_greater : (r : Ordering) → r ≡ Equal → is_gt r ≡ false
not_greater r e = rw e refl

clash : (r : Ordering) → r ≡ Equal → is_gt r ≡ true → ⊥
clash r e h = let no : is_gt Equal ≡ true = rw e at h in cc

-- ---- lists

-- at most one of the two passes, so they may stand either way
either_way : {X : Type 0} (a b : Bool) (x y : X) (zs : List X) → (a ≡ true → b ≡ true → ⊥) → cond b (y ∷ cond a (x ∷ zs) zs) (cond a (x ∷ zs) zs) ≡ cond a (x ∷ cond b (y ∷ zs) zs) (cond b (y ∷ zs) zs)
either_way true true x y zs h = absurd (h refl refl)
either_way true false x y zs h = refl
either_way false b x y zs h = refl

without_first : {X : Type 0} (b : Bool) (x : X) (ys zs : List X) → cond b (x ∷ ys) ys ≡ cond b (x ∷ zs) zs → ys ≡ zs
without_first true x ys zs e = rest_same x x ys zs e
without_first false x ys zs e = e

module _ {X : Type 0} (cmp : X → X → Ordering) (o : IsTotalOrder cmp) where
  pub equal_from_tie : (x y : X) → tied cmp x y ≡ true → cmp x y ≡ Equal
  equal_from_tie x y h = equal_from_no_less (cmp x y) (cmp y x) (o.antisymm x y) h

  tie_from_equal : (x y : X) → cmp x y ≡ Equal → tied cmp x y ≡ true
  tie_from_equal x y h = no_less_from_equal (cmp x y) (cmp y x) (o.antisymm x y) h

  not_two : (c d e : X) → is_gt (cmp d e) ≡ true → tied cmp c d ≡ true → tied cmp c e ≡ true → ⊥
  not_two c d e g p q =
      let same : cmp c e ≡ cmp d e = o.congr c d e (equal_from_tie c d p) in
      clash (cmp d e) (sym same ∙ equal_from_tie c e q) g

  -- ---- sorting keeps ties, keeps the elements and sorts

  put_ties : (c d : X) (es : List X) → filter (tied cmp c) (put cmp d es) ≡ filter (tied cmp c) (d ∷ es)
  put_ties c d [] = refl
  put_ties c d (e ∷ es) = elim (cases_Bool (is_gt (cmp d e))) [
    | inl g ↦ rw (g, put_ties c d es) (either_way (tied cmp c d) (tied cmp c e) d e (filter (tied cmp c) es) (not_two c d e g))
    | inr f ↦ rw f refl
  ]

  pub sorted_is_stable : (xs : List X) → IsStable cmp xs (sorted cmp xs)
  sorted_is_stable [] c = refl
  sorted_is_stable (d ∷ ds) c = put_ties c d (sorted cmp ds) ∙ ap (λ zs. cond (tied cmp c d) (d ∷ zs) zs) (sorted_is_stable ds c)

  put_permutes : (d : X) (es : List X) → IsPermutation (d ∷ es) (put cmp d es)
  put_permutes d [] = IsPermutation-refl (d ∷ [])
  put_permutes d (e ∷ es) = elim (cases_Bool (is_gt (cmp d e))) [
    | inl g ↦ rw g (IsPermutation-trans (d ∷ e ∷ es) (e ∷ d ∷ es) (e ∷ put cmp d es) (IsPermutation-middle (d ∷ []) e es) (IsPermutation-cons e (d ∷ es) (put cmp d es) (put_permutes d es)))
    | inr f ↦ rw f (IsPermutation-refl (d ∷ e ∷ es))
  ]

  pub sorted_permutes : (xs : List X) → IsPermutation xs (sorted cmp xs)
  sorted_permutes [] = IsPermutation-refl []
  sorted_permutes (d ∷ ds) = IsPermutation-trans (d ∷ ds) (d ∷ sorted cmp ds) (put cmp d (sorted cmp ds)) (IsPermutation-cons d ds (sorted cmp ds) (sorted_permutes ds)) (put_permutes d (sorted cmp ds))

  first_rises : (x : X) (xs : List X) → Rises cmp (x ∷ xs) → All (λ y. is_gt (cmp x y) ≡ false) xs
  first_rises x xs h k d l = h 0 (suc k) d (omega arith) (omega arith)

  rest_rises : (x : X) (xs : List X) → Rises cmp (x ∷ xs) → Rises cmp xs
  rest_rises x xs h i j d l m = h (suc i) (suc j) d (omega arith) (omega arith)

  not_after_itself : (x : X) → is_gt (cmp x x) ≡ false
  not_after_itself x = not_greater (cmp x x) (tied_itself o x)

  put_rises : (d : X) (es : List X) → Rises cmp es → Rises cmp (put cmp d es)
  put_rises d [] h = λ i j x l m. absurd (omega arith)
  put_rises d (e ∷ es) h = elim (cases_Bool (is_gt (cmp d e))) [
    | inl g ↦ rw g
        (AllPairs-cons (λ x y. is_gt (cmp x y) ≡ false) e (put cmp d es)
        (All-permutation (λ y. is_gt (cmp e y) ≡ false) (d ∷ es) (put cmp d es) (put_permutes d es) (All-cons (λ y. is_gt (cmp e y) ≡ false) d es (no_greater_back (cmp e d) (cmp d e) (o.antisymm e d) g) (first_rises e es h)))
        (put_rises d es (rest_rises e es h)))
    | inr f ↦ rw f
        (AllPairs-cons (λ x y. is_gt (cmp x y) ≡ false) d (e ∷ es)
        (All-cons (λ y. is_gt (cmp d y) ≡ false) e es f (λ k x l. upto o d e (get_or es k x) f (first_rises e es h k x l)))
        h)
  ]

  pub sorted_rises : (xs : List X) → Rises cmp (sorted cmp xs)
  sorted_rises [] = λ i j d l m. absurd (omega arith)
  sorted_rises (d ∷ ds) = put_rises d (sorted cmp ds) (sorted_rises ds)

  -- ---- in one way

  -- the first of those that tie with it is an element of the other list too
  not_before : (y z : X) (ys zs : List X) → Rises cmp (z ∷ zs) → filter (tied cmp y) (y ∷ ys) ≡ filter (tied cmp y) (z ∷ zs) → is_gt (cmp z y) ≡ false
  not_before y z ys zs up e =
      let here : tied cmp y y ≡ true = tie_from_equal y y (tied_itself o y) in
      let front : y ∷ filter (tied cmp y) ys ≡ filter (tied cmp y) (z ∷ zs) = rw here at e in
      let all = All-filter (tied cmp y) (λ x. is_gt (cmp z x) ≡ false) (z ∷ zs) (All-cons (λ x. is_gt (cmp z x) ≡ false) z zs (not_after_itself z) (first_rises z zs up)) in
      All-head (λ x. is_gt (cmp z x) ≡ false) y (filter (tied cmp y) ys) (All-same (λ x. is_gt (cmp z x) ≡ false) (y ∷ filter (tied cmp y) ys) (filter (tied cmp y) (z ∷ zs)) front all)

  same_first : (y z : X) (ys zs : List X) → Rises cmp (y ∷ ys) → Rises cmp (z ∷ zs) → ((x : X) → filter (tied cmp x) (y ∷ ys) ≡ filter (tied cmp x) (z ∷ zs)) → y ≡ z
  same_first y z ys zs p q h =
      let equal : cmp y z ≡ Equal = equal_from_no_greater (cmp y z) (cmp z y) (o.antisymm y z) (not_before z y zs ys p (sym (h z))) (not_before y z ys zs q (h y)) in
      let itself : tied cmp y y ≡ true = tie_from_equal y y (tied_itself o y) in
      let other : tied cmp y z ≡ true = tie_from_equal y z equal in
      let both : y ∷ filter (tied cmp y) ys ≡ z ∷ filter (tied cmp y) zs = rw (itself, other) at (h y) in
      first_same y z (filter (tied cmp y) ys) (filter (tied cmp y) zs) both

  pub same_sorted : (ys zs : List X) → Rises cmp ys → Rises cmp zs → ((x : X) → filter (tied cmp x) ys ≡ filter (tied cmp x) zs) → ys ≡ zs
  same_sorted [] [] p q h = refl
  same_sorted [] (z ∷ zs) p q h = let e = rw (tie_from_equal z z (tied_itself o z)) at (h z) in cc
  same_sorted (y ∷ ys) [] p q h = let e = rw (tie_from_equal y y (tied_itself o y)) at (h y) in cc
  same_sorted (y ∷ ys) (z ∷ zs) p q h =
      let first : y ≡ z = same_first y z ys zs p q h in
      let h' : (x : X) → filter (tied cmp x) (y ∷ ys) ≡ filter (tied cmp x) (y ∷ zs) = subst (λ v. (x : X) → filter (tied cmp x) (y ∷ ys) ≡ filter (tied cmp x) (v ∷ zs)) (sym first) h in
      let rest : ys ≡ zs = same_sorted ys zs (rest_rises y ys p) (rest_rises z zs q) (λ x. without_first (tied cmp x y) y (filter (tied cmp x) ys) (filter (tied cmp x) zs) (h' x)) in
      cc
