-- The nights with those that are built anew, as they are lent: those before one, itself, and those behind it.
use Rattle.std.proofs.Common.{◌≡◌, ℕ, ◌+◌, ◌-◌, ◌<◌, ◌≤◌, Bool, true, false, if◌then◌else◌, List, [], ◌∷◌, ◌++◌, append_assoc, length, drop, get_or, map, refl, sym, ap, ◌∙◌, arith}
use Rattle.std.proofs.lemmas.List.{append-nil, drop_all, drop_more, map-append}
use Rattle.std.specs.List.{filter}
use Rattle.kept_nights.specs.KeptNights.{with_night}
use Rattle.kept_nights.specs.Renewed.{with_nights}
use Rattle.night_tree.specs.Nights.{NightData}

-- ---- the nights that pass a test
module _ {X : Type 0} (own : X → NightData) (test : NightData → Bool) (nights : List X) (i : ℕ) (whole : List NightData) where
  left : (kept : X) → i < length nights → kept ≡ get_or nights i kept → drop i nights ≡ kept ∷ drop (i + 1) nights
  left kept l is = drop_more nights i kept l ∙ ap (λ (x : X). x ∷ drop (i + 1) nights) (sym is)

  abbrev rest : List NightData
  rest = filter test (map own (drop (i + 1) nights))

  filtered : (b : Bool) (kept : X) → test (own kept) ≡ b → filter test (map own (kept ∷ drop (i + 1) nights)) ≡ (if b then own kept ∷ rest else rest)
  filtered b kept e = rw e refl

  pub one_passes : (kept : X) (old new : List X) → i < length nights → kept ≡ get_or nights i kept → test (own kept) ≡ true → new ≡ old ++ kept ∷ []
      → map own old ++ filter test (map own (drop i nights)) ≡ whole → map own new ++ filter test (map own (drop (i + 1) nights)) ≡ whole
  one_passes kept old new l is t e h =
      let here : filter test (map own (drop i nights)) ≡ own kept ∷ rest = ap (λ (list : List X). filter test (map own list)) (left kept l is) ∙ filtered true kept t in
      ap (λ (list : List X). map own list ++ rest) e ∙ (ap (λ (list : List NightData). list ++ rest) (map-append own old (kept ∷ []))
      ∙ (append_assoc (map own old) (own kept ∷ []) rest ∙ (ap (λ (list : List NightData). map own old ++ list) (sym here) ∙ h)))

  pub one_fails : (kept : X) (old : List X) → i < length nights → kept ≡ get_or nights i kept → test (own kept) ≡ false
      → map own old ++ filter test (map own (drop i nights)) ≡ whole → map own old ++ filter test (map own (drop (i + 1) nights)) ≡ whole
  one_fails kept old l is f h =
      let here : filter test (map own (drop i nights)) ≡ rest = ap (λ (list : List X). filter test (map own list)) (left kept l is) ∙ filtered false kept f in
      ap (λ (list : List NightData). map own old ++ list) (sym here) ∙ h

  pub none_left : (all : List X) → length nights ≤ i → map own all ++ filter test (map own (drop i nights)) ≡ whole → map own all ≡ whole
  none_left all l h =
      let none : filter test (map own (drop i nights)) ≡ [] = ap (λ (list : List X). filter test (map own list)) (drop_all i nights l) in
      sym (append-nil (map own all)) ∙ (ap (λ (list : List NightData). map own all ++ list) (sym none) ∙ h)

-- the three parts are the whole
pub joined : {X : Type 0} (own : X → NightData) (before behind : List NightData) (one : X) (front here all : List X) → map own front ≡ [] ++ before → here ≡ front ++ one ∷ []
    → map own all ≡ map own here ++ behind → map own all ≡ before ++ own one ∷ behind
joined own before behind one front here all e f g =
    g ∙ (ap (λ (list : List NightData). list ++ behind) (ap (map own) f ∙ (map-append own front (one ∷ []) ∙ ap (λ (list : List NightData). list ++ own one ∷ []) e)) ∙ append_assoc before (own one ∷ []) behind)

-- ---- the nights that are built anew, from the last to the first
pub one_before : (changed : List NightData) (left : ℕ) (night : NightData) → 0 < left → left ≤ length changed → night ≡ get_or changed (left - 1) night → drop (left - 1) changed ≡ night ∷ drop left changed
one_before changed left night some within is =
    let next : left - 1 + 1 ≡ left = omega arith in
    drop_more changed (left - 1) night (omega arith) ∙ (ap (λ (x : NightData). x ∷ drop (left - 1 + 1) changed) (sym is) ∙ ap (λ (n : ℕ). night ∷ drop n changed) next)

pub put_before : (changed nights before after : List NightData) (left : ℕ) (night : NightData) → 0 < left → left ≤ length changed → night ≡ get_or changed (left - 1) night → before ≡ with_nights (drop left changed) nights → after ≡ with_night night before
    → after ≡ with_nights (drop (left - 1) changed) nights
put_before changed nights before after left night some within is e f =
    f ∙ (ap (with_night night) e ∙ sym (ap (λ (list : List NightData). with_nights list nights) (one_before changed left night some within is)))
