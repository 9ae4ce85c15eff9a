-- The sets after a change: those of the definition, each at one place.
use Rattle.std.proofs.Common.{◌≡◌, ℕ, ◌+◌, ◌-◌, ◌<◌, ◌≤◌, List, [], ◌∷◌, ◌++◌, length, map, refl, sym, subst, ap, ◌∙◌, ◌↔◌, arith}
use Rattle.std.proofs.lemmas.Bool.{cases_lt, cases_order}
use Rattle.std.proofs.lemmas.List.Elements.{Contains-get_or}
use Rattle.std.specs.List.{Contains}
use mathlib.Core.Logic.{inl, inr}
use Rattle.closed_sets.specs.Families.{IsSet}
use Rattle.sky_units.specs.Tracks.{AreAmong}
use Rattle.kept_sets.specs.Changes.{AreReady, IsAfter, IsRest, Stays}
use Rattle.kept_sets.specs.Lists.{HoldsOne, less}
use Rattle.kept_sets.specs.Stored.{AreEmptied, IsPrepared, IsRestAt, IsStore, at, filled}
use Rattle.kept_sets.proofs.Basics.{in_none, in_or_not, less_among, member, no_items, of_less}
use Rattle.kept_sets.proofs.Emptied.{has_items, in_filled, of_filled}
use Rattle.kept_sets.proofs.Entered.{at_left, at_right, in_sets}
use Rattle.kept_sets.proofs.Remaining.{allows_added, allows_old, at_member, beside_added, beside_old, first_of}

-- what the steps of a change gave
pub record IsMade (sets index : List (List ℕ)) (went came : List ℕ) (grown : List (List ℕ)) (broken extended : List ℕ) (added now : List (List ℕ)) : Type 0 where
  pub store : IsStore sets index
  pub ready : AreReady went came (filled sets) grown
  pub prepared : IsPrepared sets went came grown broken extended added
  pub emptied : AreEmptied (sets ++ added) broken extended now

module _ (sets index : List (List ℕ)) (went came : List ℕ) (grown : List (List ℕ)) (broken extended : List ℕ) (added now : List (List ℕ)) (made : IsMade sets index went came grown broken extended added now) where
  -- a place that has a set was not emptied
  not_emptied : (place item : ℕ) → Contains (at now place) item → (Contains broken place → ⊥) × (Contains extended place → ⊥)
  not_emptied place item c = (
    λ b. in_none item (subst (λ s. Contains s item) (made.emptied.gone place (inl b)) c),
    λ e. in_none item (subst (λ s. Contains s item) (made.emptied.gone place (inr e)) c),
  )

  still : (place item : ℕ) → Contains (at now place) item → at now place ≡ at (sets ++ added) place
  still place item c = (let n = not_emptied place item c in made.emptied.left place n.0 n.1)

  -- ---- each set now is one of the definition
  of_old : (place item : ℕ) → Contains (at sets place) item → (Contains broken place → ⊥) → (Contains extended place → ⊥) → Stays went came (filled sets) grown (at sets place)
  of_old place item c b e = record {
    was = in_filled sets place (at sets place) refl (has_items (at sets place) item c);
    whole = λ h. b ((made.prepared.breaks place).1 h);
    free = λ g. e ((made.prepared.extends place).1 (g, has_items (at sets place) item c));
  }

  rest_of : (set : List ℕ) → IsRestAt sets went grown broken set → IsRest went (filled sets) grown set
  rest_of set r =
      let broke = (made.prepared.breaks r.place).0 r.listed in
      record {
        whole = at sets r.place;
        was = in_filled sets r.place (at sets r.place) refl (has_items (at sets r.place) broke.0 broke.2);
        broken = broke;
        is = r.is;
        large = r.top.large;
        old_top = λ other c a. (let w = of_filled sets other c in subst (λ s. AreAmong (less went s) set) w.1 (beside_old sets went set grown r.top w.0 (subst (AreAmong set) (sym w.1) a)));
        new_top = λ other c a. beside_added sets went set grown r.top other c a;
      }

  of_added : (set : List ℕ) → Contains added set → IsAfter went came (filled sets) grown set
  of_added set c = elim ((made.prepared.adds.exactly set).0 c) [ inl g ↦ inr (inr g) | inr r ↦ inr (inl (rest_of set r)) ]

  is_after : (set : List ℕ) → Contains (filled now) set → IsAfter went came (filled sets) grown set
  is_after set c =
      let w = of_filled now set c in
      let one = first_of set w.2 in
      let here : Contains (at now w.0) one.0 = subst (λ s. Contains s one.0) (sym w.1) one.1 in
      let n = not_emptied w.0 one.0 here in
      let same : at (sets ++ added) w.0 ≡ set = sym (made.emptied.left w.0 n.0 n.1) ∙ w.1 in
      elim (cases_lt w.0 (length sets)) [
        | inl l ↦
            let e : at sets w.0 ≡ set = sym (at_left sets added w.0 l) ∙ same in
            inl (subst (Stays went came (filled sets) grown) e (of_old w.0 one.0 (subst (λ s. Contains s one.0) (sym e) one.1) n.0 n.1))
        | inr l ↦
            let e : at added (w.0 - length sets) ≡ set = sym (at_right sets added w.0 l) ∙ same in
            let inside = in_sets added (w.0 - length sets) one.0 (subst (λ s. Contains s one.0) (sym e) one.1) in
            of_added set (subst (Contains added) e (Contains-get_or added (w.0 - length sets) [] inside))
      ]

  -- ---- each set of the definition is there
  in_now : (place : ℕ) (set : List ℕ) → at (sets ++ added) place ≡ set → 0 < length set → (Contains broken place → ⊥) → (Contains extended place → ⊥) → Contains (filled now) set
  in_now place set e l b x = in_filled now place set (made.emptied.left place b x ∙ e) l

  added_in_now : (set : List ℕ) → Contains added set → 0 < length set → Contains (filled now) set
  added_in_now set c l =
      let place = length sets + c.0 in
      let there : at (sets ++ added) place ≡ set = at_right sets added place (omega arith) ∙ ap (at added) (omega arith) ∙ at_member added set c in
      in_now place set there l
      (λ b. let h = (made.prepared.breaks place).0 b in let inside = in_sets sets place h.0 h.2 in let never : ⊥ = omega arith in never)
      (λ x. let some = ((made.prepared.extends place).0 x).1 in let one = first_of (at sets place) some in let inside = in_sets sets place one.0 one.1 in let never : ⊥ = omega arith in never)

  old_in_now : (set : List ℕ) → Stays went came (filled sets) grown set → Contains (filled now) set
  old_in_now set s =
      let w = of_filled sets set s.was in
      let one = first_of set w.2 in
      let inside = in_sets sets w.0 one.0 (subst (λ t. Contains t one.0) (sym w.1) one.1) in
      in_now w.0 set (at_left sets added w.0 inside ∙ w.1) w.2
      (λ b. s.whole (subst (HoldsOne went) w.1 ((made.prepared.breaks w.0).0 b)))
      (λ x. s.free (subst (Contains (map (less came) grown)) w.1 ((made.prepared.extends w.0).0 x).0))

  rest_at : (set : List ℕ) → IsRest went (filled sets) grown set → IsRestAt sets went grown broken set
  rest_at set r =
      let w = of_filled sets r.whole r.was in
      record {
        place = w.0;
        listed = (made.prepared.breaks w.0).1 (subst (HoldsOne went) (sym w.1) r.broken);
        is = r.is ∙ ap (less went) (sym w.1);
        top = record {
          large = r.large;
          allowed = λ q. elim (cases_lt q (length sets)) [
            | inl l ↦ (allows_old sets grown went set q l).1 (λ a.
                let large = r.large in
                let one = first_of set (omega arith) in
                let some = has_items (at sets q) one.0 (member set (at sets q) a one.0 one.1) in
                r.old_top (at sets q) (in_filled sets q (at sets q) refl some) a)
            | inr l ↦ (allows_added sets grown went set q l).1 (λ a.
                let large = r.large in
                let one = first_of set (omega arith) in
                let inside = in_sets grown (q - length sets) one.0 (member set (at grown (q - length sets)) a one.0 one.1) in
                r.new_top (at grown (q - length sets)) (Contains-get_or grown (q - length sets) [] inside) a)
          ];
        };
      }

  in_after : (set : List ℕ) → IsAfter went came (filled sets) grown set → Contains (filled now) set
  in_after set (inl s) = old_in_now set s
  in_after set (inr (inl r)) = added_in_now set ((made.prepared.adds.exactly set).1 (inr (rest_at set r))) (let large = r.large in omega arith)
  in_after set (inr (inr g)) = added_in_now set ((made.prepared.adds.exactly set).1 (inl g)) (let h = made.ready.new set g in has_items set h.0 h.2)

  pub after_is : (set : List ℕ) → Contains (filled now) set ↔ IsAfter went came (filled sets) grown set
  after_is set = (is_after set, in_after set)

  -- ---- each set is at one place
  -- no added set was there before
  added_is_new : (set : List ℕ) → Contains added set → Contains (filled sets) set → ⊥
  added_is_new set c old = elim ((made.prepared.adds.exactly set).0 c) [
    | inl g ↦ made.ready.fresh set old (made.ready.new set g)
    | inr r ↦
        let broke = (made.prepared.breaks r.place).0 r.listed in
        let whole = in_filled sets r.place (at sets r.place) refl (has_items (at sets r.place) broke.0 broke.2) in
        let inside : AreAmong set (at sets r.place) = subst (λ s. AreAmong s (at sets r.place)) (sym r.is) (less_among went (at sets r.place)) in
        let same : set ≡ at sets r.place = made.ready.apart set (at sets r.place) old whole inside in
        let there : Contains (less went (at sets r.place)) broke.0 = subst (λ s. Contains s broke.0) (sym same ∙ r.is) broke.2 in
        (of_less went (at sets r.place) broke.0 there).1 broke.1
  ]

  apart_places : (place other item : ℕ) → Contains (at (sets ++ added) place) item → at (sets ++ added) place ≡ at (sets ++ added) other → place ≡ other
  apart_places place other item c e = elim (cases_lt place (length sets)) [
    | inl l ↦ elim (cases_lt other (length sets)) [
      | inl k ↦ made.store.apart place other item (subst (λ s. Contains s item) (at_left sets added place l) c) (sym (at_left sets added place l) ∙ e ∙ at_left sets added other k)
      | inr k ↦ absurd (mixed place other l k c e)
    ]
    | inr l ↦ elim (cases_lt other (length sets)) [
      | inl k ↦ absurd (mixed other place k l (subst (λ s. Contains s item) e c) (sym e))
      | inr k ↦ both l k
    ]
  ] where
    mixed : (one two : ℕ) → one < length sets → length sets ≤ two → Contains (at (sets ++ added) one) item → at (sets ++ added) one ≡ at (sets ++ added) two → ⊥
    mixed one two l k d s =
        let here : Contains (at sets one) item = subst (λ t. Contains t item) (at_left sets added one l) d in
        let same : at added (two - length sets) ≡ at sets one = sym (at_right sets added two k) ∙ sym s ∙ at_left sets added one l in
        let inside = in_sets added (two - length sets) item (subst (λ t. Contains t item) (sym same) here) in
        added_is_new (at sets one) (subst (Contains added) same (Contains-get_or added (two - length sets) [] inside)) (in_filled sets one (at sets one) refl (has_items (at sets one) item here))

    both : length sets ≤ place → length sets ≤ other → place ≡ other
    both l k =
        let one : Contains (at added (place - length sets)) item = subst (λ s. Contains s item) (at_right sets added place l) c in
        let same : at added (place - length sets) ≡ at added (other - length sets) = sym (at_right sets added place l) ∙ e ∙ at_right sets added other k in
        let in_one = in_sets added (place - length sets) item one in
        let in_two = in_sets added (other - length sets) item (subst (λ s. Contains s item) same one) in
        elim (cases_order (place - length sets) (other - length sets)) [
          | inl s ↦ omega arith
          | inr w ↦ elim w [
            | inl b ↦ absurd (made.prepared.adds.once (place - length sets) (other - length sets) [] b in_two same)
            | inr b ↦ absurd (made.prepared.adds.once (other - length sets) (place - length sets) [] b in_one (sym same))
          ]
        ]

  pub apart_now : (place other item : ℕ) → Contains (at now place) item → at now place ≡ at now other → place ≡ other
  apart_now place other item c e =
      let one = still place item c in
      let two = still other item (subst (λ s. Contains s item) e c) in
      apart_places place other item (subst (λ s. Contains s item) one c) (sym one ∙ e ∙ two)

-- the old sets are sets, also at places that have none
pub are_sets : (sets : List (List ℕ)) → ((set : List ℕ) → Contains (filled sets) set → IsSet set) → (place : ℕ) → IsSet (at sets place)
are_sets sets each place = by_cases (at sets place) refl where
  by_cases : (set : List ℕ) → at sets place ≡ set → IsSet set
  by_cases [] e = no_items
  by_cases (x ∷ xs) e = each (x ∷ xs) (in_filled sets place (x ∷ xs) e (omega arith))

-- two rounds of taking out
pub both_emptied : (before middle after : List (List ℕ)) (broken extended : List ℕ) → ((place : ℕ) → Contains broken place → at middle place ≡ []) → ((place : ℕ) → (Contains broken place → ⊥) → at middle place ≡ at before place) → ((place : ℕ) → Contains extended place → at after place ≡ []) → ((place : ℕ) → (Contains extended place → ⊥) → at after place ≡ at middle place) → AreEmptied before broken extended after
both_emptied before middle after broken extended gone left gone_too left_too = record {
  gone = λ place w. elim w [
    | inr e ↦ gone_too place e
    | inl b ↦ elim (in_or_not extended place) [ inl e ↦ gone_too place e | inr n ↦ left_too place n ∙ gone place b ]
  ];
  left = λ place b e. left_too place e ∙ left place b;
}
