-- Sets are taken out of their places.
use Rattle.std.proofs.Common.{◌≡◌, ℕ, ◌<◌, ◌≤◌, List, [], ◌∷◌, ◌++◌, length, map, set, get_or, zero, suc, true, refl, sym, subst, ap, ◌∙◌, arith}
use Rattle.std.proofs.lemmas.Bool.{cases_eq, cases_lt}
use Rattle.std.proofs.lemmas.List.{get_or_default, get_or_past, get_or-map}
use Rattle.std.proofs.lemmas.List.Elements.{Contains-append_left, Contains-get_or, Contains-push, Contains-push_cases}
use Rattle.std.specs.List.{Contains}
use mathlib.Core.Logic.{inl, inr}
use Rattle.kept_sets.specs.Lists.{AreDifferent}
use Rattle.kept_sets.specs.Stored.{IsFound, KeepsFilled, at, filled, is_filled}
use Rattle.kept_sets.proofs.Basics.{in_filter, in_front, in_none, of_filter}
use Rattle.kept_sets.proofs.Entered.{at_set_other, at_set_same}

-- the sets at some places were taken out, and all others are where they were
pub record HasEmptied (before : List (List ℕ)) (places : List ℕ) (after : List (List ℕ)) : Type 0 where
  pub emptied : (place : ℕ) → Contains places place → at after place ≡ []
  pub left : (place : ℕ) → (Contains places place → ⊥) → at after place ≡ at before place

pub emptied_none : (before : List (List ℕ)) → HasEmptied before [] before
emptied_none before = record { emptied = λ place c. absurd (in_none place c); left = λ place n. refl }

-- a place more, whose set was taken out or was none
pub emptied_more : (before : List (List ℕ)) (places : List ℕ) (place : ℕ) (sets after : List (List ℕ)) → HasEmptied before places sets → at after place ≡ [] → ((other : ℕ) → (other ≡ place → ⊥) → at after other ≡ at sets other) → HasEmptied before (places ++ place ∷ []) after
emptied_more before places place sets after has here others = record {
  emptied = λ other c. elim (cases_eq other place) [
    | inl e ↦ subst (λ p. at after p ≡ []) (sym e) here
    | inr n ↦ others other n ∙ has.emptied other (elim (Contains-push_cases places place other c) [ inl d ↦ d | inr e ↦ absurd (n (sym e)) ])
  ];
  left = λ other m.
      others other (λ e. m (subst (Contains (places ++ place ∷ [])) (sym e) (Contains-push places place)))
      ∙ has.left other (λ d. m (Contains-append_left places (place ∷ []) other d));
}

pub emptied_past : (before : List (List ℕ)) (places : List ℕ) (place : ℕ) (sets : List (List ℕ)) → HasEmptied before places sets → length sets ≤ place → HasEmptied before (places ++ place ∷ []) sets
emptied_past before places place sets has l = emptied_more before places place sets sets has (get_or_past sets place [] l) (λ other n. refl)

module _ {X : Type 0} (f : X → List ℕ) (before : List (List ℕ)) (places : List ℕ) (place : ℕ) (lists : List X) (has : HasEmptied before places (map f lists)) where
  pub emptied_set : (x : X) → place < length lists → f x ≡ [] → HasEmptied before (places ++ place ∷ []) (map f (set lists place x))
  emptied_set x l e = emptied_more before places place (map f lists) (map f (set lists place x)) has (at_set_same f lists place x l ∙ e) (at_set_other f lists place x)

-- fewer items at the places, and an index that keeps those
pub found_fewer : (sets after index : List (List ℕ)) → IsFound sets index → ((place item : ℕ) → Contains (at after place) item → Contains (at sets place) item) → IsFound after index
found_fewer sets after index found fewer = record { places = λ place item c. found.places place item (fewer place item c) }

pub has_items : (set : List ℕ) (item : ℕ) → Contains set item → 0 < length set
has_items set item c = let l = c.1 in omega arith

pub found_kept : (sets before after : List (List ℕ)) → IsFound sets before → KeepsFilled sets before after → IsFound sets after
found_kept sets before after found keeps = record { places = λ place item c. keeps.all item place (found.places place item c) (has_items (at sets place) item c) }

pub keeps_itself : (sets index : List (List ℕ)) → KeepsFilled sets index index
keeps_itself sets index = record { all = λ item place c l. c }

pub keeps_then : (sets one two three : List (List ℕ)) → KeepsFilled sets one two → KeepsFilled sets two three → KeepsFilled sets one three
keeps_then sets one two three a b = record { all = λ item place c l. b.all item place (a.all item place c l) l }

-- one list of the index keeps the places that have sets
module _ {X : Type 0} (f : X → List ℕ) (sets : List (List ℕ)) (lists : List X) (item : ℕ) (old new : X) where
  pub keeps_set : item < length lists → old ≡ get_or lists item old → ((place : ℕ) → Contains (f old) place → 0 < length (at sets place) → Contains (f new) place) → KeepsFilled sets (map f lists) (map f (set lists item new))
  keeps_set l e more = record {
    all = λ other place c k. elim (cases_eq other item) [
      | inr n ↦ subst (λ s. Contains s place) (sym (at_set_other f lists item new other n)) c
      | inl s ↦
          let here : at (map f lists) item ≡ f old = get_or-map f lists item old [] l ∙ ap f (sym e) in
          let c' : Contains (f old) place = subst (λ p. Contains p place) here (subst (λ p. Contains (at (map f lists) p) place) s c) in
          subst (λ p. Contains (at (map f (set lists item new)) p) place) (sym s) (subst (λ p. Contains p place) (sym (at_set_same f lists item new l)) (more place c' k))
    ];
  }

-- ---- the places that have sets
pub long_filled : (set : List ℕ) → 0 < length set → is_filled set ≡ true
long_filled [] l = absurd (omega arith)
long_filled (x ∷ xs) l = refl

pub filled_long : (set : List ℕ) → is_filled set ≡ true → 0 < length set
filled_long [] e = absurd (cc)
filled_long (x ∷ xs) e = omega arith

pub of_filled : (sets : List (List ℕ)) (set : List ℕ) → Contains (filled sets) set → (place : ℕ) × (at sets place ≡ set) × (0 < length set)
of_filled sets set c =
    let w = of_filter is_filled sets set c in
    (w.0.0, get_or_default sets w.0.0 [] set w.0.1 ∙ w.0.2, filled_long set w.1)

pub in_filled : (sets : List (List ℕ)) (place : ℕ) (set : List ℕ) → at sets place ≡ set → 0 < length set → Contains (filled sets) set
in_filled sets place set e l =
    elim (cases_lt place (length sets)) [
      | inl k ↦ in_filter is_filled sets set (subst (Contains sets) e (Contains-get_or sets place [] k)) (long_filled set l)
      | inr k ↦ (let none : length (at sets place) ≡ 0 = ap length (get_or_past sets place [] k) in let some : 0 < length (at sets place) = subst (λ (s : List ℕ). 0 < length s) (sym e) l in absurd (omega arith))
    ]

-- sets that are each at one place are different
different_cons : (x : List ℕ) (xs : List (List ℕ)) → (Contains xs x → ⊥) → AreDifferent xs → AreDifferent (x ∷ xs)
different_cons x xs n once i zero d ij l = absurd (omega arith)
different_cons x xs n once zero (suc j) d ij l = λ e. n (subst (Contains xs) (sym e) (Contains-get_or xs j d (omega arith)))
different_cons x xs n once (suc i) (suc j) d ij l = once i j d (omega arith) (omega arith)

pub different_filled : (sets : List (List ℕ)) → ((place other item : ℕ) → Contains (at sets place) item → at sets place ≡ at sets other → place ≡ other) → AreDifferent (filled sets)
different_filled [] apart = λ i j d ij l. absurd (omega arith)
different_filled ([] ∷ xs) apart = different_filled xs (λ p q item c e. let same = apart (suc p) (suc q) item c e in omega arith)
different_filled ((y ∷ ys) ∷ xs) apart =
    different_cons (y ∷ ys) (filled xs)
    (λ c. let w = of_filled xs (y ∷ ys) c in let same = apart zero (suc w.0) y (in_front y ys) (sym w.1) in let never : ⊥ = omega arith in never)
    (different_filled xs (λ p q item c e. let same = apart (suc p) (suc q) item c e in omega arith))

-- ---- the loop over the places
pub record HasTakenOut (before : List (List ℕ)) (places : List ℕ) (after index : List (List ℕ)) : Type 0 where
  pub emptied : HasEmptied before places after
  pub found : IsFound after index

pub taken_none : (before index : List (List ℕ)) → IsFound before index → HasTakenOut before [] before index
taken_none before index found = record { emptied = emptied_none before; found = found }

pub taken_past : (before : List (List ℕ)) (places : List ℕ) (place : ℕ) (sets index : List (List ℕ)) → HasTakenOut before places sets index → length sets ≤ place → HasTakenOut before (places ++ place ∷ []) sets index
taken_past before places place sets index has l = record { emptied = emptied_past before places place sets has.emptied l; found = has.found }

module _ {X : Type 0} (f : X → List ℕ) (before : List (List ℕ)) (places : List ℕ) (place : ℕ) (lists : List X) (index after : List (List ℕ)) (x : X) where
  pub taken_out : HasTakenOut before places (map f lists) index → place < length lists → f x ≡ [] → KeepsFilled (map f (set lists place x)) index after → HasTakenOut before (places ++ place ∷ []) (map f (set lists place x)) after
  taken_out has l e keeps = record {
    emptied = emptied_set f before places place lists has.emptied x l e;
    found = found_kept (map f (set lists place x)) index after (found_fewer (map f lists) (map f (set lists place x)) index has.found fewer) keeps;
  } where
    fewer : (other item : ℕ) → Contains (at (map f (set lists place x)) other) item → Contains (at (map f lists) other) item
    fewer other item c = elim (cases_eq other place) [
      | inr n ↦ subst (λ s. Contains s item) (at_set_other f lists place x other n) c
      | inl s ↦ absurd (in_none item (subst (λ l. Contains l item) (at_set_same f lists place x l ∙ e) (subst (λ p. Contains (at (map f (set lists place x)) p) item) s c)))
    ]
