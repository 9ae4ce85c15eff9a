-- An index that grows: what it had it keeps, and sets enter it item by item.
use Rattle.std.proofs.Common.{◌≡◌, ℕ, ◌+◌, ◌-◌, ◌<◌, ◌≤◌, List, [], ◌∷◌, ◌++◌, length, map, get_or, set, refl, sym, subst, ap, ◌∙◌, arith}
use Rattle.std.proofs.lemmas.Bool.{cases_eq, cases_lt}
use Rattle.std.proofs.lemmas.List.{get_or_append_left, get_or-append_right, get_or_past, get_or-map, get_or-set_same, get_or-set_other, length-map, map-set}
use Rattle.std.proofs.lemmas.List.Elements.{Contains-push_cases}
use Rattle.std.specs.List.{Contains}
use mathlib.Core.Logic.{inl, inr}
use Rattle.kept_sets.specs.Stored.{IsFound, IsWider, at}
use Rattle.kept_sets.proofs.Basics.{in_none}

pub wider_same : (before after : List (List ℕ)) → ((item : ℕ) → at after item ≡ at before item) → IsWider before after
wider_same before after same = record { all = λ item place c. subst (λ l. Contains l place) (sym (same item)) c }

pub wider_itself : (index : List (List ℕ)) → IsWider index index
wider_itself index = record { all = λ item place c. c }

pub wider_then : (one two three : List (List ℕ)) → IsWider one two → IsWider two three → IsWider one three
wider_then one two three a b = record { all = λ item place c. b.all item place (a.all item place c) }

-- lists of a struct's field, where one value is replaced
module _ {X : Type 0} (f : X → List ℕ) (lists : List X) (place : ℕ) (x : X) where
  pub at_set_same : place < length lists → at (map f (set lists place x)) place ≡ f x
  at_set_same l = ap (λ xs. at xs place) (map-set f lists place x) ∙ get_or-set_same (map f lists) place (f x) [] (simp length-map l)

  pub at_set_other : (other : ℕ) → (other ≡ place → ⊥) → at (map f (set lists place x)) other ≡ at (map f lists) other
  at_set_other other n = ap (λ xs. at xs other) (map-set f lists place x) ∙ get_or-set_other (map f lists) place other (f x) [] n

  pub wider_set : (old : X) → place < length lists → old ≡ get_or lists place old → ((y : ℕ) → Contains (f old) y → Contains (f x) y) → IsWider (map f lists) (map f (set lists place x))
  wider_set old l e more = record {
    all = λ other y c. elim (cases_eq other place) [
      | inr n ↦ subst (λ s. Contains s y) (sym (at_set_other other n)) c
      | inl s ↦
          let here : at (map f lists) place ≡ f old = get_or-map f lists place old [] l ∙ ap f (sym e) in
          let c' : Contains (f old) y = subst (λ p. Contains p y) here (subst (λ p. Contains (at (map f lists) p) y) s c) in
          subst (λ p. Contains (at (map f (set lists place x)) p) y) (sym s) (subst (λ p. Contains p y) (sym (at_set_same l)) (more y c'))
    ];
  }

-- the items of a set so far have its place
pub record HasEntered (before after : List (List ℕ)) (items : List ℕ) (place : ℕ) : Type 0 where
  pub wider : IsWider before after
  pub entered : (item : ℕ) → Contains items item → Contains (at after item) place

pub entered_none : (before : List (List ℕ)) (place : ℕ) → HasEntered before before [] place
entered_none before place = record { wider = wider_itself before; entered = λ item c. absurd (in_none item c) }

pub entered_more : (before index after : List (List ℕ)) (items : List ℕ) (item place : ℕ) → HasEntered before index items place → IsWider index after → Contains (at after item) place → HasEntered before after (items ++ item ∷ []) place
entered_more before index after items item place has wider here = record {
  wider = wider_then before index after has.wider wider;
  entered = λ other c. elim (Contains-push_cases items item other c) [
    | inl d ↦ wider.all other place (has.entered other d)
    | inr e ↦ subst (λ x. Contains (at after x) place) e here
  ];
}

-- the first of some sets have their places, one behind the other
pub record HasEnteredBelow (before after sets : List (List ℕ)) (first count : ℕ) : Type 0 where
  pub wider : IsWider before after
  pub entered : (place item : ℕ) → place < count → Contains (at sets place) item → Contains (at after item) (first + place)

pub below_none : (before sets : List (List ℕ)) (first : ℕ) → HasEnteredBelow before before sets first 0
below_none before sets first = record { wider = wider_itself before; entered = λ place item l c. absurd (omega arith) }

pub below_more : (before index after sets : List (List ℕ)) (first count : ℕ) → HasEnteredBelow before index sets first count → IsWider index after → ((item : ℕ) → Contains (at sets count) item → Contains (at after item) (first + count)) → HasEnteredBelow before after sets first (count + 1)
below_more before index after sets first count has wider here = record {
  wider = wider_then before index after has.wider wider;
  entered = λ place item l c. elim (cases_lt place count) [
    | inl k ↦ wider.all item (first + place) (has.entered place item k c)
    | inr k ↦
        let e : count ≡ place = omega arith in
        subst (λ p. Contains (at after item) (first + p)) e (here item (subst (λ p. Contains (at sets p) item) (sym e) c))
  ];
}

pub in_sets : (sets : List (List ℕ)) (place item : ℕ) → Contains (at sets place) item → place < length sets
in_sets sets place item c = elim (cases_lt place (length sets)) [
  | inl l ↦ l
  | inr l ↦ absurd (in_none item (subst (λ s. Contains s item) (get_or_past sets place [] l) c))
]

pub below_all : (before after sets : List (List ℕ)) (first count : ℕ) → length sets ≤ count → HasEnteredBelow before after sets first count → (place item : ℕ) → Contains (at sets place) item → Contains (at after item) (first + place)
below_all before after sets first count l has place item c = has.entered place item (let k = in_sets sets place item c in omega arith) c

-- ---- places of sets behind others
pub at_left : (sets more : List (List ℕ)) (place : ℕ) → place < length sets → at (sets ++ more) place ≡ at sets place
at_left sets more place l = get_or_append_left sets more [] place l

pub at_right : (sets more : List (List ℕ)) (place : ℕ) → length sets ≤ place → at (sets ++ more) place ≡ at more (place - length sets)
at_right sets more place l = get_or-append_right sets more (length sets) place [] refl l

-- an index of sets, and of more sets that entered behind them
pub found_all : (sets more before after : List (List ℕ)) → IsFound sets before → IsWider before after → ((place item : ℕ) → Contains (at more place) item → Contains (at after item) (length sets + place)) → IsFound (sets ++ more) after
found_all sets more before after found wider entered = record {
  places = λ place item c. elim (cases_lt place (length sets)) [
    | inl l ↦ wider.all item place (found.places place item (subst (λ s. Contains s item) (at_left sets more place l) c))
    | inr l ↦
        let e : length sets + (place - length sets) ≡ place = omega arith in
        subst (Contains (at after item)) e (entered (place - length sets) item (subst (λ s. Contains s item) (at_right sets more place l) c))
  ];
}

pub found_wider : (sets before after : List (List ℕ)) → IsFound sets before → IsWider before after → IsFound sets after
found_wider sets before after found wider = record { places = λ place item c. wider.all item place (found.places place item c) }

pub found_left : (sets more index : List (List ℕ)) → IsFound (sets ++ more) index → IsFound sets index
found_left sets more index found = record { places = λ place item c. found.places place item (subst (λ s. Contains s item) (sym (at_left sets more place (in_sets sets place item c))) c) }
