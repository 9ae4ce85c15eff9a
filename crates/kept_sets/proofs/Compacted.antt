-- Sets without empty places, and their index.
use Rattle.std.proofs.Common.{◌≡◌, ℕ, zero, suc, ◌+◌, ◌≤◌, Bool, true, false, cond, List, [], ◌∷◌, ◌++◌, length, map, refl, sym, subst, ap, ◌∙◌, arith, length-append}
use Rattle.std.proofs.lemmas.Bool.{cases_order}
use Rattle.std.proofs.lemmas.List.{append-nil}
use Rattle.std.proofs.lemmas.List.Elements.{filter-append}
use Rattle.std.specs.List.{Contains, filter}
use mathlib.Core.Logic.{inl, inr}
use Rattle.kept_sets.specs.Lists.{AreDifferent}
use Rattle.kept_sets.specs.Stored.{IsFound, IsStore, IsWider, at, filled, is_filled}
use Rattle.kept_sets.proofs.Basics.{filter_all, in_none, of_filter}
use Rattle.kept_sets.proofs.Emptied.{different_filled}
use Rattle.kept_sets.proofs.Entered.{found_all, in_sets}

-- the sets so far have the next places
pub record HasIndexed (sets : List (List ℕ)) (place seen : ℕ) (index : List (List ℕ)) : Type 0 where
  pub size : place ≡ length (filled sets)
  pub few : place ≤ seen
  pub found : IsFound (filled sets) index

pub indexed_none : HasIndexed [] 0 0 []
indexed_none = record { size = refl; few = omega arith; found = record { places = λ place item c. absurd (in_none item c) } }

with_filled : (sets : List (List ℕ)) (set : List ℕ) → is_filled set ≡ true → filled (sets ++ set ∷ []) ≡ filled sets ++ set ∷ []
with_filled sets set e = filter-append is_filled sets (set ∷ []) ∙ ap (λ b. filled sets ++ cond b (set ∷ []) []) e

without_filled : (sets : List (List ℕ)) (set : List ℕ) → is_filled set ≡ false → filled (sets ++ set ∷ []) ≡ filled sets
without_filled sets set e = filter-append is_filled sets (set ∷ []) ∙ ap (λ b. filled sets ++ cond b (set ∷ []) []) e ∙ append-nil (filled sets)

pub indexed_with : (sets : List (List ℕ)) (set : List ℕ) (place seen : ℕ) (before after : List (List ℕ)) → is_filled set ≡ true → HasIndexed sets place seen before → IsWider before after → ((item : ℕ) → Contains set item → Contains (at after item) place) → HasIndexed (sets ++ set ∷ []) (place + 1) (seen + 1) after
indexed_with sets set place seen before after e has wider entered =
    let size = has.size in
    let few = has.few in
    let longer : length (filled sets ++ set ∷ []) ≡ length (filled sets) + 1 = length-append (filled sets) (set ∷ []) in
    let long : place + 1 ≡ length (filled sets ++ set ∷ []) = omega arith in
    record {
      size = long ∙ ap length (sym (with_filled sets set e));
      few = omega arith;
      found = subst (λ l. IsFound l after) (sym (with_filled sets set e)) (found_all (filled sets) (set ∷ []) before after has.found wider (one size));
    }
  where
    one : place ≡ length (filled sets) → (k item : ℕ) → Contains (at (set ∷ []) k) item → Contains (at after item) (length (filled sets) + k)
    one size zero item c = subst (Contains (at after item)) (omega arith) (entered item c)
    one size (suc k) item c = absurd (in_none item c)

pub indexed_without : (sets : List (List ℕ)) (set : List ℕ) (place seen : ℕ) (index : List (List ℕ)) → is_filled set ≡ false → HasIndexed sets place seen index → HasIndexed (sets ++ set ∷ []) place (seen + 1) index
indexed_without sets set place seen index e has =
    let few = has.few in
    record {
      size = has.size ∙ ap length (sym (without_filled sets set e));
      few = omega arith;
      found = subst (λ l. IsFound l index) (sym (without_filled sets set e)) has.found;
    }

-- a test of what each element is mapped to
pub filter_map_test : {X : Type 0} (f : X → List ℕ) (p : List ℕ → Bool) (xs : List X) → map f (filter (λ x. p (f x)) xs) ≡ filter p (map f xs)
filter_map_test f p [] = refl
filter_map_test f p (x ∷ xs) = elim (p (f x)) as (λ b. map f (cond b (x ∷ filter (λ y. p (f y)) xs) (filter (λ y. p (f y)) xs)) ≡ cond b (f x ∷ filter p (map f xs)) (filter p (map f xs))) [
  | true ↦ ap (λ l. f x ∷ l) (filter_map_test f p xs)
  | false ↦ filter_map_test f p xs
]

pub filled_again : (sets : List (List ℕ)) → filled (filled sets) ≡ filled sets
filled_again sets = filter_all is_filled (filled sets) (λ set c. (of_filter is_filled sets set c).1)

-- different sets are each at one place
apart_of : (sets : List (List ℕ)) → AreDifferent sets → (place other item : ℕ) → Contains (at sets place) item → at sets place ≡ at sets other → place ≡ other
apart_of sets once place other item c e =
    let one = in_sets sets place item c in
    let two = in_sets sets other item (subst (λ s. Contains s item) e c) in
    elim (cases_order place other) [
      | inl s ↦ s
      | inr w ↦ elim w [
        | inl l ↦ absurd (once place other [] l two e)
        | inr l ↦ absurd (once other place [] l one (sym e))
      ]
    ]

pub compacted : (sets before index : List (List ℕ)) → IsStore sets before → IsFound (filled sets) index → IsStore (filled sets) index
compacted sets before index store found = record { found = found; apart = apart_of (filled sets) (different_filled sets store.apart) }
