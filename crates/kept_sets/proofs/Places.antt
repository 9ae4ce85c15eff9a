-- Places of sets: those that hold an item, those of grown sets without what came, and the one of a set.
use Rattle.std.proofs.Common.{◌≡◌, ℕ, ◌+◌, ◌<◌, ◌≤◌, List, [], ◌∷◌, ◌++◌, length, map, take, get_or, sym, subst, ap, ◌∙◌, ◌↔◌, arith}
use Rattle.std.proofs.lemmas.List.{take_all, take_more, map-append, get_or-map, length-map}
use Rattle.std.proofs.lemmas.List.Elements.{Contains-append_left, Contains-push, Contains-push_cases}
use Rattle.std.specs.List.{Contains}
use mathlib.Core.Logic.{◌⊎◌, inl, inr}
use Rattle.kept_sets.specs.Lists.{HoldsOne, less}
use Rattle.kept_sets.specs.Stored.{IsFound, IsStore, at}
use Rattle.kept_sets.proofs.Basics.{in_front, in_none}

pub taken : {X : Type 0} → (xs : List X) (i : ℕ) (x : X) → i < length xs → x ≡ get_or xs i x → take (i + 1) xs ≡ take i xs ++ x ∷ []
taken xs i x h e = take_more xs i x h ∙ ap (λ y. take i xs ++ y ∷ []) (sym e)

pub taken_map : {X Y : Type 0} → (f : X → Y) (xs : List X) (i : ℕ) (x : X) → i < length xs → x ≡ get_or xs i x → take (i + 1) (map f xs) ≡ take i (map f xs) ++ f x ∷ []
taken_map f xs i x h e =
    let there : f x ≡ get_or (map f xs) i (f x) = ap f e ∙ sym (get_or-map f xs i x (f x) h) in
    taken (map f xs) i (f x) (simp length-map h) there

pub took_map : {X Y : Type 0} → (f : X → Y) (xs : List X) (i : ℕ) → length xs ≤ i → take i (map f xs) ≡ map f xs
took_map f xs i h = take_all i (map f xs) (simp length-map h)

-- old places, and those of some whose sets hold an item
pub record HasHolding (sets : List (List ℕ)) (item : ℕ) (old holders places : List ℕ) : Type 0 where
  pub exactly : (place : ℕ) → Contains places place ↔ (Contains old place ⊎ (Contains holders place × Contains (at sets place) item))

module _ (sets : List (List ℕ)) (item : ℕ) (old : List ℕ) where
  pub holding_none : HasHolding sets item old [] old
  holding_none = record { exactly = λ place. (λ c. inl c, λ w. elim w [ inl c ↦ c | inr d ↦ absurd (in_none place d.0) ]) }

  pub holding_with : (holders places : List ℕ) (place : ℕ) → Contains (at sets place) item → HasHolding sets item old holders places → HasHolding sets item old (holders ++ place ∷ []) (places ++ place ∷ [])
  holding_with holders places place h has = record {
    exactly = λ other. (
      λ c. elim (Contains-push_cases places place other c) [
        | inl d ↦ elim ((has.exactly other).0 d) [ inl a ↦ inl a | inr b ↦ inr (Contains-append_left holders (place ∷ []) other b.0, b.1) ]
        | inr e ↦ inr (subst (Contains (holders ++ place ∷ [])) e (Contains-push holders place), subst (λ p. Contains (at sets p) item) e h)
      ],
      λ w. elim w [
        | inl a ↦ Contains-append_left places (place ∷ []) other ((has.exactly other).1 (inl a))
        | inr b ↦ elim (Contains-push_cases holders place other b.0) [
          | inl d ↦ Contains-append_left places (place ∷ []) other ((has.exactly other).1 (inr (d, b.1)))
          | inr e ↦ subst (Contains (places ++ place ∷ [])) e (Contains-push places place)
        ]
      ],
    );
  }

  pub holding_without : (holders places : List ℕ) (place : ℕ) → (Contains (at sets place) item → ⊥) → HasHolding sets item old holders places → HasHolding sets item old (holders ++ place ∷ []) places
  holding_without holders places place n has = record {
    exactly = λ other. (
      λ c. elim ((has.exactly other).0 c) [ inl a ↦ inl a | inr b ↦ inr (Contains-append_left holders (place ∷ []) other b.0, b.1) ],
      λ w. elim w [
        | inl a ↦ (has.exactly other).1 (inl a)
        | inr b ↦ elim (Contains-push_cases holders place other b.0) [
          | inl d ↦ (has.exactly other).1 (inr (d, b.1))
          | inr e ↦ absurd (n (subst (λ p. Contains (at sets p) item) (sym e) b.1))
        ]
      ],
    );
  }

-- the places of the sets that hold one of some items
pub record HasHoldingOne (sets : List (List ℕ)) (items places : List ℕ) : Type 0 where
  pub exactly : (place : ℕ) → Contains places place ↔ HoldsOne items (at sets place)

pub holding_one_none : (sets : List (List ℕ)) → HasHoldingOne sets [] []
holding_one_none sets = record { exactly = λ place. (λ c. absurd (in_none place c), λ w. absurd (in_none w.0 w.1)) }

pub holding_one_more : (sets index : List (List ℕ)) (items old places : List ℕ) (item : ℕ) → IsFound sets index → ((place : ℕ) → Contains places place ↔ (Contains old place ⊎ (Contains (at index item) place × Contains (at sets place) item))) → HasHoldingOne sets items old → HasHoldingOne sets (items ++ item ∷ []) places
holding_one_more sets index items old places item found more has = record {
  exactly = λ place. (
    λ c. elim ((more place).0 c) [
      | inl d ↦ (let w = (has.exactly place).0 d in (w.0, Contains-append_left items (item ∷ []) w.0 w.1, w.2))
      | inr b ↦ (item, Contains-push items item, b.1)
    ],
    λ w. elim (Contains-push_cases items item w.0 w.1) [
      | inl d ↦ (more place).1 (inl ((has.exactly place).1 (w.0, d, w.2)))
      | inr e ↦
          let here : Contains (at sets place) item = subst (Contains (at sets place)) (sym e) w.2 in
          (more place).1 (inr (found.places place item here, here))
    ],
  );
}

-- the places of the sets that are grown ones without what came
pub record HasExtended (sets : List (List ℕ)) (came : List ℕ) (grown : List (List ℕ)) (places : List ℕ) : Type 0 where
  pub exactly : (place : ℕ) → Contains places place ↔ (Contains (map (less came) grown) (at sets place) × (0 < length (at sets place)))

pub extended_none : (sets : List (List ℕ)) (came : List ℕ) → HasExtended sets came [] []
extended_none sets came = record { exactly = λ place. (λ c. absurd (in_none place c), λ w. absurd (in_none (at sets place) w.0)) }

module _ (sets index : List (List ℕ)) (came : List ℕ) (grown : List (List ℕ)) (set : List ℕ) (places : List ℕ) (has : HasExtended sets came grown places) where
  more_grown : (rest : List ℕ) → Contains (map (less came) (grown ++ set ∷ [])) rest ↔ (Contains (map (less came) grown) rest ⊎ (less came set ≡ rest))
  more_grown rest =
      let e : map (less came) (grown ++ set ∷ []) ≡ map (less came) grown ++ less came set ∷ [] = map-append (less came) grown (set ∷ []) in (
        λ c. Contains-push_cases (map (less came) grown) (less came set) rest (subst (λ l. Contains l rest) e c),
        λ w. subst (λ l. Contains l rest) (sym e) (elim w [
          | inl c ↦ Contains-append_left (map (less came) grown) (less came set ∷ []) rest c
          | inr s ↦ subst (Contains (map (less came) grown ++ less came set ∷ [])) s (Contains-push (map (less came) grown) (less came set))
        ]),
      )

  first_in : (rest : List ℕ) → 0 < length rest → (item : ℕ) × Contains rest item
  first_in [] l = absurd (omega arith)
  first_in (x ∷ xs) l = (x, in_front x xs)

  pub extended_there : (place : ℕ) → IsStore sets index → (at sets place ≡ less came set) × (0 < length (less came set)) → HasExtended sets came (grown ++ set ∷ []) (places ++ place ∷ [])
  extended_there place store there =
      let filled : 0 < length (at sets place) = subst (λ (l : List ℕ). 0 < length l) (sym there.0) there.1 in
      record {
        exactly = λ other. (
          λ c. elim (Contains-push_cases places place other c) [
            | inl d ↦ (let w = (has.exactly other).0 d in ((more_grown (at sets other)).1 (inl w.0), w.1))
            | inr e ↦ subst (λ p. Contains (map (less came) (grown ++ set ∷ [])) (at sets p) × (0 < length (at sets p))) e ((more_grown (at sets place)).1 (inr (sym there.0)), filled)
          ],
          λ w. elim ((more_grown (at sets other)).0 w.0) [
            | inl d ↦ Contains-append_left places (place ∷ []) other ((has.exactly other).1 (d, w.1))
            | inr s ↦
                let one = first_in (at sets place) filled in
                let same : place ≡ other = store.apart place other one.0 one.1 (there.0 ∙ s) in
                subst (Contains (places ++ place ∷ [])) same (Contains-push places place)
          ],
        );
      }

  pub extended_nowhere : ((place : ℕ) → at sets place ≡ less came set → less came set ≡ []) → HasExtended sets came (grown ++ set ∷ []) places
  extended_nowhere never = record {
    exactly = λ other. (
      λ c. (let w = (has.exactly other).0 c in ((more_grown (at sets other)).1 (inl w.0), w.1)),
      λ w. elim ((more_grown (at sets other)).0 w.0) [
        | inl d ↦ (has.exactly other).1 (d, w.1)
        | inr s ↦
            let empty : at sets other ≡ [] = sym s ∙ never other (sym s) in
            let no_items : length (at sets other) ≡ 0 = ap length empty in
            absurd (omega arith)
      ],
    );
  }
