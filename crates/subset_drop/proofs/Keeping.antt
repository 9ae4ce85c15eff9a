-- Which members stay, and what is kept of a front of the list.
use Rattle.std.proofs.Common.{◌≡◌, ℕ, ◌+◌, ◌<◌, ◌≤◌, ◌↔◌, List, [], ◌∷◌, ◌++◌, length, map, get_or, refl, subst, ◌∙◌, length-append, ltb, Bool, true, false, not, IsTrue, arith}
use Rattle.std.proofs.lemmas.Bool.{cases_lt, false≢true, lt-ltb, ltb-true}
use Rattle.std.proofs.lemmas.List.{get_or_append_left, get_or_default, map-append}
use Rattle.std.proofs.lemmas.List.Elements.{All-contains, Contains-push, Contains-push_cases, Contains-append_left, Contains-get_or}
use Rattle.std.proofs.Math.Seq.{get_or-append_seam}
use Rattle.std.specs.Bool.{MatchBool}
use Rattle.std.specs.List.{All, Contains}
use mathlib.Core.Logic.{inl, inr}
use Rattle.sky_math.specs.Lists.{EachTwo}
use Rattle.sky_units.specs.TrackletData.{TrackSetData}
use Rattle.sky_units.specs.Tracks.{numbers_of}
use Rattle.subset_drop.specs.Index.{AreHolders, IsIndex}
use Rattle.subset_drop.specs.Kept.{AreKept, HasAllOf, Passes, Stays, numbers_at}

-- so it is with the first members
abbrev pub PassesFirst : List (List ℕ) → ℕ → ℕ → Type 0
PassesFirst lists place count = (other : ℕ) → other < count → Passes lists place other

pub passes_more : (lists : List (List ℕ)) (place count : ℕ) → PassesFirst lists place count → Passes lists place count → PassesFirst lists place (count + 1)
passes_more lists place count h one other k = elim (cases_lt other count) [
  | inl less ↦ h other less
  | inr not_less ↦ (let same : count ≡ other = omega arith in subst (Passes lists place) same one)
]

pub not_before : (one other : ℕ) → (ltb one other ≡ true → ⊥) → other ≤ one
not_before one other no_less = elim (cases_lt one other) [ inl less ↦ absurd (no_less (lt-ltb one other less)) | inr not_less ↦ not_less ]

pub stays_at : (lists : List (List ℕ)) (place : ℕ) → place < length lists → PassesFirst lists place (length lists) → Stays lists place
stays_at lists place l h = record {
  maximal = λ other k a. (h other k a).0;
  first = λ earlier k a b. (let late : place ≤ earlier = (h earlier (omega arith) a).1 in omega arith);
}

pub goes : (lists : List (List ℕ)) (place other : ℕ) → other < length lists → HasAllOf lists other place → (HasAllOf lists place other → other < place) → Stays lists place → ⊥
goes lists place other l a early s =
    let back : HasAllOf lists place other = s.maximal other l a in
    s.first other (early back) a back

-- what a comparison with another member tells
pub judged : (gives : Bool) (lists : List (List ℕ)) (other place : ℕ) → other < length lists → MatchBool gives (HasAllOf lists other place × (HasAllOf lists place other → IsTrue (ltb other place))) (HasAllOf lists other place → HasAllOf lists place other × (IsTrue (ltb other place) → ⊥)) → MatchBool (not gives) (Passes lists place other) (Stays lists place → ⊥)
judged true lists other place l says = goes lists place other l says.0 (λ back. ltb-true other place (says.1 back))
judged false lists other place l says = λ among. (let w = says among in (w.0, not_before other place w.1))

-- the answer of a test that tells more than it is asked
pub answers : {More Asked : Type 0} → (answer : Bool) → (More → Asked) → MatchBool answer More (Asked → ⊥) → IsTrue answer ↔ Asked
answers true tells more = (λ yes. tells more, λ asked. refl)
answers false tells not_asked = (λ yes. absurd (false≢true yes), λ asked. absurd (not_asked asked))

-- who has all numbers of a member is among those that hold one of them
pub stays_beside : (lists : List (List ℕ)) (place : ℕ) (pairs holders : List (ℕ × ℕ)) (numbers : List ℕ) → place < length lists → IsIndex lists pairs → numbers ≡ numbers_at lists place → (number : ℕ) × Contains numbers number × AreHolders pairs number holders → All (λ (pair : ℕ × ℕ). Passes lists place pair.1) holders → Stays lists place
stays_beside lists place pairs holders numbers l index is w all = stays_at lists place l (λ other k among.
    let of_place : Contains (numbers_at lists place) w.0 = subst (λ list. Contains list w.0) is w.1 in
    let of_other : Contains (numbers_at lists other) w.0 = All-contains (Contains (numbers_at lists other)) (numbers_at lists place) w.0 among of_place in
    let held : Contains holders (w.0, other) = w.2.complete other (index.held.complete other w.0 k of_other) in
    All-contains (λ (pair : ℕ × ℕ). Passes lists place pair.1) holders (w.0, other) all held among)

-- what is kept of the first members
pub record AreKeptOfFirst (lists : List (List ℕ)) (sets : List TrackSetData) (count : ℕ) (kept : List TrackSetData) : Type 0 where
  pub places : List ℕ
  pub rising : EachTwo (λ one other. one < other) places
  pub exactly : (place : ℕ) → Contains places place ↔ ((place < count) × Stays lists place)
  pub members : kept ≡ map (λ place. get_or sets place []) places

in_none : {X : Type 0} → (x : X) → Contains [] x → ⊥
in_none x c = let l : c.0 < 0 = c.1 in omega arith

pub kept_none : (lists : List (List ℕ)) (sets : List TrackSetData) → AreKeptOfFirst lists sets 0 []
kept_none lists sets = record {
  places = [];
  rising = λ i j d ij jn. absurd (omega arith);
  exactly = λ place. (λ c. absurd (in_none place c), λ w. (let l : place < 0 = w.0 in absurd (omega arith)));
  members = refl;
}

-- a place behind rising ones
rising_more : (xs : List ℕ) (x : ℕ) → ((y : ℕ) → Contains xs y → y < x) → EachTwo (λ one other. one < other) xs → EachTwo (λ one other. one < other) (xs ++ x ∷ [])
rising_more xs x below h i j d ij jn =
    let size : length (xs ++ x ∷ []) ≡ length xs + 1 = length-append xs (x ∷ []) in
    let first : get_or (xs ++ x ∷ []) i d ≡ get_or xs i d = get_or_append_left xs (x ∷ []) d i (omega arith) in
    elim (cases_lt j (length xs)) [
      | inl inside ↦ (let second : get_or (xs ++ x ∷ []) j d ≡ get_or xs j d = get_or_append_left xs (x ∷ []) d j inside in rw (first, second) (h i j d ij inside))
      | inr outside ↦ (
          let at_end : length xs ≡ j = omega arith in
          let second : get_or (xs ++ x ∷ []) (length xs) d ≡ x = get_or-append_seam xs x [] d in
          rw (first, ← at_end, second) (below (get_or xs i d) (Contains-get_or xs i d (omega arith))))
    ]

pub kept_more : (lists : List (List ℕ)) (sets kept : List TrackSetData) (count : ℕ) (set : TrackSetData) → count < length sets → set ≡ get_or sets count set → Stays lists count → AreKeptOfFirst lists sets count kept → AreKeptOfFirst lists sets (count + 1) (kept ++ set ∷ [])
kept_more lists sets kept count set l is s k = record {
  places = k.places ++ count ∷ [];
  rising = rising_more k.places count (λ y c. ((k.exactly y).0 c).0) k.rising;
  exactly = λ place. (
    λ c. elim (Contains-push_cases k.places count place c) [
      | inl d ↦ (let w = (k.exactly place).0 d in let less : place < count = w.0 in (omega arith, w.1))
      | inr e ↦ (omega arith, subst (Stays lists) e s)
    ],
    λ w. elim (cases_lt place count) [
      | inl less ↦ Contains-append_left k.places (count ∷ []) place ((k.exactly place).1 (less, w.1))
      | inr not_less ↦ (
          let less : place < count + 1 = w.0 in
          let same : count ≡ place = omega arith in
          subst (Contains (k.places ++ count ∷ [])) same (Contains-push k.places count))
    ],
  );
  members =
      let at : set ≡ get_or sets count [] = is ∙ get_or_default sets count set [] l in
      let maps : map (λ place. get_or sets place []) (k.places ++ count ∷ []) ≡ map (λ place. get_or sets place []) k.places ++ get_or sets count [] ∷ [] = map-append (λ place. get_or sets place []) k.places (count ∷ []) in
      rw (maps, ← at, ← k.members) refl;
}

pub kept_without : (lists : List (List ℕ)) (sets kept : List TrackSetData) (count : ℕ) → (Stays lists count → ⊥) → AreKeptOfFirst lists sets count kept → AreKeptOfFirst lists sets (count + 1) kept
kept_without lists sets kept count s k = record {
  places = k.places;
  rising = k.rising;
  exactly = λ place. (
    λ c. (let w = (k.exactly place).0 c in let less : place < count = w.0 in (omega arith, w.1)),
    λ w. elim (cases_lt place count) [
      | inl less ↦ (k.exactly place).1 (less, w.1)
      | inr not_less ↦ (
          let less : place < count + 1 = w.0 in
          let same : place ≡ count = omega arith in
          absurd (s (subst (Stays lists) same w.1)))
    ],
  );
  members = k.members;
}

pub kept_all : (sets kept : List TrackSetData) → AreKeptOfFirst (map numbers_of sets) sets (length sets) kept → AreKept sets kept
kept_all sets kept k = record { places = k.places; rising = k.rising; exactly = k.exactly; members = k.members }
