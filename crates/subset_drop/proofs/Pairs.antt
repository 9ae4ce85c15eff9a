-- The index: it has all pairs, in order, and the part between two places has all pairs of a number.
use Rattle.std.proofs.Common.{◌≡◌, ℕ, ◌+◌, ◌-◌, ◌<◌, ◌≤◌, List, [], ◌++◌, length, map, take, drop, get_or, sym, subst, ap, ◌∙◌, arith}
use Rattle.std.proofs.lemmas.Bool.{cases_lt}
use Rattle.std.proofs.lemmas.List.{get_or-map, get_or-take, get_or-drop, length-map, length-take-le, length-drop}
use Rattle.std.proofs.lemmas.List.Elements.{All-append, All-contains, All-contains_itself, All-drop, All-map, All-take, Contains-append_left, Contains-append_right, Contains-get_or}
use Rattle.std.proofs.lemmas.List.Sorted.{Contains-permutation, IsPermutation-sym}
use Rattle.std.specs.List.{Contains}
use Rattle.std.specs.List.Sorted.{IsNonDecreasingBy, IsPartitionPoint, IsPermutation}
use mathlib.Core.Logic.{inl, inr}
use Rattle.subset_drop.specs.Kept.{numbers_at}
use Rattle.subset_drop.specs.Index.{AreHolders, HasPairsOf, IsIndex}

Contains-map : {X Y : Type 0} → (f : X → Y) (xs : List X) (x : X) → Contains xs x → Contains (map f xs) (f x)
Contains-map f xs x c =
    let l : c.0 < length xs = c.1 in
    (c.0, simp length-map l, get_or-map f xs c.0 x (f x) l ∙ ap f c.2)

in_none : {X : Type 0} → (x : X) → Contains [] x → ⊥
in_none x c = let l : c.0 < 0 = c.1 in omega arith

pub no_pairs : (lists : List (List ℕ)) → HasPairsOf lists 0 []
no_pairs lists = record {
  places = λ k d l. absurd (omega arith);
  complete = λ place number l c. absurd (omega arith);
}

-- the pairs of one member
abbrev pub paired : List (List ℕ) → ℕ → List (ℕ × ℕ)
paired lists place = map (λ (number : ℕ). (number, place)) (numbers_at lists place)

pub pairs_more : (lists : List (List ℕ)) (count : ℕ) (pairs : List (ℕ × ℕ)) → count < length lists → HasPairsOf lists count pairs → HasPairsOf lists (count + 1) (pairs ++ paired lists count)
pairs_more lists count pairs l h =
    record {
      places = All-append (λ (pair : ℕ × ℕ). pair.1 < length lists) pairs (paired lists count) h.places (All-map (λ (pair : ℕ × ℕ). pair.1 < length lists) (λ (number : ℕ). (number, count)) (numbers_at lists count) (λ k d n. l));
      complete = λ place number p c. elim (cases_lt place count) [
        | inl less ↦ Contains-append_left pairs (paired lists count) (number, place) (h.complete place number less c)
        | inr not_less ↦ (
            let same : place ≡ count = omega arith in
            let there : Contains (numbers_at lists count) number = subst (λ i. Contains (numbers_at lists i) number) same c in
            subst (λ i. Contains (pairs ++ paired lists count) (number, i)) (sym same) (Contains-append_right pairs (paired lists count) (number, count) (Contains-map (λ (number : ℕ). (number, count)) (numbers_at lists count) number there)))
      ];
    }

pub index_made : (lists : List (List ℕ)) (pairs sorted : List (ℕ × ℕ)) → HasPairsOf lists (length lists) pairs → IsPermutation pairs sorted → IsNonDecreasingBy (λ (pair : ℕ × ℕ). pair.0) sorted → IsIndex lists sorted
index_made lists pairs sorted h p rising = record {
  rising = rising;
  held = record {
    places = λ k d l. All-contains (λ (pair : ℕ × ℕ). pair.1 < length lists) pairs (get_or sorted k d) h.places (Contains-permutation sorted pairs (get_or sorted k d) (IsPermutation-sym pairs sorted p) (Contains-get_or sorted k d l));
    complete = λ place number l c. Contains-permutation pairs sorted (number, place) p (h.complete place number l c);
  };
}

-- where the pairs of a number begin and end
abbrev pub IsBegin : List (ℕ × ℕ) → ℕ → ℕ → Type 0
IsBegin pairs number first = IsPartitionPoint (λ (pair : ℕ × ℕ). pair.0 < number) (λ (pair : ℕ × ℕ). number ≤ pair.0) pairs first

abbrev pub IsEnd : List (ℕ × ℕ) → ℕ → ℕ → Type 0
IsEnd pairs number end = IsPartitionPoint (λ (pair : ℕ × ℕ). pair.0 ≤ number) (λ (pair : ℕ × ℕ). number < pair.0) pairs end

pub in_order : (pairs : List (ℕ × ℕ)) (number first end : ℕ) → first ≤ length pairs → IsBegin pairs number first → IsEnd pairs number end → first ≤ end
in_order pairs number first end l begins ends = elim (cases_lt end first) [
  | inl less ↦ (
      let below : (get_or pairs end (0, 0)).0 < number = begins.0 end (0, 0) (omega arith) less in
      let above : number < (get_or pairs end (0, 0)).0 = ends.1 end (0, 0) (omega arith) (omega arith) in
      absurd (omega arith))
  | inr not_less ↦ not_less
]

-- a pair of the number stands between the two places
between : (pairs : List (ℕ × ℕ)) (number first end place k : ℕ) → IsBegin pairs number first → IsEnd pairs number end → k < length pairs → get_or pairs k (number, place) ≡ (number, place) → (first ≤ k) × (k < end)
between pairs number first end place k begins ends l e =
    let same : (get_or pairs k (number, place)).0 ≡ number = ap (λ (pair : ℕ × ℕ). pair.0) e in (
      elim (cases_lt k first) [
        | inl less ↦ (let below : (get_or pairs k (number, place)).0 < number = begins.0 k (number, place) (omega arith) less in absurd (omega arith))
        | inr not_less ↦ not_less
      ],
      elim (cases_lt k end) [
        | inl less ↦ less
        | inr not_less ↦ (let above : number < (get_or pairs k (number, place)).0 = ends.1 k (number, place) not_less l in absurd (omega arith))
      ],
    )

pub holders_between : (pairs : List (ℕ × ℕ)) (number first end : ℕ) → end ≤ length pairs → IsBegin pairs number first → IsEnd pairs number end → AreHolders pairs number (take (end - first) (drop first pairs))
holders_between pairs number first end l begins ends = record {
  among = All-take (Contains pairs) (end - first) (drop first pairs) (All-drop (Contains pairs) first pairs (All-contains_itself pairs));
  complete = λ place c.
      let k : ℕ = c.0 in
      let inside : k < length pairs = c.1 in
      let w = between pairs number first end place c.0 begins ends c.1 c.2 in
      let from : first ≤ k = w.0 in
      let to : k < end = w.1 in
      let rest : length (drop first pairs) ≡ length pairs - first = length-drop first pairs in
      let size : length (take (end - first) (drop first pairs)) ≡ end - first = length-take-le (end - first) (drop first pairs) (omega arith) in
      let at : first + (c.0 - first) ≡ c.0 = omega arith in
      let near : c.0 - first < end - first = omega arith in
      (c.0 - first, omega arith, get_or-take (end - first) (drop first pairs) (c.0 - first) (number, place) near ∙ (get_or-drop first pairs (c.0 - first) (number, place) ∙ (ap (λ i. get_or pairs i (number, place)) at ∙ c.2)));
}
