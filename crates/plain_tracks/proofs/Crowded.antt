-- A list of different numbers that is no shorter than another one and has only numbers of it has all of them.
use Rattle.std.proofs.Common.{◌≡◌, ℕ, ◌+◌, ◌≤◌, Vec, Global, map, List, [], ◌∷◌, ◌++◌, length, get_or, subst, ap, ◌∙◌, length-append, arith}
use Rattle.std.proofs.lemmas.List.Elements.{All-contains, All-map, All-head, All-tail, Contains-get_or, Contains-append_left, Contains-append_right, Contains-append_cases}
use Rattle.std.specs.List.{All, Contains}
use mathlib.Core.Logic.{◌⊎◌, inl, inr}
use Rattle.sky_units.specs.Tracks.{AreAmong}
use Rattle.plain_tracks.specs.Numbers.{AreDifferent, IsMaximalAmong}
use Rattle.night_tree.proofs.EachTwoOf.{each_two_head, each_two_tail}
use Rattle.plain_tracks.proofs.Entries.{in_front, in_rest, front_or_rest}
use Rattle.plain_tracks.proofs.Steps.{in_none}

-- a list around one of its members
around : (xs : List ℕ) (x : ℕ) → Contains xs x → (before : List ℕ) × (after : List ℕ) × (xs ≡ before ++ x ∷ after)
around [] x c = absurd (in_none x c)
around (y ∷ ys) x c = elim (front_or_rest y ys x c) [
  | inl e ↦ ([], ys, ap (λ z. z ∷ ys) e)
  | inr d ↦ (let w = around ys x d in (y ∷ w.0, w.1, ap (λ zs. y ∷ zs) w.2))
]

-- the members around one, and it
with_middle : (before after : List ℕ) (x y : ℕ) → Contains (before ++ x ∷ after) y → (x ≡ y) ⊎ Contains (before ++ after) y
with_middle before after x y c = elim (Contains-append_cases before (x ∷ after) y c) [
  | inl d ↦ inr (Contains-append_left before after y d)
  | inr d ↦ elim (front_or_rest x after y d) [ inl e ↦ inl e | inr f ↦ inr (Contains-append_right before after y f) ]
]

pub crowded : (xs ys : List ℕ) → AreDifferent xs → length ys ≤ length xs → AreAmong xs ys → AreAmong ys xs
crowded [] ys d l h = λ k e n. absurd (omega arith)
crowded (x ∷ xs) ys d l h =
    let w = around ys x (All-head (Contains ys) x xs h) in
    let others : List ℕ = w.0 ++ w.1 in
    let differ : All (λ y. x ≡ y → ⊥) xs = each_two_head (λ a b. a ≡ b → ⊥) x xs d in
    let size : length ys ≡ length w.0 + (length w.1 + 1) = ap length w.2 ∙ (length-append w.0 (x ∷ w.1) ∙ omega arith) in
    let size' : length (w.0 ++ w.1) ≡ length w.0 + length w.1 = length-append w.0 w.1 in
    let fewer : length (w.0 ++ w.1) ≤ length xs = omega arith in
    let among : AreAmong xs (w.0 ++ w.1) = λ k e n.
    let y : ℕ = get_or xs k e in
    let c : Contains (w.0 ++ x ∷ w.1) (get_or xs k e) = subst (λ zs. Contains zs (get_or xs k e)) w.2 (All-tail (Contains ys) x xs h k e n) in
    elim (with_middle w.0 w.1 x (get_or xs k e) c) as (λ _. Contains (w.0 ++ w.1) (get_or xs k e)) [ inl s ↦ absurd (differ k e n s) | inr f ↦ f ] in
    let rest : AreAmong (w.0 ++ w.1) xs = crowded xs (w.0 ++ w.1) (each_two_tail (λ a b. a ≡ b → ⊥) x xs d) fewer among in
    λ k e n.
    let c : Contains (w.0 ++ x ∷ w.1) (get_or ys k e) = subst (λ zs. Contains zs (get_or ys k e)) w.2 (Contains-get_or ys k e n) in
    elim (with_middle w.0 w.1 x (get_or ys k e) c) as (λ _. Contains (x ∷ xs) (get_or ys k e)) [
      | inl s ↦ subst (Contains (x ∷ xs)) s (in_front x xs)
      | inr f ↦ in_rest x xs (get_or ys k e) (All-contains (Contains xs) (w.0 ++ w.1) (get_or ys k e) rest f)
    ]

-- a list that none of some lists exceeds is properly contained in none of them
pub crowded_all : (numbers : List ℕ) (lists : List (Vec ℕ Global)) (longest : ℕ) → AreDifferent numbers → All (λ list. length list.items ≤ longest) lists → longest ≤ length numbers → IsMaximalAmong (map (λ list. list.items) lists) numbers
crowded_all numbers lists longest d short l = λ other k among.
    let all : All (λ xs. length xs ≤ longest) (map (λ list. list.items) lists) = All-map (λ xs. length xs ≤ longest) (λ list. list.items) lists short in
    let one : length other ≤ longest = All-contains (λ xs. length xs ≤ longest) (map (λ list. list.items) lists) other all k in
    crowded numbers other d (omega arith) among
