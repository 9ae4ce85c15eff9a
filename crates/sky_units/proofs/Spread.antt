-- The first two spots that break the spread rule are those before which each two are near.
use Rattle.std.proofs.Common.{◌≡◌, ℕ, ◌+◌, ◌<◌, ◌≤◌, List, length, get_or, refl, sym, subst, arith}
use Rattle.std.proofs.lemmas.Bool.{cases_lt}
use Rattle.std.proofs.lemmas.List.{get_or_read}
use mathlib.Core.Logic.{◌⊎◌, inl, inr}
use Rattle.sky_units.specs.Arcs.{AreNear, MeetSpreadRule}
use Rattle.sky_units.specs.Faults.{AreApart, IsFirstFault}
use Rattle.sky_units.specs.SpotData.{SpotData}
use Rattle.sky_units.specs.declared.axis.Axis.{Axis}
use Rattle.sky_units.specs.declared.axis.Axis.TheVariants.{Ra, Dec}

abbrev pub NearOnBoth : SpotData → SpotData → Type 0
NearOnBoth a b = AreNear Ra a b × AreNear Dec a b

-- each two spots are near whose first stands before the place i, or there with the second before j
abbrev pub NearBefore : List SpotData → ℕ → ℕ → Type 0
NearBefore spots i j = (k l : ℕ) (d : SpotData) → k < l → l < length spots → (k < i) ⊎ ((k ≡ i) × (l < j)) → NearOnBoth (get_or spots k d) (get_or spots l d)

pub near_start : (spots : List SpotData) → NearBefore spots 0 0
near_start spots = λ k l d kl ln h. elim h [ inl m ↦ absurd (omega arith) | inr m ↦ absurd (omega arith) ]

pub near_row : (spots : List SpotData) (i : ℕ) → NearBefore spots i 0 → NearBefore spots i (i + 1)
near_row spots i n = λ k l d kl ln h. elim h [ inl m ↦ n k l d kl ln (inl m) | inr m ↦ absurd (omega (arith, m.0, m.1)) ]

pub near_more : (spots : List SpotData) (i j : ℕ) (a b : SpotData) → i < length spots → j < length spots → a ≡ get_or spots i a → b ≡ get_or spots j b → NearOnBoth a b → NearBefore spots i j → NearBefore spots i (j + 1)
near_more spots i j a b il jl ea eb step n = λ k l d kl ln h. elim h [
  | inl m ↦ n k l d kl ln (inl m)
  | inr m ↦ elim (cases_lt l j) as (λ _. NearOnBoth (get_or spots k d) (get_or spots l d)) [
    | inl s ↦ n k l d kl ln (inr (m.0, s))
    | inr s ↦
        let e : j ≡ l = omega (arith, m.1) in
        let f : i ≡ k = sym m.0 in
        let x : a ≡ get_or spots i d = get_or_read spots i a il ea d in
        let y : b ≡ get_or spots j d = get_or_read spots j b jl eb d in
        let here : NearOnBoth (get_or spots i d) (get_or spots j d) = rw (x, y) at step in
        subst (λ (u : ℕ). NearOnBoth (get_or spots u d) (get_or spots l d)) f (subst (λ (u : ℕ). NearOnBoth (get_or spots i d) (get_or spots u d)) e here)
  ]
]

pub near_next : (spots : List SpotData) (i j : ℕ) → length spots ≤ j → NearBefore spots i j → NearBefore spots (i + 1) 0
near_next spots i j big n = λ k l d kl ln h. elim h [
  | inl m ↦ elim (cases_lt k i) as (λ _. NearOnBoth (get_or spots k d) (get_or spots l d)) [
    | inl s ↦ n k l d kl ln (inl s)
    | inr s ↦ n k l d kl ln (inr (let e : k ≡ i = omega arith in e, let f : l < j = omega arith in f))
  ]
  | inr m ↦ absurd (omega (arith, m.1))
]

pub near_all : (spots : List SpotData) (i : ℕ) → length spots ≤ i → NearBefore spots i 0 → MeetSpreadRule spots
near_all spots i big n = λ k l d kl ln. n k l d kl ln (inl (let e : k < i = omega arith in e))

pub first_fault : (spots : List SpotData) (i j : ℕ) (a b : SpotData) (axis : Axis) → i < j → j < length spots → a ≡ get_or spots i a → b ≡ get_or spots j b → AreApart axis a b → NearBefore spots i j → IsFirstFault spots axis a.num b.num
first_fault spots i j a b axis ij jl ea eb apart n = record {
  left = i;
  right = j;
  rising = ij;
  within = jl;
  apart = λ d. let x : a ≡ get_or spots i d = get_or_read spots i a (omega arith) ea d in let y : b ≡ get_or spots j d = get_or_read spots j b jl eb d in rw (← x, ← y) apart;
  first_number = λ d. let x : a ≡ get_or spots i d = get_or_read spots i a (omega arith) ea d in rw (← x) refl;
  second_number = λ d. let y : b ≡ get_or spots j d = get_or_read spots j b jl eb d in rw (← y) refl;
  near_before = n;
}
