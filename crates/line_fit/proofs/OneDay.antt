-- Spots of rising epochs are of one day where the first and the last are.
use Rattle.std.proofs.Common.{◌≡◌, ℕ, ◌+◌, ◌-◌, ◌<◌, ◌≤◌, ℤ, pos, ◌-ℤ◌, ◌≤ℤ◌, true, to_z, of_z, w64, List, length, get_or, subst, arith}
use Rattle.std.specs.Int.Signed.{le_z}
use Rattle.std.specs.Prelude.{IsTrue}
use Rattle.std.proofs.lemmas.Bool.{cases_lt}
use Rattle.std.proofs.lemmas.Int.{ints}
use Rattle.std.proofs.lemmas.List.{get_or_read}
use mathlib.Core.Logic.{inl, inr}
use Rattle.sky_units.proofs.EpochOrder.{not_above, not_below}
use Rattle.sky_units.specs.Arcs.{HaveRisingEpochs}
use Rattle.sky_units.specs.Pairs.{EpochsDontFall}
use Rattle.sky_units.specs.Ranges.{IsEpoch}
use Rattle.sky_units.specs.SpotData.{SpotData}
use Rattle.line_fit.specs.Slopes.{AreOfOneDay}

pub one_day_of_ends : (spots : List SpotData) (first last : SpotData) → first ≡ get_or spots 0 first → last ≡ get_or spots (length spots - 1) last → HaveRisingEpochs spots → (last.epoch -ℤ first.epoch) ≤ℤ pos 1000000 → AreOfOneDay spots
one_day_of_ends spots first last ef el rise h = λ i j d ij jl.
    let a = not_below spots i first ef rise (omega arith) d in
    let b = not_above spots j last el rise jl d in
    omega (arith, ints, a, b, h)

pub rising_dont_fall : (spots : List SpotData) → HaveRisingEpochs spots → EpochsDontFall spots
rising_dont_fall spots rise = λ i j d ij jn. let r = rise i j d ij jn in omega (arith, ints, r)

-- as code compares two epochs
pub day_read : (first last : ℤ) → IsEpoch first → IsEpoch last → IsTrue (le_z (to_z w64 (of_z w64 (to_z w64 (of_z w64 last) -ℤ to_z w64 (of_z w64 first)))) (pos 1000000)) → (last -ℤ first) ≤ℤ pos 1000000
day_read first last f l h =
    let e : to_z w64 (of_z w64 (to_z w64 (of_z w64 last) -ℤ to_z w64 (of_z w64 first))) ≡ last -ℤ first = omega (arith, ints) in
    let t : le_z (last -ℤ first) (pos 1000000) ≡ true = rw e at h in
    omega (arith, ints, t)

-- ---- epochs that fall nowhere from one spot to the next
abbrev pub NoneFallsBelow : List SpotData → ℕ → Type 0
NoneFallsBelow spots n = (i j : ℕ) (d : SpotData) → i < j → j < n → j < length spots → (get_or spots i d).epoch ≤ℤ (get_or spots j d).epoch

pub none_falls_yet : (spots : List SpotData) → NoneFallsBelow spots 1
none_falls_yet spots = λ i j d ij jn jl. absurd (omega arith)

pub none_falls_more : (spots : List SpotData) (n : ℕ) (before spot : SpotData) → 0 < n → n < length spots → before ≡ get_or spots (n - 1) before → spot ≡ get_or spots n spot → before.epoch ≤ℤ spot.epoch → NoneFallsBelow spots n → NoneFallsBelow spots (n + 1)
none_falls_more spots n before spot p nl eb es step below = λ i j d ij jn jl. elim (cases_lt j n) as (λ _. (get_or spots i d).epoch ≤ℤ (get_or spots j d).epoch) [
  | inl l ↦ below i j d ij l jl
  | inr l ↦
      let e : n ≡ j = omega arith in
      let b : before ≡ get_or spots (n - 1) d = get_or_read spots (n - 1) before (omega arith) eb d in
      let s : spot ≡ get_or spots n d = get_or_read spots n spot nl es d in
      let step' : (get_or spots (n - 1) d).epoch ≤ℤ (get_or spots n d).epoch = rw (b, s) at step in
      subst (λ (u : ℕ). (get_or spots i d).epoch ≤ℤ (get_or spots u d).epoch) e
      (elim (cases_lt i (n - 1)) as (λ _. (get_or spots i d).epoch ≤ℤ (get_or spots n d).epoch) [
        | inl m ↦ let r = below i (n - 1) d m (omega arith) (omega arith) in omega (arith, ints, r, step')
        | inr m ↦ let f : n - 1 ≡ i = omega arith in subst (λ (u : ℕ). (get_or spots u d).epoch ≤ℤ (get_or spots n d).epoch) f step'
      ])
]

pub none_falls : (spots : List SpotData) (n : ℕ) → length spots ≤ n → NoneFallsBelow spots n → EpochsDontFall spots
none_falls spots n big below = λ i j d ij jl. below i j d ij (omega arith) jl

not_before_first : (spots : List SpotData) (i : ℕ) (first : SpotData) → first ≡ get_or spots 0 first → EpochsDontFall spots → i < length spots → (d : SpotData) → first.epoch ≤ℤ (get_or spots i d).epoch
not_before_first spots i first e order h d =
    let f : first ≡ get_or spots 0 d = get_or_read spots 0 first (omega arith) e d in
    elim (cases_lt 0 i) as (λ _. first.epoch ≤ℤ (get_or spots i d).epoch) [
      | inl l ↦ let r = order 0 i d l h in rw (← f) at r
      | inr l ↦ let z : 0 ≡ i = omega arith in subst (λ (u : ℕ). first.epoch ≤ℤ (get_or spots u d).epoch) z (rw (← f) (omega (arith, ints)))
    ]

not_after_last : (spots : List SpotData) (i : ℕ) (last : SpotData) → last ≡ get_or spots (length spots - 1) last → EpochsDontFall spots → i < length spots → (d : SpotData) → (get_or spots i d).epoch ≤ℤ last.epoch
not_after_last spots i last e order h d =
    let f : last ≡ get_or spots (length spots - 1) d = get_or_read spots (length spots - 1) last (omega arith) e d in
    elim (cases_lt i (length spots - 1)) as (λ _. (get_or spots i d).epoch ≤ℤ last.epoch) [
      | inl l ↦ let r = order i (length spots - 1) d l (omega arith) in rw (← f) at r
      | inr l ↦ let z : length spots - 1 ≡ i = omega arith in subst (λ (u : ℕ). (get_or spots u d).epoch ≤ℤ last.epoch) z (rw (← f) (omega (arith, ints)))
    ]

pub day_of_ends : (spots : List SpotData) (first last : SpotData) → first ≡ get_or spots 0 first → last ≡ get_or spots (length spots - 1) last → EpochsDontFall spots → (last.epoch -ℤ first.epoch) ≤ℤ pos 1000000 → AreOfOneDay spots
day_of_ends spots first last ef el order h = λ i j d ij jl.
    let a = not_before_first spots i first ef order (omega arith) d in
    let b = not_after_last spots j last el order jl d in
    omega (arith, ints, a, b, h)
