-- Epochs that rise from each spot to the next rise between each two.
use Rattle.std.proofs.Common.{◌≡◌, ℕ, ◌+◌, ◌-◌, ◌<◌, ◌≤◌, ℤ, ◌-ℤ◌, ◌≤ℤ◌, ◌<ℤ◌, true, List, length, get_or, sym, subst, ap, ◌∙◌, arith}
use Rattle.std.proofs.lemmas.Bool.{cases_lt}
use Rattle.std.proofs.lemmas.Int.{ints}
use Rattle.std.proofs.lemmas.List.{get_or_read}
use Rattle.std.specs.Int.Signed.{lt_z}
use borrow.Author.Differences.{true_is_lt}
use mathlib.Core.Logic.{inl, inr}
use Rattle.sky_units.specs.Arcs.{HaveRisingEpochs, AreWithinArcTime}
use Rattle.sky_units.specs.Limits.{arc_ticks}
use Rattle.sky_units.specs.SpotData.{SpotData}

-- the epochs of the spots below the place n rise
abbrev pub RiseBelow : List SpotData → ℕ → Type 0
RiseBelow spots n = (i j : ℕ) (d : SpotData) → i < j → j < n → j < length spots → (get_or spots i d).epoch <ℤ (get_or spots j d).epoch

pub rise_more : (spots : List SpotData) (n : ℕ) (before spot : SpotData) → 0 < n → n < length spots → before ≡ get_or spots (n - 1) before → spot ≡ get_or spots n spot → before.epoch <ℤ spot.epoch → RiseBelow spots n → RiseBelow spots (n + 1)
rise_more spots n before spot p nl eb es step below = λ i j d ij jn jl. elim (cases_lt j n) as (λ _. (get_or spots i d).epoch <ℤ (get_or spots j d).epoch) [
  | inl l ↦ below i j d ij l jl
  | inr l ↦
      let e : n ≡ j = omega arith in
      let b : before ≡ get_or spots (n - 1) d = get_or_read spots (n - 1) before (omega arith) eb d in
      let s : spot ≡ get_or spots n d = get_or_read spots n spot nl es d in
      let step' : (get_or spots (n - 1) d).epoch <ℤ (get_or spots n d).epoch = rw (b, s) at step in
      subst (λ (u : ℕ). (get_or spots i d).epoch <ℤ (get_or spots u d).epoch) e
      (elim (cases_lt i (n - 1)) as (λ _. (get_or spots i d).epoch <ℤ (get_or spots n d).epoch) [
        | inl m ↦ let r = below i (n - 1) d m (omega arith) (omega arith) in omega (arith, ints, r, step')
        | inr m ↦ let f : n - 1 ≡ i = omega arith in subst (λ (u : ℕ). (get_or spots u d).epoch <ℤ (get_or spots n d).epoch) f step'
      ])
]

pub rise_start : (spots : List SpotData) → RiseBelow spots 1
rise_start spots = λ i j d ij jn jl. absurd (omega arith)

pub rise_all : (spots : List SpotData) (n : ℕ) → length spots ≤ n → RiseBelow spots n → HaveRisingEpochs spots
rise_all spots n big below = λ i j d ij jl. below i j d ij (omega arith) jl

pub no_rise : (spots : List SpotData) (n : ℕ) (before spot : SpotData) → 0 < n → n < length spots → before ≡ get_or spots (n - 1) before → spot ≡ get_or spots n spot → spot.epoch ≤ℤ before.epoch → ¬ HaveRisingEpochs spots
no_rise spots n before spot p nl eb es step rise =
    let b : before ≡ get_or spots (n - 1) before = eb in
    let s : spot ≡ get_or spots n before = get_or_read spots n spot nl es before in
    let r : (get_or spots (n - 1) before).epoch <ℤ (get_or spots n before).epoch = rise (n - 1) n before (omega arith) nl in
    let r' : before.epoch <ℤ spot.epoch = rw (← b, ← s) at r in
    absurd (omega (arith, ints, r', step))

-- ---- the time from the first spot to the last
pub test_of_lt : (a b : ℤ) → a <ℤ b → lt_z a b ≡ true
test_of_lt a b h = sym (true_is_lt a b (omega (arith, ints, h)))

pub lt_of_test : (a b : ℤ) → lt_z a b ≡ true → a <ℤ b
lt_of_test a b h = omega (arith, ints, h)

pub not_below : (spots : List SpotData) (i : ℕ) (first : SpotData) → first ≡ get_or spots 0 first → HaveRisingEpochs spots → i < length spots → (d : SpotData) → first.epoch ≤ℤ (get_or spots i d).epoch
not_below spots i first e rise h d =
    let f : first ≡ get_or spots 0 d = get_or_read spots 0 first (omega arith) e d in
    elim (cases_lt 0 i) as (λ _. first.epoch ≤ℤ (get_or spots i d).epoch) [
      | inl l ↦ let r = rise 0 i d l h in let r' = rw (← f) at r in omega (arith, ints, r')
      | inr l ↦ let z : 0 ≡ i = omega arith in subst (λ (u : ℕ). first.epoch ≤ℤ (get_or spots u d).epoch) z (rw (← f) (omega (arith, ints)))
    ]

pub not_above : (spots : List SpotData) (i : ℕ) (last : SpotData) → last ≡ get_or spots (length spots - 1) last → HaveRisingEpochs spots → i < length spots → (d : SpotData) → (get_or spots i d).epoch ≤ℤ last.epoch
not_above spots i last e rise h d =
    let f : last ≡ get_or spots (length spots - 1) d = get_or_read spots (length spots - 1) last (omega arith) e d in
    elim (cases_lt i (length spots - 1)) as (λ _. (get_or spots i d).epoch ≤ℤ last.epoch) [
      | inl l ↦ let r = rise i (length spots - 1) d l (omega arith) in let r' = rw (← f) at r in omega (arith, ints, r')
      | inr l ↦ let z : length spots - 1 ≡ i = omega arith in subst (λ (u : ℕ). (get_or spots u d).epoch ≤ℤ last.epoch) z (rw (← f) (omega (arith, ints)))
    ]

pub short_of_ends : (spots : List SpotData) (first last : SpotData) → 0 < length spots → first ≡ get_or spots 0 first → last ≡ get_or spots (length spots - 1) last → HaveRisingEpochs spots → (last.epoch -ℤ first.epoch) <ℤ arc_ticks → AreWithinArcTime spots
short_of_ends spots first last p ef el rise h = λ i j d ij jl.
    let a = not_below spots i first ef rise (omega arith) d in
    let b = not_above spots j last el rise jl d in
    omega (arith, ints, a, b, h)

pub ends_of_short : (spots : List SpotData) (first last : SpotData) → 0 < length spots → first ≡ get_or spots 0 first → last ≡ get_or spots (length spots - 1) last → AreWithinArcTime spots → (last.epoch -ℤ first.epoch) <ℤ arc_ticks
ends_of_short spots first last p ef el short =
    let f : first ≡ get_or spots 0 last = get_or_read spots 0 first p ef last in
    elim (cases_lt 0 (length spots - 1)) as (λ _. (last.epoch -ℤ first.epoch) <ℤ arc_ticks) [
      | inl l ↦ let s = short 0 (length spots - 1) last l (omega arith) in rw (← f, ← el) at s
      | inr l ↦
          let z : length spots - 1 ≡ 0 = omega arith in
          let g : last ≡ get_or spots 0 last = rw z at el in
          let same : first.epoch ≡ last.epoch = ap (λ (s : SpotData). s.epoch) (f ∙ sym g) in
          omega (arith, ints, same)
    ]
