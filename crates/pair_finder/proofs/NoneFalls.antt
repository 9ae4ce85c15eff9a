-- Epochs that don't fall from each spot to the next fall nowhere.
use Rattle.std.proofs.Common.{◌≡◌, ℕ, ◌+◌, ◌-◌, ◌<◌, ◌≤◌, ◌≤ℤ◌, List, length, get_or, zero, suc, subst, sym, inl, inr, arith}
use Rattle.std.proofs.lemmas.Bool.{cases_lt}
use Rattle.std.proofs.lemmas.Int.{ints}
use Rattle.std.proofs.lemmas.List.{get_or_read}
use Rattle.sky_units.specs.Pairs.{EpochsDontFall}
use Rattle.sky_units.specs.SpotData.{SpotData}

-- each of the spots below the place n but the last one is no later than the next
abbrev pub StepsBelow : List SpotData → ℕ → Type 0
StepsBelow spots n = (i : ℕ) (d : SpotData) → i + 1 < n → (get_or spots i d).epoch ≤ℤ (get_or spots (i + 1) d).epoch

pub no_steps : (spots : List SpotData) → StepsBelow spots 1
no_steps spots = λ i d h. absurd (omega arith)

pub steps_more : (spots : List SpotData) (n : ℕ) (before spot : SpotData) → 0 < n → n < length spots → before ≡ get_or spots (n - 1) before → spot ≡ get_or spots n spot → before.epoch ≤ℤ spot.epoch → StepsBelow spots n → StepsBelow spots (n + 1)
steps_more spots n before spot p h before_is spot_is step below = λ i d l. elim (cases_lt (i + 1) n) [
  | inl less ↦ below i d less
  | inr last ↦
      let e : n ≡ i + 1 = omega arith in
      let f : n - 1 ≡ i = omega arith in
      let one : before ≡ get_or spots (n - 1) d = get_or_read spots (n - 1) before (omega arith) before_is d in
      let other : spot ≡ get_or spots n d = get_or_read spots n spot h spot_is d in
      rw (← e, ← f, ← one, ← other) step
]

rise : (spots : List SpotData) (n : ℕ) → StepsBelow spots n → (i k : ℕ) (d : SpotData) → i + k < n → (get_or spots i d).epoch ≤ℤ (get_or spots (i + k) d).epoch
rise spots n below i zero d h = let e : i + 0 ≡ i = omega arith in rw e (omega (arith, ints))
rise spots n below i (suc k) d h =
    let e : i + suc k ≡ (i + k) + 1 = omega arith in
    let so_far = rise spots n below i k d (omega arith) in
    let step = below (i + k) d (omega arith) in
    rw e (omega (arith, ints, so_far, step))

pub none_falls : (spots : List SpotData) (n : ℕ) → length spots ≤ n → StepsBelow spots n → EpochsDontFall spots
none_falls spots n big below = λ i j d less within.
    let e : j ≡ i + (j - i) = omega arith in
    subst (λ (u : ℕ). (get_or spots i d).epoch ≤ℤ (get_or spots u d).epoch) (sym e) (rise spots n below i (j - i) d (omega arith))
