-- What is kept of some nights: the numbers of their tracklets, and the closed sets of these numbers.
use Rattle.std.specs.Prelude.{ℕ, ◌≡◌, ℤ, true, not, List, []}
use Rattle.std.specs.Int.Signed.{lt_z}
use Rattle.std.specs.List.{Contains, filter}
use Rattle.kept_sets.specs.Kept.{AreKept}
use Rattle.night_tree.specs.Nights.{NightData}
use Rattle.set_grow.specs.Fitting.{FitsByNumber}
use Rattle.set_grow.specs.Nights.{by_night}
use Rattle.sky_units.specs.SettingsData.{SettingsData}
use Rattle.tracklet_register.specs.Registers.{AreAlike, HasNumbersOf, RegisterData, is_taken, numbers_of, with_numbers}

-- a register of tracklets, and sets of their numbers
pub record KeptData : Type 0 where
  pub register : RegisterData
  pub sets : List (List ℕ)

-- none of some nights has this number
abbrev pub HaveNone : List NightData → ℤ → Type 0
HaveNone nights number = (night : NightData) → Contains nights night → ¬ (night.number ≡ number)

-- the register has numbers for the tracklets of these nights and of no others, no other number is taken, and the sets are exactly the closed ones of three or more numbers, each once
pub record AreKeptFor (settings : SettingsData) (nights : List NightData) (kept : KeptData) : Type 0 where
  pub numbered : HasNumbersOf kept.register.nights nights
  pub no_others : (number : ℤ) → HaveNone nights number → numbers_of kept.register.nights number ≡ []
  pub none_waits : (number : ℕ) → is_taken kept.register.taken number ≡ true → (night : ℤ) × Contains (numbers_of kept.register.nights night) number
  pub sets : AreKept (FitsByNumber settings (by_night (with_numbers kept.register.nights nights))) kept.sets

-- the nights that are not before one
abbrev pub since : ℤ → List NightData → List NightData
since first nights = filter (λ (night : NightData). not (lt_z night.number first)) nights

-- the same numbers of the same tracklets, and the same sets
pub record StandAlike (old new : KeptData) : Type 0 where
  pub register : AreAlike old.register new.register
  pub sets : new.sets ≡ old.sets
