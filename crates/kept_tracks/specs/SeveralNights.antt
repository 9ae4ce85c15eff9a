-- A register in which the tracklets of several nights were replaced.
use Rattle.std.specs.Prelude.{ℕ, ◌≡◌, ◌⊎◌, ℤ, true, List, [], length}
use Rattle.std.specs.List.{Contains, flat_map}
use Rattle.kept_nights.specs.Renewed.{with_nights}
use Rattle.night_tree.specs.Nights.{NightData}
use Rattle.tracklet_register.specs.Exchanges.{AreExchanged}
use Rattle.tracklet_register.specs.Registers.{DifferAt, HasNumbersOf, RegisterData, is_taken, numbers_of, with_numbers}
use Rattle.tracklet_register.specs.Replacing.{IsReplaced}
use Rattle.kept_tracks.specs.Costs.{BringNothing}
use Rattle.kept_tracks.specs.KeptFor.{HaveNone}
use Rattle.kept_tracks.specs.Stages.{tracklets_of_night}
use Rattle.kept_tracks.specs.declared.exchanging.Replacement.{Replacement}

-- the numbers that went by some replacements, and those that came
abbrev pub all_gone : List Replacement → List ℕ
all_gone done = flat_map (λ (one : Replacement). one.exchange.went.items) done

abbrev pub all_new : List Replacement → List ℕ
all_new done = flat_map (λ (one : Replacement). one.exchange.came.items) done

-- the tracklets of a night were replaced by those of the night that is built anew
pub record IsReplacement (nights : List NightData) (night : NightData) (old new : RegisterData) (one : Replacement) : Type 0 where
  pub size : length (numbers_of old.nights night.number) ≡ length (tracklets_of_night nights night.number)
  pub fresh : (number : ℕ) → Contains one.exchange.came.items number → ¬ (Contains (numbers_of old.nights night.number) number)
  pub replaced : IsReplaced old new night.number (tracklets_of_night nights night.number) night.tracklets one.exchange.went.items one.exchange.came.items
  pub exchanged : (before after : List NightData) → DifferAt night.number (tracklets_of_night nights night.number) night.tracklets before after
      → AreExchanged one.exchange.went.items one.exchange.came.items (with_numbers old.nights before) (with_numbers new.nights after)

-- a register has numbers for the tracklets of some nights and of no others, and no other number is taken but those that went
pub record AreNumberedBut (nights : List NightData) (register : RegisterData) (went : List ℕ) : Type 0 where
  pub numbered : HasNumbersOf register.nights nights
  pub no_others : (number : ℤ) → HaveNone nights number → numbers_of register.nights number ≡ []
  pub waiting : (number : ℕ) → Contains went number → is_taken register.taken number ≡ true
  pub gone : (night : ℤ) (number : ℕ) → Contains went number → ¬ (Contains (numbers_of register.nights night) number)
  pub none_waits : (number : ℕ) → is_taken register.taken number ≡ true → Contains went number ⊎ ((night : ℤ) × Contains (numbers_of register.nights night) number)

-- the tracklets of some nights were replaced, each night's by those of the one that is built anew
pub record AreReplaced (nights changed : List NightData) (old new : RegisterData) (went came : List ℕ) : Type 0 where
  pub now : AreNumberedBut (with_nights changed nights) new went
  pub others : (number : ℤ) → HaveNone changed number → numbers_of new.nights number ≡ numbers_of old.nights number
  pub exchanged : AreExchanged went came (with_numbers old.nights nights) (with_numbers new.nights (with_nights changed nights))
  pub nothing : BringNothing nights changed → (number : ℕ) → ¬ (Contains came number)
