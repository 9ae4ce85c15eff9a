-- What takes exchanges in a register back.
use Rattle.std.specs.Prelude.{ℕ, ◌≡◌, ℤ, false, List, [], ◌∷◌}
use Rattle.std.specs.List.{Contains}
use Rattle.tracklet_register.specs.Registers.{AreAlike, HasNight, RegisterData, is_taken, numbers_of}
use Rattle.tracklet_register.specs.Replacing.{CanReturn}
use Rattle.kept_tracks.specs.declared.exchanging.Replacement.{Replacement}

-- a register in which a night has its former numbers again, and those that came are free
pub record IsRestored (old : RegisterData) (night : ℤ) (before came : List ℕ) (new : RegisterData) : Type 0 where
  pub here : numbers_of new.nights night ≡ before
  pub elsewhere : (other : ℤ) → ¬ (other ≡ night) → numbers_of new.nights other ≡ numbers_of old.nights other
  pub freed : (number : ℕ) → Contains came number → is_taken new.taken number ≡ false
  pub others : (number : ℕ) → ¬ (Contains came number) → is_taken new.taken number ≡ is_taken old.taken number
  pub entered : (other : ℤ) → HasNight old.nights other → HasNight new.nights other

-- replacements, the latest first, can be taken back one by one; then the register is as it was
abbrev pub CanBeUndone : RegisterData → List Replacement → RegisterData → Type 0
CanBeUndone first [] now = AreAlike first now
CanBeUndone first (one ∷ rest) now = CanReturn now one.night one.exchange.before.items one.exchange.came.items
    × ((back : RegisterData) → IsRestored now one.night one.exchange.before.items one.exchange.came.items back → CanBeUndone first rest back)
