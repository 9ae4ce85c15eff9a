-- One number more for the tracklets of a night.
use Rattle.std.specs.Prelude.{ℕ, ◌≡◌, ◌<◌, ◌≤◌, ◌+◌, ◌++◌, ◌∷◌, [], Bool, true, false, List}
use Rattle.tracklet_register.specs.Registers.{is_taken}
use Rattle.tracklet_register.specs.declared.renewing.NewNumbers.{NewNumbers}

-- a number is kept
pub record Keeps (old new : NewNumbers) (number : ℕ) : Type 0 where
  pub numbers : new.numbers.items ≡ old.numbers.items ++ number ∷ []
  pub came : new.came.items ≡ old.came.items
  pub end : new.end ≡ old.end

-- the least free number from the end on comes
pub record Gains (taken : List Bool) (old new : NewNumbers) : Type 0 where
  pub number : ℕ
  pub above : old.end ≤ number
  pub free : is_taken taken number ≡ false
  pub least : (lower : ℕ) → old.end ≤ lower → lower < number → is_taken taken lower ≡ true
  pub numbers : new.numbers.items ≡ old.numbers.items ++ number ∷ []
  pub came : new.came.items ≡ old.came.items ++ number ∷ []
  pub end : new.end ≡ number + 1
