-- The entry of a night among the numbers of nights.
use Rattle.std.specs.Prelude.{ℕ, ◌≡◌, ◌<◌, ℤ, Bool, List, not, length, get_or, take}
use Rattle.std.specs.Int.Signed.{lt_z}
use Rattle.std.specs.List.{All}
use Rattle.std.specs.Ordering.{int_eq}
use Rattle.tracklet_register.specs.declared.nights.NightNumbers.{NightNumbers}

-- an entry of another night
abbrev pub IsOther : ℤ → NightNumbers → Type 0
IsOther number night = ¬ (night.number ≡ number)

-- the index of the first entry of a night
pub record IsFirstOf (nights : List NightNumbers) (number : ℤ) (index : ℕ) : Type 0 where
  pub within : index < length nights
  pub is : (d : NightNumbers) → (get_or nights index d).number ≡ number
  pub before : All (IsOther number) (take index nights)

-- whether an entry is of no night before one
abbrev pub isnt_before : ℤ → NightNumbers → Bool
isnt_before first night = not (lt_z night.number first)

-- whether an entry is of another night
abbrev pub isnt_of : ℤ → NightNumbers → Bool
isnt_of number night = not (int_eq night.number number)
