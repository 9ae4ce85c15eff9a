-- How a detection is written.
use Rattle.std.specs.Prelude.{ℕ, ◌+◌, ◌/◌, ◌%◌, ◌^◌, List, [], ◌∷◌, ◌++◌, ℤ, zero, suc, decimal, unsigned_abs}
use Rattle.std.specs.Int.{is_negative}
use Rattle.std.specs.Fmt.{sign_text}
use Rattle.std.specs.List.{join_with_byte}
use Rattle.miti_text.specs.Observation.{Observation}

-- the digits of n at its last places, so many
abbrev pub last_digits : ℕ → ℕ → List ℕ
last_digits zero n = []
last_digits (suc places) n = (48 + n / 10 ^ places % 10) ∷ last_digits places n

-- a number of units of 10 ^ -places: a minus where it is negative, the whole part, a dot and all the places
abbrev pub decimal_text : ℕ → ℤ → List ℕ
decimal_text places z =
    sign_text (is_negative z) ++ decimal (unsigned_abs z / 10 ^ places) ++ 46 ∷ last_digits places (unsigned_abs z)

-- the seven fields, a space between each two
unfoldable pub line_of : Observation → List ℕ
line_of d = join_with_byte 32
    (d.id ∷ decimal_text 6 d.epoch ∷ decimal_text 6 d.ra ∷ decimal_text 6 d.dec ∷ decimal_text 3 d.mag ∷ d.site ∷ d.name ∷ [])
