-- How the text of a report is parted for reading.
use Rattle.std.specs.Prelude.{FitsSigned, ℕ, ℤ, Bool, ◌||◌, ◌==◌, not, List, [], ◌∷◌, ◌++◌}
use Rattle.std.specs.List.{list_all}
use Rattle.sky_units.specs.QuadData.{QuadData, IsQuad}
use Rattle.std.specs.Int.{w64}
use Rattle.track_report.specs.Words.{line}

-- a space or a line feed
abbrev pub is_separator : ℕ → Bool
is_separator byte = (byte == 32) || (byte == 10)

-- no byte of a word parts words
abbrev pub is_unparted : List ℕ → Bool
is_unparted word = list_all (λ byte. not (is_separator byte)) word

-- what is left of a text from some words of a line on, and without them what follows the line
abbrev pub from_words : List (List ℕ) → List ℕ → List ℕ
from_words [] more = more
from_words (word ∷ words) more = line (word ∷ words) ++ more

-- the quadratic of these numbers
abbrev pub told_quad : ℤ → ℤ → ℤ → ℤ → ℤ → ℤ → QuadData
told_quad base start den p v q = record { base = base; start = start; den = den; p = p; v = v; q = q }

-- a quadratic whose base and start are numbers of 64 bits, and whose other numbers keep their bounds
pub record IsTold (quad : QuadData) : Type 0 where
  pub base : FitsSigned w64 quad.base
  pub start : FitsSigned w64 quad.start
  pub numbers : IsQuad quad.den quad.p quad.v quad.q
