-- Which lines are detection lines, and what they say.
use Rattle.std.specs.Prelude.{◌≡◌, ℕ, Bool, ◌&&◌, ◌||◌, ◌==◌, nat_le, List, ◌∷◌, length, Option, Some, None, Result, Ok, Err, ℤ, if◌then◌else◌}
use Rattle.std.specs.List.{list_all}
use Rattle.miti_text.specs.Words.{words}
use Rattle.miti_text.specs.Quantities.{quantity_of}
use Rattle.miti_text.specs.Observation.{Observation, is_id, is_site, is_name}
use Rattle.miti_text.specs.declared.quantities.Quantity.TheVariants as quantities
use Rattle.miti_text.specs.declared.errors.LineError.{LineError}
use Rattle.miti_text.specs.declared.errors.LineError.TheVariants.{Fields, Id, Epoch, Ra, Dec, Mag, Site, Name, Long, Byte, NoMemory}

-- a tab, or a byte from a space to a tilde
abbrev pub is_text : ℕ → Bool
is_text byte = (byte == 9) || (nat_le 32 byte && nat_le byte 126)

infixl 10 ◌>>=◌
abbrev pub ◌>>=◌ : {A B : Type 0} → Result A LineError → (A → Result B LineError) → Result B LineError
(Ok x) >>= f = f x
(Err e) >>= f = Err e

-- the rule holds, or this error
abbrev pub check : Bool → LineError → Result ℕ LineError
check holds error = if holds then Ok 0 else Err error

abbrev pub or_error : {A : Type 0} → LineError → Option A → Result A LineError
or_error error (Some x) = Ok x
or_error error None = Err error

-- what seven fields say, the numbers among them read, by the first rule that is broken
unfoldable pub fields_of : List ℕ → Option ℤ → Option ℤ → Option ℤ → Option ℤ → List ℕ → List ℕ → Result Observation LineError
fields_of id epoch ra dec mag site name = do
  id_holds ← check (is_id id) Id
  at ← or_error Epoch epoch
  right ← or_error Ra ra
  up ← or_error Dec dec
  faint ← or_error Mag mag
  site_holds ← check (is_site site) Site
  name_holds ← check (is_name name) Name
  Ok (record { id = id; epoch = at; ra = right; dec = up; mag = faint; site = site; name = name })

-- the first seven words are the fields; further ones are not read
abbrev pub observation_of : List (List ℕ) → Result Observation LineError
observation_of (id ∷ epoch ∷ ra ∷ dec ∷ mag ∷ site ∷ name ∷ more) =
    fields_of id (quantity_of quantities.Epoch epoch) (quantity_of quantities.RightAscension ra)
    (quantity_of quantities.Declination dec) (quantity_of quantities.Magnitude mag) site name
observation_of _ = Err Fields

-- what a line says, or the first rule that it breaks
unfoldable pub detection_of : List ℕ → Result Observation LineError
detection_of line = do
  short ← check (nat_le (length line) 1024) Long
  texts ← check (list_all is_text line) Byte
  observation_of (words line)

-- an answer is the expected one; want of memory alone is free
abbrev pub IsAnswer : {A : Type 0} → Result A LineError → Result A LineError → Type 0
IsAnswer expected (Ok x) = expected ≡ Ok x
IsAnswer expected (Err NoMemory) = Unit {0}
IsAnswer expected (Err e) = expected ≡ Err e

-- the same, of a value that is seen through `view`, where memory plays no part
abbrev pub Gives : {A B : Type 0} → (A → B) → Result B LineError → Result A LineError → Type 0
Gives view expected (Ok x) = expected ≡ Ok (view x)
Gives view expected (Err e) = expected ≡ Err e
