-- The commands of a script, in words.
use Rattle.std.specs.Prelude.{◌≡◌, ℕ, List, [], ◌∷◌, Option, Some, None, Result, Ok, Err, codes, bytes_eq, if◌then◌else◌}
use Rattle.miti_text.specs.Numerals.{number_of}
use Rattle.script_text.specs.declared.lines.Line.{Line}
use Rattle.script_text.specs.declared.lines.Line.TheVariants.{Set, Window, Tracklets, Report, Ask, Stats}
use Rattle.script_text.specs.declared.errors.ScriptError.{ScriptError}
use Rattle.script_text.specs.declared.errors.ScriptError.TheVariants.{Command, Words, Number, NoMemory}

infixl 10 ◌>>=◌
abbrev pub ◌>>=◌ : {A B : Type 0} → Result A ScriptError → (A → Result B ScriptError) → Result B ScriptError
(Ok x) >>= f = f x
(Err e) >>= f = Err e

abbrev pub or_error : {A : Type 0} → ScriptError → Option A → Result A ScriptError
or_error error (Some x) = Ok x
or_error error None = Err error

-- exactly one word, and exactly two
abbrev pub one_of : List (List ℕ) → Option (List ℕ)
one_of (word ∷ []) = Some word
one_of _ = None

abbrev pub two_of : List (List ℕ) → Option (List ℕ × List ℕ)
two_of (first ∷ second ∷ []) = Some (first, second)
two_of _ = None

-- a name and a number
abbrev pub set_of : List (List ℕ) → Result Line ScriptError
set_of words = do
  pair ← or_error Words (two_of words)
  value ← or_error Number (number_of pair.1)
  Ok (Set pair.0 value)

-- two numbers
abbrev pub window_of : List (List ℕ) → Result Line ScriptError
window_of words = do
  pair ← or_error Words (two_of words)
  low ← or_error Number (number_of pair.0)
  high ← or_error Number (number_of pair.1)
  Ok (Window low high)

-- one number
abbrev pub tracklets_of : List (List ℕ) → Result Line ScriptError
tracklets_of words = do
  word ← or_error Words (one_of words)
  night ← or_error Number (number_of word)
  Ok (Tracklets night)

-- one or more ids, which may be any words
abbrev pub ask_of : List (List ℕ) → Result Line ScriptError
ask_of [] = Err Words
ask_of (id ∷ ids) = Ok (Ask (id ∷ ids))

-- a command that stands alone
abbrev pub alone : Line → List (List ℕ) → Result Line ScriptError
alone command [] = Ok command
alone command (word ∷ words) = Err Words

-- the first word names the command
unfoldable pub command_of : List (List ℕ) → Result Line ScriptError
command_of [] = Err Command
command_of (name ∷ words) =
    if bytes_eq name (codes "!set") then set_of words
    else (if bytes_eq name (codes "!window") then window_of words
    else (if bytes_eq name (codes "!tracklets") then tracklets_of words
    else (if bytes_eq name (codes "!report") then alone Report words
    else (if bytes_eq name (codes "!ask") then ask_of words
    else (if bytes_eq name (codes "!stats") then alone Stats words
    else Err Command)))))

-- an answer is the expected one; want of memory alone is free
abbrev pub IsAnswer : {A : Type 0} → Result A ScriptError → Result A ScriptError → Type 0
IsAnswer expected (Ok x) = expected ≡ Ok x
IsAnswer expected (Err NoMemory) = Unit {0}
IsAnswer expected (Err e) = expected ≡ Err e
