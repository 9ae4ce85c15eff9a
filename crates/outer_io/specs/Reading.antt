-- What a line reader is seen as, what lies ahead of it, and what its steps do.
use Rattle.std.specs.Prelude.{◌≡◌, ℕ, ◌-◌, ◌+◌, ◌^◌, ◌≤◌, ◌<◌, Bool, true, false, ◌||◌, List, [], ◌∷◌, ◌++◌, Option, Some, Result, Ok, Err, length, take, if◌then◌else◌}
use Rattle.std.specs.Io.KnownBytes.{Consumes, IsAtEnd, prepend_known}
use Rattle.std.specs.Str.Lines.{lines, strip_carriage_return}
use Rattle.outer_io.specs.Supply.{Supply, Rises, risen}
use Rattle.outer_io.specs.Seen.{NoFeed}
use Rattle.outer_io.specs.declared.line_reader.Got.{Got}
use Rattle.outer_io.specs.declared.line_reader.ReadStop.{ReadStop}
use Rattle.outer_io.specs.declared.line_reader.ReadStop.TheVariants.{Failed, TooLong}

-- a reader: the bytes that it holds back, the number of bytes that it took, whether a read answered the end, whether it has stopped,
-- and the content of the last line
pub record Reading : Type 0 where
  pub held : List ℕ
  pub took : ℕ
  pub ended : Bool
  pub stopped : Bool
  pub line : List ℕ

-- a reader at its start
abbrev pub fresh : Reading
fresh = record { held = []; took = 0; ended = false; stopped = false; line = [] }

-- the bytes ahead of a reader, where they are told: what it holds back, and what its source has left, unless a read answered the end
abbrev pub ahead : Reading → Supply → Option (List ℕ)
ahead reader supply = if reader.ended then Some reader.held else prepend_known reader.held supply.left

-- how many bytes a reader has used up: those that it took and doesn't hold back
abbrev pub used : Reading → ℕ
used reader = reader.took - length reader.held

-- where the first line of these bytes ends: at a line feed, behind which the rest comes, or, for a last line that none ends, at their end
abbrev pub BeginsWithLine : List ℕ → List ℕ → List ℕ → Bool → Type 0
BeginsWithLine bytes content rest false = (raw : List ℕ) × NoFeed raw × (bytes ≡ raw ++ 10 ∷ rest) × (content ≡ strip_carriage_return raw)
BeginsWithLine bytes content rest true = NoFeed bytes × (0 < length bytes) × (content ≡ bytes) × (rest ≡ [])

-- a reader handed out the first line of these bytes, whose content it cuts after 1,025 bytes, and went on to the rest
pub record HandsOut (bytes line rest : List ℕ) (last : Bool) : Type 0 where
  pub content : List ℕ
  pub first : lines bytes ≡ content ∷ lines rest
  pub cut : line ≡ take 1025 content
  pub place : BeginsWithLine bytes content rest last

-- before it stopped, a reader saw bytes with no line feed and then these last ones; all of them were taken from what was ahead
pub record SawNoLine (reader_old reader_new : Reading) (old new : Supply) (last : List ℕ) : Type 0 where
  pub seen : List ℕ
  pub none : NoFeed seen
  pub count : reader_new.took ≡ used reader_old + length (seen ++ last)
  pub bytes : Consumes (ahead reader_old old) new.left (seen ++ last)

-- a call counts a fault exactly where it answers one
abbrev pub FaultsAfter : Result Got ReadStop → ℕ → ℕ → Type 0
FaultsAfter (Err Failed) old new = Rises old new
FaultsAfter (Err TooLong) old new = new ≡ old
FaultsAfter (Ok got) old new = new ≡ old

-- a reader took these bytes, the next ones of its source; both count them, and a reader never takes more than 2^32
pub record CountsOn (reader_old reader_new : Reading) (old new : Supply) : Type 0 where
  pub given : List ℕ
  pub bytes : Consumes old.left new.left given
  pub counted : reader_new.took ≡ reader_old.took + length given
  pub taken : new.taken ≡ risen old.taken (length given)
  pub within : reader_new.took ≤ 2 ^ 32
  pub held : length reader_new.held ≤ reader_new.took

-- the end is marked where a read of this call answered it; nothing is left then, and nothing is held back
pub record Ends (reader_old reader_new : Reading) (old new : Supply) : Type 0 where
  pub marked : reader_old.ended ≡ false → new.ended ≡ (old.ended || reader_new.ended)
  pub none_left : reader_old.ended ≡ false → reader_new.ended ≡ true → IsAtEnd new.left
  pub none_held : reader_new.ended ≡ true → reader_new.held ≡ []
  pub stays : reader_old.ended ≡ true → reader_new.ended ≡ true
