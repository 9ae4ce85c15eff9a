-- What a source is seen as, and what a read does to it.
use Rattle.std.specs.Prelude.{◌≡◌, ℕ, ◌+◌, ◌-◌, ◌^◌, ◌<◌, ◌≤◌, min, max, Bool, false, ◌||◌, ◌&&◌, nat_lt, ◌==◌, List, Option, length, take}
use Rattle.std.specs.Io.KnownBytes.{Consumes, Keeps, IsAtEnd}

-- a source: the bytes that are left, where it tells them, the number of bytes that were taken,
-- whether its end is marked, and how often it has failed
pub record Supply : Type 0 where
  pub left : Option (List ℕ)
  pub taken : ℕ
  pub ended : Bool
  pub faults : ℕ

-- the greatest value of a count
abbrev pub last_count : ℕ
last_count = 2 ^ 64 - 1

-- a count that rose by n, up to its greatest value
abbrev pub risen : ℕ → ℕ → ℕ
risen count n = max count (min (count + n) last_count)

-- a count of faults doesn't fall, and it rose unless it stands at its greatest value
pub record Rises (old new : ℕ) : Type 0 where
  pub never_falls : old ≤ new
  pub rose : new < last_count → old < new

-- a read gave the first n bytes of a buffer: they were the next ones, and n is 0 for a buffer with room only at the end, which is then marked
pub record Gave (old new : Supply) (buffer : List ℕ) (n : ℕ) : Type 0 where
  pub fits : n ≤ length buffer
  pub bytes : Consumes old.left new.left (take n buffer)
  pub end : n ≡ 0 → 0 < length buffer → IsAtEnd new.left
  pub taken : new.taken ≡ risen old.taken n
  pub marked : new.ended ≡ (old.ended || (nat_lt 0 (length buffer) && (n == 0)))
  pub faults : new.faults ≡ old.faults

-- a read failed: it took nothing, and the fault is counted
pub record ReadFailed (old new : Supply) : Type 0 where
  pub bytes : Keeps old.left new.left
  pub taken : new.taken ≡ old.taken
  pub marked : new.ended ≡ old.ended
  pub faults : Rises old.faults new.faults

-- a source at its start, with these bytes left
abbrev pub untouched : Option (List ℕ) → Supply
untouched left = record { left = left; taken = 0; ended = false; faults = 0 }
