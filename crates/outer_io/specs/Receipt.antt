-- What a sink is seen as, and what a write and a flush do to it.
use Rattle.std.specs.Prelude.{◌≡◌, ℕ, ◌≤◌, ◌<◌, ◌-◌, List, Option, Some, None, length, take, IfSome}
use Rattle.std.specs.Io.KnownBytes.{Appends, Keeps}
use Rattle.outer_io.specs.Supply.{Rises}

-- a sink: the bytes written, where it tells them, how many of these are flushed, which says nothing where they are not told,
-- and how often it has failed
pub record Receipt : Type 0 where
  pub written : Option (List ℕ)
  pub flushed : ℕ
  pub faults : ℕ

-- all that was written is flushed
abbrev pub IsFlushed : Receipt → Type 0
IsFlushed receipt = IfSome receipt.written (λ bytes. receipt.flushed ≡ length bytes)

-- where the bytes are told, no fewer are flushed than before
abbrev pub KeepsFlushed : Receipt → Receipt → Type 0
KeepsFlushed old new = IfSome old.written (λ bytes. old.flushed ≤ new.flushed)

-- a write appended the first n bytes of a piece, and n is 0 only for an empty piece
pub record Wrote (old new : Receipt) (piece : List ℕ) (n : ℕ) : Type 0 where
  pub fits : n ≤ length piece
  pub some : 0 < length piece → 0 < n
  pub bytes : Appends old.written new.written (take n piece)
  pub flushed : KeepsFlushed old new
  pub faults : new.faults ≡ old.faults

-- a write or a flush failed: it wrote nothing, and the fault is counted
pub record WriteFailed (old new : Receipt) : Type 0 where
  pub bytes : Keeps old.written new.written
  pub flushed : KeepsFlushed old new
  pub faults : Rises old.faults new.faults

-- a flush left the bytes written as they were, and all of them are flushed
pub record Flushed (old new : Receipt) : Type 0 where
  pub bytes : Keeps old.written new.written
  pub whole : IsFlushed new
  pub flushed : KeepsFlushed old new
  pub faults : new.faults ≡ old.faults

-- how many of the bytes told are flushed, where the last ones, as many as given, are not
abbrev pub flushed_of : Option (List ℕ) → ℕ → ℕ
flushed_of None unflushed = 0
flushed_of (Some bytes) unflushed = length bytes - unflushed

-- a sink that doesn't tell its bytes and hasn't failed
abbrev pub untold : Receipt
untold = record { written = None; flushed = 0; faults = 0 }
