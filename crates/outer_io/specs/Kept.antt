-- Sources and sinks in memory, and what contracts see of them.
use Rattle.std.specs.Prelude.{◌≡◌, ◌<◌, ◌⊎◌, ℕ, Bool, false, List, Some, None, length}
use Rattle.std.specs.List.{Contains}
use Rattle.outer_io.specs.Receipt.{Receipt}
use Rattle.outer_io.specs.Supply.{Supply}

-- a source in memory that never fails: the bytes that are left, the number of bytes taken, and whether its end is marked
pub record SureSupply : Type 0 where
  pub left : List ℕ
  pub taken : ℕ
  pub ended : Bool

-- it tells its bytes, and has no faults
abbrev pub sure_supply : SureSupply → Supply
sure_supply source = record { left = Some source.left; taken = source.taken; ended = source.ended; faults = 0 }

-- a source in memory whose calls fail where it is told so: the same, its faults, the most that it gives in a call,
-- the numbers of the calls that fail, and the number of the next call
pub record MemSupply : Type 0 where
  pub left : List ℕ
  pub taken : ℕ
  pub ended : Bool
  pub faults : ℕ
  pub piece : ℕ
  pub fails : List ℕ
  pub calls : ℕ

-- it tells its bytes
abbrev pub mem_supply : MemSupply → Supply
mem_supply source = record { left = Some source.left; taken = source.taken; ended = source.ended; faults = source.faults }

-- a source that gives one byte without end: the byte, and the number of bytes taken
pub record EndlessSupply : Type 0 where
  pub byte : ℕ
  pub taken : ℕ

-- it doesn't tell its bytes, has no end and no faults
abbrev pub endless_supply : EndlessSupply → Supply
endless_supply source = record { left = None; taken = source.taken; ended = false; faults = 0 }

-- a sink in memory: its bytes, how many of them are flushed, its faults, how many bytes it has room for, the most that it takes in a call,
-- the numbers of the calls that fail, and the number of the next call
pub record MemReceipt : Type 0 where
  pub written : List ℕ
  pub flushed : ℕ
  pub faults : ℕ
  pub room : ℕ
  pub piece : ℕ
  pub fails : List ℕ
  pub calls : ℕ

-- it tells its bytes
abbrev pub mem_receipt : MemReceipt → Receipt
mem_receipt sink = record { written = Some sink.written; flushed = sink.flushed; faults = sink.faults }

-- a write of this many bytes fails: its number is that of a call that fails, or there is no room left for any of them
abbrev pub FailsAt : MemReceipt → ℕ → Type 0
FailsAt sink len = Contains sink.fails sink.calls ⊎ ((length sink.written ≡ sink.room) × (0 < len))
