-- The places of items.
use Rattle.std.specs.Prelude.{ℕ}

-- the place behind its key
abbrev pub place_of : ℕ × ℕ → ℕ
place_of entry = entry.1
