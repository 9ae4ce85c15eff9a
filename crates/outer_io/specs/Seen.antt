-- Bytes that a reader saw.
use Rattle.std.specs.Prelude.{◌≡◌, ℕ, ◌<◌, ◌≤◌, false, ◌==◌, List, slice_range, slice_index}
use Rattle.std.specs.List.{All}

-- none of these bytes is a line feed
abbrev pub NoFeed : List ℕ → Type 0
NoFeed bytes = All (λ byte. (byte == 10) ≡ false) bytes

-- the first line feed of a buffer, from start up to end, stands at this place
abbrev pub FeedAt : List ℕ → ℕ → ℕ → ℕ → Type 0
FeedAt buffer start end feed = (start ≤ feed) × (feed < end) × NoFeed (slice_range buffer start feed) × (slice_index buffer feed ≡ 10)
