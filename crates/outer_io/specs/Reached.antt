-- What a run of reads came to, for the line that had begun when it started.
use Rattle.std.specs.Prelude.{◌≡◌, ℕ, ◌+◌, ◌-◌, ◌^◌, ◌<◌, ◌≤◌, Bool, true, false, ◌||◌, List, [], ◌∷◌, ◌++◌, length, take, slice_range}
use Rattle.outer_io.specs.Seen.{NoFeed}
use Rattle.std.specs.Io.KnownBytes.{Consumes, IsAtEnd}
use Rattle.outer_io.specs.Supply.{Supply, Rises, risen}
use Rattle.outer_io.specs.declared.line_reader.Reached.{Reached}
use Rattle.outer_io.specs.declared.line_reader.Reached.TheVariants.{Feed, End, Failed, TooLong}

-- reads took these bytes, the next ones, of a source, and came to its end or didn't
pub record Took (old new : Supply) (bytes : List ℕ) (end : Bool) : Type 0 where
  pub consumed : Consumes old.left new.left bytes
  pub taken : new.taken ≡ risen old.taken (length bytes)
  pub marked : new.ended ≡ (old.ended || end)
  pub none_left : end ≡ true → IsAtEnd new.left

-- a number of bytes rose by as many as these are, and isn't above a limit
pub record Counts (old new : ℕ) (bytes : List ℕ) (limit : ℕ) : Type 0 where
  pub sum : new ≡ old + length bytes
  pub within : new ≤ limit

-- the bytes at the front of a buffer are the first of a line, as many as are kept of it
abbrev pub KeepsFront : List ℕ → List ℕ → Type 0
KeepsFront front line = take 1026 front ≡ take 1026 line

-- what a run of reads came to, from a begun line and a number of bytes taken: `buffer` is what stands in the buffer afterwards
abbrev pub ReachedFrom : List ℕ → List ℕ → ℕ → ℕ → Supply → Supply → Reached → Type 0
ReachedFrom begun buffer took_old took_new old new (Feed feed end) = (seen : List ℕ)
    × (feed < end) × (end ≤ length buffer) × KeepsFront (take feed buffer) (begun ++ seen) × NoFeed seen
    × Took old new (seen ++ 10 ∷ slice_range buffer (feed + 1) end) false
    × Counts took_old took_new (seen ++ 10 ∷ slice_range buffer (feed + 1) end) (2 ^ 32 - 1)
    × (new.faults ≡ old.faults)
ReachedFrom begun buffer took_old took_new old new (End len) = (seen : List ℕ)
    × (len ≤ 1026) × (take len buffer ≡ take 1026 (begun ++ seen)) × NoFeed seen
    × Took old new seen true × Counts took_old took_new seen (2 ^ 32 - 1) × (new.faults ≡ old.faults)
ReachedFrom begun buffer took_old took_new old new Failed = (seen : List ℕ)
    × NoFeed seen × Took old new seen false × Counts took_old took_new seen (2 ^ 32 - 1) × Rises old.faults new.faults
ReachedFrom begun buffer took_old took_new old new TooLong = (seen : List ℕ) × (extra : ℕ)
    × NoFeed seen × Took old new (seen ++ extra ∷ []) false × Counts took_old took_new (seen ++ extra ∷ []) (2 ^ 32)
    × (took_new ≡ 2 ^ 32) × (new.faults ≡ old.faults)
