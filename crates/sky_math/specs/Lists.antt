-- What holds of each two, and of each three, elements of a list, the earlier first.
use Rattle.std.specs.Prelude.{ℕ, ◌<◌, List, length, slice_index_or}

-- R holds of each two elements, the earlier one first
abbrev pub EachTwo : {X : Type 0} → (X → X → Type 0) → List X → Type 0
EachTwo {X} R xs = (i j : ℕ) (d : X) → i < j → j < length xs → R (slice_index_or xs i d) (slice_index_or xs j d)

-- R holds of each three elements, the earlier ones first
abbrev pub EachThree : {X : Type 0} → (X → X → X → Type 0) → List X → Type 0
EachThree {X} R xs = (i j k : ℕ) (d : X) → i < j → j < k → k < length xs → R (slice_index_or xs i d) (slice_index_or xs j d) (slice_index_or xs k d)
