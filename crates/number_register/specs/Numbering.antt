-- The held detections by number.
use Rattle.std.specs.Prelude.{◌≡◌, ◌≢◌, ℕ, ◌+◌, ◌<◌, ◌&&◌, ◌==◌, Bool, not, nat_lt, cond, Option, None, Some, IsSome, is_some, List, length, [], ◌∷◌, ◌++◌, slice_set, slice_index, slice_index_or, sum_by, ⊤}
use Rattle.std.specs.List.{list_any}
use Rattle.std.specs.declared.cmp.Reverse.{Reverse}
use Rattle.std.specs.Ordering.{nat_cmp}
use Rattle.std.specs.BinaryHeap.{IsHeap}
use Rattle.miti_text.specs.Observation.{Observation}

-- what has the number k, once `held` has the number n
abbrev pub with_at : (ℕ → Option Observation) → ℕ → Option Observation → ℕ → Option Observation
with_at at n held k = cond (k == n) held (at k)

-- the least number that nothing has
pub record IsLeastFree (at : ℕ → Option Observation) (n : ℕ) : Type 0 where
  pub is_free : at n ≡ None
  pub lower_are_taken : (k : ℕ) → k < n → IsSome (at k)

-- the detection that has a number, where one has it: what stands in its slot
abbrev pub slot : List (Option Observation) → ℕ → Option Observation
slot slots n = slice_index_or slots n None

-- how many detections are held
abbrev pub count_held : List (Option Observation) → ℕ
count_held slots = sum_by (λ held. cond (is_some held) 1 0) slots

-- the slots once `held` is put at n: in its place, or in a new one behind the others
abbrev pub put_at : List (Option Observation) → ℕ → Option Observation → List (Option Observation)
put_at slots n held = cond (nat_lt n (length slots)) (slice_set slots n held) (slots ++ held ∷ [])

-- a slot is there, and is empty
abbrev pub is_free : List (Option Observation) → ℕ → Bool
is_free slots n = nat_lt n (length slots) && not (is_some (slot slots n))

-- the heap has the number of each empty slot once, and no other, the least first
pub record AreFree (slots : List (Option Observation)) (free : List (Reverse ℕ)) : Type 0 where
  pub order : IsHeap (λ x y. nat_cmp y.0 x.0) free
  pub each_once : (n : ℕ) → sum_by (λ x. cond (x.0 == n) 1 0) free ≡ cond (is_free slots n) 1 0
  pub total : length free + count_held slots ≡ length slots

-- numbers differ, place by place
abbrev pub AreDistinct : List ℕ → Type 0
AreDistinct numbers = (j k : ℕ) → j < k → k < length numbers → slice_index numbers j ≢ slice_index numbers k

-- what has the number k once these numbers are let go
abbrev pub without_numbers : (ℕ → Option Observation) → List ℕ → ℕ → Option Observation
without_numbers at numbers k = cond (list_any (λ n. n == k) numbers) None (at k)

-- the detections take the least free numbers, one after another
abbrev pub TakeLeast : (ℕ → Option Observation) → List ℕ → List Observation → Type 0
TakeLeast at [] [] = ⊤
TakeLeast at [] (d ∷ ds) = ⊥
TakeLeast at (n ∷ ns) [] = ⊥
TakeLeast at (n ∷ ns) (d ∷ ds) = IsLeastFree at n × TakeLeast (with_at at n (Some d)) ns ds

-- what has the number k once the detections have these numbers
abbrev pub with_all : (ℕ → Option Observation) → List ℕ → List Observation → ℕ → Option Observation
with_all at [] ds = at
with_all at (n ∷ ns) [] = at
with_all at (n ∷ ns) (d ∷ ds) = with_all (with_at at n (Some d)) ns ds

pub record Takes (before : ℕ → Option Observation) (numbers : List ℕ) (ds : List Observation) (after : ℕ → Option Observation) : Type 0 where
  pub least : TakeLeast before numbers ds
  pub is : after ≡ with_all before numbers ds
