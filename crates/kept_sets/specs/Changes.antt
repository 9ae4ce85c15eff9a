-- What a change makes of the kept sets of a family: some items went, others came. `old` are the sets that were kept, `grown` those that
-- are kept now and hold an item that came.
use Rattle.std.specs.Prelude.{ℕ, ◌≡◌, ◌≤◌, ◌⊎◌, List, length, map}
use Rattle.std.specs.List.{Contains}
use Rattle.closed_sets.specs.Families.{IsHereditary, IsSet}
use Rattle.sky_units.specs.Tracks.{AreAmong}
use Rattle.kept_sets.specs.Kept.{AreGrown, AreKept, IsOfFinitelyMany}
use Rattle.kept_sets.specs.Lists.{AreDifferent, HoldsOne, less}

-- a family before and after items went and others came: what fits now is what fitted, without the ones, and with the others
pub record IsChange (Old New : List ℕ → Type 0) (went came : List ℕ) : Type 0 where
  pub stays : (set : List ℕ) → Old set → New (less went set)
  pub was : (set : List ℕ) → New set → Old (less came set)
  pub fresh : (set : List ℕ) → Old set → ¬ (HoldsOne came set)
  pub gone : (set : List ℕ) → New set → ¬ (HoldsOne went set)

-- the kept sets before a change, and those after it that hold an item that came
pub record IsStep (Old New : List ℕ → Type 0) (went came : List ℕ) (old grown : List (List ℕ)) : Type 0 where
  pub before : IsHereditary Old
  pub after : IsHereditary New
  pub finite : IsOfFinitelyMany Old
  pub change : IsChange Old New went came
  pub kept : AreKept Old old
  pub grown_now : AreGrown New came grown

-- a set that may be kept after the change: a grown one, or an old one without what went
abbrev pub IsCandidate : List ℕ → List (List ℕ) → List (List ℕ) → List ℕ → Type 0
IsCandidate went old grown set = Contains grown set ⊎ ((whole : List ℕ) × Contains old whole × (set ≡ less went whole))

-- a candidate of three or more items that lies properly in no other candidate
pub record IsTop (went : List ℕ) (old grown : List (List ℕ)) (set : List ℕ) : Type 0 where
  pub candidate : IsCandidate went old grown set
  pub large : 3 ≤ length set
  pub top : (other : List ℕ) → IsCandidate went old grown other → AreAmong set other → AreAmong other set

-- an old set that stays: it lost nothing, and no grown set is that set with items that came
pub record Stays (went came : List ℕ) (old grown : List (List ℕ)) (set : List ℕ) : Type 0 where
  pub was : Contains old set
  pub whole : ¬ (HoldsOne went set)
  pub free : ¬ (Contains (map (less came) grown) set)

-- the rest of an old set that lost items, where it lies properly in the rest of no old set, and in no grown set
pub record IsRest (went : List ℕ) (old grown : List (List ℕ)) (set : List ℕ) : Type 0 where
  pub whole : List ℕ
  pub was : Contains old whole
  pub broken : HoldsOne went whole
  pub is : set ≡ less went whole
  pub large : 3 ≤ length set
  pub old_top : (other : List ℕ) → Contains old other → AreAmong set other → AreAmong (less went other) set
  pub new_top : (other : List ℕ) → Contains grown other → ¬ (AreAmong set other)

-- the sets that are kept after the change
abbrev pub IsAfter : List ℕ → List ℕ → List (List ℕ) → List (List ℕ) → List ℕ → Type 0
IsAfter went came old grown set = Stays went came old grown set ⊎ (IsRest went old grown set ⊎ Contains grown set)

-- what a change of kept sets relies on: no old set lies in another or holds an item that came; each grown set is given once, holds an
-- item that came and none that went
pub record AreReady (went came : List ℕ) (old grown : List (List ℕ)) : Type 0 where
  pub sets : (set : List ℕ) → Contains old set → IsSet set
  pub apart : (set other : List ℕ) → Contains old set → Contains old other → AreAmong set other → set ≡ other
  pub fresh : (set : List ℕ) → Contains old set → ¬ (HoldsOne came set)
  pub once : AreDifferent grown
  pub new : (set : List ℕ) → Contains grown set → HoldsOne came set
  pub left : (set : List ℕ) → Contains grown set → ¬ (HoldsOne went set)
