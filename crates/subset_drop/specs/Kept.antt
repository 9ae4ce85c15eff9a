-- Which of some sets are kept: none whose numbers lie properly in those of another, and of sets with the same numbers the first alone.
use Rattle.std.specs.Prelude.{ℕ, ◌≡◌, ◌<◌, ◌≤◌, ◌↔◌, List, [], get_or, length, map}
use Rattle.std.specs.List.{Contains}
use Rattle.sky_math.specs.Lists.{EachTwo}
use Rattle.sky_units.specs.TrackletData.{TrackSetData}
use Rattle.sky_units.specs.Tracks.{AreAmong, numbers_of}

-- the numbers of the member at a place
abbrev pub numbers_at : List (List ℕ) → ℕ → List ℕ
numbers_at lists place = get_or lists place []

-- the member at the first of two places has all numbers of that at the second
abbrev pub HasAllOf : List (List ℕ) → ℕ → ℕ → Type 0
HasAllOf lists holder place = AreAmong (numbers_at lists place) (numbers_at lists holder)

-- the member at another place, where it has all numbers of the one at this place, has no others and isn't earlier
abbrev pub Passes : List (List ℕ) → ℕ → ℕ → Type 0
Passes lists place other = HasAllOf lists other place → HasAllOf lists place other × (place ≤ other)

-- the numbers at a place lie properly in those of no member, and are those of no earlier one
pub record Stays (lists : List (List ℕ)) (place : ℕ) : Type 0 where
  pub maximal : (other : ℕ) → other < length lists → HasAllOf lists other place → HasAllOf lists place other
  pub first : (earlier : ℕ) → earlier < place → HasAllOf lists earlier place → HasAllOf lists place earlier → ⊥

-- the members that stay, in their order
pub record AreKept (sets kept : List TrackSetData) : Type 0 where
  pub places : List ℕ
  pub rising : EachTwo (λ one other. one < other) places
  pub exactly : (place : ℕ) → Contains places place ↔ ((place < length sets) × Stays (map numbers_of sets) place)
  pub members : kept ≡ map (λ place. get_or sets place []) places
