-- What growing costs: the sets of three and the fitting sets that pay for its tests.
use Rattle.std.specs.Prelude.{ℕ, ◌+◌, ◌*◌, ◌<◌, ◌≤◌, List, length}
use Rattle.std.specs.List.{Contains}
use Rattle.closed_sets.specs.Counting.{AreDifferent, Rises}
use Rattle.sky_units.specs.Tracks.{AreAmong}
use Rattle.set_grow.specs.Ends.{MayGo, ends_there}
use Rattle.set_grow.specs.Growing.{HoldsOne}
use Rattle.set_grow.specs.Seats.{IsSeatOf}
use Rattle.set_grow.specs.SkyData.{FitsWithParts, SkyData}
use Rattle.set_grow.specs.declared.seats.Seat.{Seat}

-- two numbers are of tracklets of two nights that may be of one object by their own boxes
pub record MayMeet (sky : SkyData) (a b : ℕ) : Type 0 where
  pub seat : Seat
  pub other : Seat
  pub is_seat : IsSeatOf sky.nights a seat
  pub is_other : IsSeatOf sky.nights b other
  pub may : MayGo sky.settings seat.night (ends_there sky.settings sky.nights seat) other.night (ends_there sky.settings sky.nights other)

-- an item and two numbers, the lesser first, of which each two may be of one object
pub record MayBeOfOne (sky : SkyData) (item : ℕ) (pair : ℕ × ℕ) : Type 0 where
  pub rising : pair.0 < pair.1
  pub first : MayMeet sky item pair.0
  pub second : MayMeet sky item pair.1
  pub both : MayMeet sky pair.0 pair.1

-- the same of one of some items
abbrev pub IsTriple : SkyData → List ℕ → ℕ × (ℕ × ℕ) → Type 0
IsTriple sky items triple = Contains items triple.0 × MayBeOfOne sky triple.0 triple.1

-- a fitting set of three or more that holds one of some items
abbrev pub IsFittingWithOne : SkyData → List ℕ → List ℕ → Type 0
IsFittingWithOne sky items set = FitsWithParts sky set × HoldsOne items set × (3 ≤ length set)

-- some numbers have each of a fitting set that holds one of some items
abbrev pub HasAllWithOne : SkyData → List ℕ → List ℕ → Type 0
HasAllWithOne sky items numbers = (set : List ℕ) → FitsWithParts sky set → HoldsOne items set → AreAmong set numbers

-- a count rises by at most one for each of some such triples and by `cost` for each of some such sets
pub record IsPaidByBoth (sky : SkyData) (items : List ℕ) (cost before after : ℕ) : Type 0 where
  pub triples : List (ℕ × (ℕ × ℕ))
  pub sets : List (List ℕ)
  pub different_triples : AreDifferent triples
  pub different_sets : AreDifferent sets
  pub each_triple : (triple : ℕ × (ℕ × ℕ)) → Contains triples triple → IsTriple sky items triple
  pub each_set : (set : List ℕ) → Contains sets set → IsFittingWithOne sky items set
  pub rises : Rises (length triples + cost * length sets) before after

-- for any lists that have all of these, a count rises by no more
abbrev pub IsBounded : SkyData → List ℕ → ℕ → ℕ → Type 0
IsBounded sky items before after = (numbers : List ℕ) (triples : List (ℕ × (ℕ × ℕ))) (sets : List (List ℕ)) → HasAllWithOne sky items numbers →
    ((triple : ℕ × (ℕ × ℕ)) → IsTriple sky items triple → Contains triples triple) → ((set : List ℕ) → IsFittingWithOne sky items set → Contains sets set) →
    after ≤ before + length triples + length numbers * length sets
