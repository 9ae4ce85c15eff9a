-- Sets at places, some of them empty, and an index of the places by item.
use Rattle.std.specs.Prelude.{ℕ, ◌≡◌, ◌<◌, ◌≤◌, ◌↔◌, ◌⊎◌, ◌++◌, Bool, true, false, List, [], ◌∷◌, length, map, slice_index_or}
use Rattle.std.specs.List.{Contains, filter}
use Rattle.sky_units.specs.Tracks.{AreAmong}
use Rattle.kept_sets.specs.Lists.{AreDifferent, HoldsOne, less}

-- the list at a place, empty behind the last one
abbrev pub at : List (List ℕ) → ℕ → List ℕ
at lists place = slice_index_or lists place []

-- whether a place has a set
abbrev pub is_filled : List ℕ → Bool
is_filled [] = false
is_filled (x ∷ xs) = true

-- the sets at the places that have one
abbrev pub filled : List (List ℕ) → List (List ℕ)
filled sets = filter is_filled sets

-- each item of a set has the set's place in the index; the index may have more
pub record IsFound (sets index : List (List ℕ)) : Type 0 where
  pub places : (place item : ℕ) → Contains (at sets place) item → Contains (at index item) place

-- sets that are each at one place, and their index
pub record IsStore (sets index : List (List ℕ)) : Type 0 where
  pub found : IsFound sets index
  pub apart : (place other item : ℕ) → Contains (at sets place) item → at sets place ≡ at sets other → place ≡ other

-- an index that has all that another has
pub record IsWider (before after : List (List ℕ)) : Type 0 where
  pub all : (item place : ℕ) → Contains (at before item) place → Contains (at after item) place

-- an index that has all the places of another that have sets
pub record KeepsFilled (sets before after : List (List ℕ)) : Type 0 where
  pub all : (item place : ℕ) → Contains (at before item) place → 0 < length (at sets place) → Contains (at after item) place

-- where the set at a place holds all of a rest, it is an old one, and its own rest has no more
abbrev pub Allows : List (List ℕ) → List (List ℕ) → List ℕ → List ℕ → ℕ → Type 0
Allows old added went rest place = AreAmong rest (at (old ++ added) place) → (place < length old) × AreAmong (less went (at old place)) rest

-- a rest of three or more that no old set and no added one lets go
pub record IsTopRest (old added : List (List ℕ)) (went rest : List ℕ) : Type 0 where
  pub large : 3 ≤ length rest
  pub allowed : (place : ℕ) → Allows old added went rest place

-- the rest of the set at a place is added where it is to be
abbrev pub IsRestAdded : List (List ℕ) → List ℕ → ℕ → List (List ℕ) → List (List ℕ) → Type 0
IsRestAdded old went place added now = (IsTopRest old added went (less went (at old place)) × (now ≡ added ++ less went (at old place) ∷ []))
    ⊎ ((IsTopRest old added went (less went (at old place)) → ⊥) × (now ≡ added))

-- the rest of the set at one of some places, where it is to be added to the grown sets
pub record IsRestAt (old : List (List ℕ)) (went : List ℕ) (grown : List (List ℕ)) (places : List ℕ) (set : List ℕ) : Type 0 where
  pub place : ℕ
  pub listed : Contains places place
  pub is : set ≡ less went (at old place)
  pub top : IsTopRest old grown went set

-- grown sets and the rests of the sets at some places, each once
pub record AreAdded (old : List (List ℕ)) (went : List ℕ) (grown : List (List ℕ)) (places : List ℕ) (added : List (List ℕ)) : Type 0 where
  pub once : AreDifferent added
  pub exactly : (set : List ℕ) → Contains added set ↔ (Contains grown set ⊎ IsRestAt old went grown places set)

-- what a change will do: the places of the sets that lost items, those of the sets that are grown ones without what came, and what is added
pub record IsPrepared (sets : List (List ℕ)) (went came : List ℕ) (grown : List (List ℕ)) (broken extended : List ℕ) (added : List (List ℕ)) : Type 0 where
  pub breaks : (place : ℕ) → Contains broken place ↔ HoldsOne went (at sets place)
  pub extends : (place : ℕ) → Contains extended place ↔ (Contains (map (less came) grown) (at sets place) × (0 < length (at sets place)))
  pub adds : AreAdded sets went grown broken added

-- sets of which those at some places are taken out
pub record AreEmptied (before : List (List ℕ)) (broken extended : List ℕ) (after : List (List ℕ)) : Type 0 where
  pub gone : (place : ℕ) → Contains broken place ⊎ Contains extended place → at after place ≡ []
  pub left : (place : ℕ) → (Contains broken place → ⊥) → (Contains extended place → ⊥) → at after place ≡ at before place
