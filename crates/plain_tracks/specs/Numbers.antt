-- Tracks by the numbers of their spots.
use Rattle.std.specs.Prelude.{◌≡◌, ℕ, List}
use Rattle.std.specs.List.{Contains}
use Rattle.sky_math.specs.Lists.{EachTwo}
use Rattle.sky_units.specs.TrackletData.{TrackSetData}
use Rattle.sky_units.specs.Tracks.{AreAmong, numbers_of}

-- no two numbers of a list are the same
abbrev pub AreDifferent : List ℕ → Type 0
AreDifferent = EachTwo (λ one other. one ≡ other → ⊥)

-- each of some lists that has all the numbers of this one has no other numbers
abbrev pub IsMaximalAmong : List (List ℕ) → List ℕ → Type 0
IsMaximalAmong lists numbers = (other : List ℕ) → Contains lists other → AreAmong numbers other → AreAmong other numbers

-- two of some sets whose spots have the same numbers are one
abbrev pub AreKnownByNumbers : List TrackSetData → Type 0
AreKnownByNumbers sets = (one other : TrackSetData) → Contains sets one → Contains sets other → numbers_of one ≡ numbers_of other → one ≡ other

-- the spots of each of some sets have different numbers
abbrev pub HaveDifferentNumbers : List TrackSetData → Type 0
HaveDifferentNumbers sets = (set : TrackSetData) → Contains sets set → AreDifferent (numbers_of set)
