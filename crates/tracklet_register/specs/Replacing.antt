-- A night's tracklets are replaced by others: which of them keep their numbers, and which numbers go and come.
use Rattle.std.specs.Prelude.{ℕ, ◌≡◌, ◌<◌, ◌⊎◌, ◌↔◌, ◌^◌, ℤ, Bool, true, false, List, length, map}
use Rattle.std.specs.List.{Contains}
use Rattle.sky_math.specs.Lists.{EachTwo}
use Rattle.sky_units.specs.SpotData.{SpotData}
use Rattle.sky_units.specs.TrackletData.{NightTracklets, TrackletData}
use Rattle.closed_sets.specs.Families.{IsSet}
use Rattle.set_grow.specs.Nights.{numbered_by}
use Rattle.set_grow.specs.Numbered.{NumberedTracklet, NumberedTracklets, without_numbers}
use Rattle.tracklet_register.specs.Registers.{HasNight, RegisterData, is_taken, numbers_of}

-- no two of a list are the same
abbrev pub AreDifferent : {X : Type 0} → List X → Type 0
AreDifferent list = EachTwo (λ one other. one ≡ other → ⊥) list

-- the labels of a tracklet's spots
abbrev pub labels_of : TrackletData → List ℕ
labels_of tracklet = map (λ (spot : SpotData). spot.num) tracklet

-- no two tracklets have spots of the same labels
abbrev pub HaveDifferentLabels : NightTracklets → Type 0
HaveDifferentLabels tracklets = EachTwo (λ one other. labels_of one ≡ labels_of other → ⊥) tracklets

-- a tracklet kept its number, or got one that came; it kept it if it was there, where the tracklets were told by their labels
abbrev pub KeptOrCame : NumberedTracklets → List ℕ → NumberedTracklet → Type 0
KeptOrCame before came one = Contains before one ⊎ (Contains came one.num × (HaveDifferentLabels (without_numbers before) → ¬ (Contains (without_numbers before) one.tracklet)))

-- numbers for tracklets: those that were there keep theirs, and the others get the free ones below an end
pub record AreRenewed (before : NumberedTracklets) (taken : List Bool) (after : NightTracklets) (numbers came : List ℕ) (end : ℕ) : Type 0 where
  pub size : length numbers ≡ length after
  pub each : (one : NumberedTracklet) → Contains (numbered_by numbers after) one → KeptOrCame before came one
  pub once : AreDifferent numbers
  pub used : (number : ℕ) → Contains came number → Contains numbers number
  pub free : (number : ℕ) → Contains came number → is_taken taken number ≡ false
  pub below : (number : ℕ) → Contains came number → number < end
  pub least : (lower : ℕ) → lower < end → (is_taken taken lower ≡ true) ⊎ Contains came lower
  pub in_order : IsSet came

-- what a register is after the tracklets of a night were replaced, and the numbers that went and came
pub record IsReplaced (old new : RegisterData) (night : ℤ) (before after : NightTracklets) (went came : List ℕ) : Type 0 where
  pub others : (other : ℤ) → ¬ (other ≡ night) → numbers_of new.nights other ≡ numbers_of old.nights other
  pub size : length (numbers_of new.nights night) ≡ length after
  pub each : (one : NumberedTracklet) → Contains (numbered_by (numbers_of new.nights night) after) one → KeptOrCame (numbered_by (numbers_of old.nights night) before) came one
  pub lost : (number : ℕ) → Contains went number ↔ (Contains (numbers_of old.nights night) number × ¬ (Contains (numbers_of new.nights night) number))
  pub gone : (other : ℤ) (number : ℕ) → Contains went number → ¬ (Contains (numbers_of new.nights other) number)
  pub waiting : (number : ℕ) → Contains went number → (is_taken old.taken number ≡ true) × (is_taken new.taken number ≡ true)
  pub used : (number : ℕ) → Contains came number → Contains (numbers_of new.nights night) number
  pub free : (number : ℕ) → Contains came number → is_taken old.taken number ≡ false
  pub least : (number lower : ℕ) → Contains came number → lower < number → (is_taken old.taken lower ≡ true) ⊎ Contains came lower
  pub taken : (number : ℕ) → (is_taken new.taken number ≡ true) ↔ ((is_taken old.taken number ≡ true) ⊎ Contains came number)

-- a night can have some numbers again, and some that came can be freed
pub record CanReturn (register : RegisterData) (night : ℤ) (before came : List ℕ) : Type 0 where
  pub there : HasNight register.nights night
  pub few : length before < 2 ^ 32
  pub once : AreDifferent before
  pub held : (number : ℕ) → Contains before number → is_taken register.taken number ≡ true
  pub apart : (other : ℤ) (number : ℕ) → ¬ (other ≡ night) → Contains (numbers_of register.nights other) number → ¬ (Contains before number)
  pub fresh : (number : ℕ) → Contains came number → ¬ (Contains before number)
  pub own : (other : ℤ) (number : ℕ) → ¬ (other ≡ night) → Contains (numbers_of register.nights other) number → ¬ (Contains came number)
