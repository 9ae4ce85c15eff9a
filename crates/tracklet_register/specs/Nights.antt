-- Nights whose tracklets have numbers, and where a tracklet stands among them.
use Rattle.std.specs.Prelude.{ℤ, ◌≡◌, List}
use Rattle.std.specs.List.{Contains}
use Rattle.night_tree.specs.Nights.{NightData}
use Rattle.set_grow.specs.Nights.{NumberedNightData}
use Rattle.set_grow.specs.Numbered.{NumberedTracklet, without_numbers}

-- the night without the numbers of its tracklets
abbrev pub plain_night : NumberedNightData → NightData
plain_night night = record { number = night.number; tracklets = without_numbers night.tracklets }

-- a numbered tracklet stands in the night of this number
pub record StandsIn (nights : List NumberedNightData) (number : ℤ) (one : NumberedTracklet) : Type 0 where
  pub night : NumberedNightData
  pub kept : Contains nights night
  pub is : night.number ≡ number
  pub has : Contains night.tracklets one
