-- What a change of the kept sets costs: the fit tests of what came.
use Rattle.std.specs.Prelude.{ℕ, List}
use Rattle.std.specs.List.{All, Contains}
use Rattle.night_tree.specs.Nights.{NightData}
use Rattle.set_grow.specs.Costs.{IsBounded}
use Rattle.set_grow.specs.declared.places.Place.{Place}
use Rattle.sky_units.specs.SettingsData.{SettingsData}
use Rattle.tracklet_register.specs.Exchanges.{AreExchanged}
use Rattle.tracklet_register.specs.Registers.{HasNumbersOf, with_numbers}
use Rattle.tracklet_register.specs.Replacing.{HaveDifferentLabels}
use Rattle.tracklet_register.specs.declared.nights.NightNumbers.{NightNumbers}
use Rattle.kept_tracks.specs.Stages.{tracklets_of_night}

-- a count of tests rises by no more than growing the tracklets that came allows (`IsBounded`): some numbers of the tracklets of the nights before, which the register
-- has, went, others came, and what these can be put together with is that of the nights as they are then
pub record AreFewTests (settings : SettingsData) (register : List NightNumbers) (old new : List NightData) (before after : ℕ) : Type 0 where
  pub numbers : List NightNumbers
  pub table : List Place
  pub went : List ℕ
  pub came : List ℕ
  pub numbered : HasNumbersOf numbers new
  pub exchanged : AreExchanged went came (with_numbers register old) (with_numbers numbers new)
  pub bounded : IsBounded (record { settings = settings; nights = with_numbers numbers new; table = table }) came before after

-- no night has a tracklet that it did not have before; they are told by the labels of their spots
abbrev pub BringNothing : List NightData → List NightData → Type 0
BringNothing nights changed =
    All (λ (night : NightData). HaveDifferentLabels (tracklets_of_night nights night.number) × All (Contains (tracklets_of_night nights night.number)) night.tracklets) changed
