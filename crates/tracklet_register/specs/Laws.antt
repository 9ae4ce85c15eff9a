-- What an exchange of tracklets does to the sets that fit, and what nights with the numbers of a register are.
use Rattle.std.specs.Prelude.{ℕ, ◌<ℤ◌, List}
use Rattle.std.specs.List.{All, Contains}
use Rattle.sky_math.specs.Lists.{EachTwo}
use Rattle.sky_units.specs.SettingsData.{SettingsData}
use Rattle.sky_units.specs.Tracks.{AreNights}
use Rattle.set_grow.specs.Fitting.{FitsByNumber}
use Rattle.set_grow.specs.Numbered.{AreNumbered, NumberedTracklets, tracklets_in}
use Rattle.set_grow.specs.declared.places.Place.{Place}
use Rattle.night_tree.specs.Nights.{NightData, tracklets_of_each}
use Rattle.kept_sets.specs.Changes.{IsChange}
use Rattle.kept_sets.specs.Kept.{IsOfFinitelyMany}
use Rattle.tracklet_register.specs.Exchanges.{AreExchanged, AreOfBoth}
use Rattle.set_grow.specs.Nights.{AreInPlace, HaveRisingNumbers, LeadsToEach, NumberedNightData, by_night}
use Rattle.tracklet_register.specs.Registers.{HasNumbersOf, with_numbers}
use Rattle.tracklet_register.specs.Replacing.{AreDifferent}
use Rattle.tracklet_register.specs.declared.nights.NightNumbers.{NightNumbers}

-- where tracklets are exchanged, what fits is what fitted, without those that went, and with those that came
abbrev pub ExchangeChangesFits : Type 0
ExchangeChangesFits = (settings : SettingsData) (old new : List NumberedNightData) (went came : List ℕ)
    → HaveRisingNumbers old → HaveRisingNumbers new → AreNights (tracklets_in (by_night old)) → AreNights (tracklets_in (by_night new))
    → AreExchanged went came old new
    → IsChange (FitsByNumber settings (by_night old)) (FitsByNumber settings (by_night new)) went came

-- nights in order of time that follow one another are in place once they have the numbers of a register, with its table
abbrev pub NumberedNightsAreInPlace : Type 0
NumberedNightsAreInPlace = (register : List NightNumbers) (table : List Place) (nights : List NightData) → HasNumbersOf register nights
    → AreNights (tracklets_of_each nights) → EachTwo (λ (one later : NightData). one.number <ℤ later.number) nights → LeadsToEach table (with_numbers register nights)
    → AreInPlace (with_numbers register nights) table

-- the sets that fit are made of the numbers of the nights
abbrev pub FitsAreOfFinitelyMany : Type 0
FitsAreOfFinitelyMany = (settings : SettingsData) (nights : List NumberedTracklets) → IsOfFinitelyMany (FitsByNumber settings nights)

-- where no night has a tracklet twice, no two of their tracklets have one number, and none has two
abbrev pub NumberedNightsAreNumbered : Type 0
NumberedNightsAreNumbered = (register : List NightNumbers) (table : List Place) (nights : List NightData) → HasNumbersOf register nights
    → AreInPlace (with_numbers register nights) table → All (λ night. AreDifferent night) (tracklets_of_each nights)
    → AreNumbered (by_night (with_numbers register nights))

-- two exchanges one after the other are one, where nothing that went by the first comes by the second
abbrev pub ExchangesFollow : Type 0
ExchangesFollow = (first middle last : List NumberedNightData) (went gone lost came joined new : List ℕ)
    → AreExchanged went came first middle → AreExchanged gone joined middle last → ((number : ℕ) → Contains joined number → ¬ (Contains went number))
    → AreOfBoth went gone lost → AreOfBoth came joined new → AreExchanged lost new first last
