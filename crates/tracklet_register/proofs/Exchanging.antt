-- What an exchange of tracklets does to the sets that fit.
use Rattle.std.proofs.Common.{◌≡◌, ℕ, ℤ, List, refl, sym, subst}
use Rattle.std.specs.Bool.{⊤}
use Rattle.std.specs.List.{Contains}
use Rattle.kept_sets.proofs.Basics.{less_among, less_is_set, of_less}
use Rattle.kept_sets.specs.Changes.{IsChange}
use Rattle.kept_sets.specs.Lists.{HoldsOne, less}
use Rattle.set_grow.proofs.Chosen.{chosen_in}
use Rattle.set_grow.proofs.Heredity.{part_fits}
use Rattle.set_grow.proofs.Members.{among, in_mapped, of_mapped}
use Rattle.set_grow.specs.Fitting.{FitsByNumber}
use Rattle.set_grow.specs.Numbered.{IsNumberedIn, NumberedTracklet, numbers_in, tracklets_in}
use Rattle.sky_units.specs.SettingsData.{SettingsData}
use Rattle.sky_units.specs.Tracks.{AreNights}
use Rattle.tracklet_register.proofs.Carried.{choice_by_number, chosen_by_number, chosen_there}
use Rattle.tracklet_register.specs.Exchanges.{AreExchanged, KeepAllBut}
use Rattle.set_grow.specs.Nights.{HaveRisingNumbers, NumberedNightData, by_night}
use Rattle.tracklet_register.specs.Nights.{StandsIn}

-- a set that fits in some nights fits in others where all its tracklets stand there too
carried : (settings : SettingsData) (from to : List NumberedNightData) (set : List ℕ) → HaveRisingNumbers from → HaveRisingNumbers to
    → ((night : ℤ) (one : NumberedTracklet) → Contains set one.num → StandsIn from night one → StandsIn to night one)
    → FitsByNumber settings (by_night from) set → FitsByNumber settings (by_night to) set
carried settings from to set order there carry f =
    let in_set : (one : NumberedTracklet) → Contains f.are.chosen one → Contains set one.num =
    λ one c. among (numbers_in f.are.chosen) set one.num f.are.wanted (in_mapped (λ (one : NumberedTracklet). one.num) f.are.chosen one c) in
    let by_number = chosen_by_number from (λ number. ⊤) f.are.chosen order (λ night c. tt) f.are.choice in
    let moved = chosen_there from to (λ number. ⊤) f.are.chosen (λ night one c s. carry night one (in_set one c) s) by_number in
    record {
      is_set = f.is_set;
      tracklets = f.tracklets;
      are = record {
        chosen = f.are.chosen;
        choice = choice_by_number to (λ number. ⊤) f.are.chosen there moved;
        found = f.are.found;
        wanted = f.are.wanted;
        are = f.are.are;
      };
      spread = f.spread;
      fits = f.fits;
    }

-- without what went, a set that fitted fits still
stays : (settings : SettingsData) (went : List ℕ) (from to : List NumberedNightData) (set : List ℕ) → HaveRisingNumbers from → HaveRisingNumbers to → AreNights (tracklets_in (by_night from))
    → KeepAllBut went from to → FitsByNumber settings (by_night from) set → FitsByNumber settings (by_night to) (less went set)
stays settings went from to set order there nights keep f =
    let part : FitsByNumber settings (by_night from) (less went set) = part_fits settings (by_night from) set (less went set) nights f (less_is_set went set f.is_set) (less_among went set) in
    carried settings from to (less went set) order there (λ night one c s. keep.stay night one s (of_less went set one.num c).1) part

-- a number of a set that fits is that of a tracklet of some night
stands : (settings : SettingsData) (nights : List NumberedNightData) (set : List ℕ) (x : ℕ) → FitsByNumber settings (by_night nights) set → Contains set x
    → (night : ℤ) × (one : NumberedTracklet) × StandsIn nights night one × (one.num ≡ x)
stands settings nights set x f c =
    let one = of_mapped (λ (one : NumberedTracklet). one.num) f.are.chosen x (among set (numbers_in f.are.chosen) x f.are.found c) in
    let held : IsNumberedIn (by_night nights) one.0 = chosen_in (by_night nights) f.are.chosen one.0 f.are.choice one.1 in
    let night = of_mapped (λ (night : NumberedNightData). night.tracklets) nights held.0 held.1 in
    (night.0.number, one.0, record { night = night.0; kept = night.1; is = refl; has = subst (λ list. Contains list one.0) (sym night.2) held.2 }, one.2)

-- no set that fits holds what isn't there
none_held : (settings : SettingsData) (numbers : List ℕ) (from to : List NumberedNightData) (set : List ℕ) → KeepAllBut numbers from to → FitsByNumber settings (by_night to) set → HoldsOne numbers set → ⊥
none_held settings numbers from to set keep f h =
    let w = stands settings to set h.0 f h.2 in
    keep.none w.0 w.1 w.2 (subst (Contains numbers) (sym w.3) h.1)

pub exchange_changes : (settings : SettingsData) (old new : List NumberedNightData) (went came : List ℕ)
    → HaveRisingNumbers old → HaveRisingNumbers new → AreNights (tracklets_in (by_night old)) → AreNights (tracklets_in (by_night new))
    → AreExchanged went came old new
    → IsChange (FitsByNumber settings (by_night old)) (FitsByNumber settings (by_night new)) went came
exchange_changes settings old new went came before after old_nights new_nights e = record {
  stays = λ set f. stays settings went old new set before after old_nights e.there f;
  was = λ set f. stays settings came new old set after before new_nights e.back f;
  fresh = λ set f h. none_held settings came new old set e.back f h;
  gone = λ set f h. none_held settings went old new set e.there f h;
}
