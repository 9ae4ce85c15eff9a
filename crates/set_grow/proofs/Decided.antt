-- Each set of numbers fits or doesn't, so every fitting set lies in one that can't grow.
use Rattle.std.proofs.Common.{ℕ, ℤ, neg_ℤ, ◌<ℤ◌, List, refl, subst}
use Rattle.std.proofs.lemmas.Int.{by_lt_z, ints}
use Rattle.std.proofs.Common.{arith}
use Rattle.std.specs.List.{Contains}
use mathlib.Core.Logic.{inl, inr}
use Rattle.closed_sets.specs.Families.{IsClosed}
use Rattle.quad_fit.specs.Laws.{FitIsDecided}
use Rattle.sky_units.specs.Arcs.{AreNear, MeetSpreadRule, quarter_turn}
use Rattle.sky_units.specs.Motion.{Fits, offset}
use Rattle.sky_units.specs.SettingsData.{SettingsData}
use Rattle.sky_units.specs.SpotData.{SpotData}
use Rattle.sky_units.specs.TrackletData.{TrackSetData, NightTracklets, spots_of}
use Rattle.sky_units.specs.Tracks.{AreAmong, AreNights, IsChoice}
use Rattle.sky_units.specs.declared.axis.Axis.{Axis}
use Rattle.sky_units.specs.declared.axis.Axis.TheVariants.{Ra, Dec}
use Rattle.set_grow.specs.Fitting.{FitsByNumber}
use Rattle.set_grow.specs.Numbered.{NumberedTracklet, NumberedTracklets, numbers_in, tracklets_in, without_numbers}
use Rattle.set_grow.proofs.Choices.{arc_of_choice}
use Rattle.set_grow.proofs.Chosen.{all_choices, all_numbers, chosen_in, in_all_numbers, plain_choice}
use Rattle.set_grow.proofs.Heredity.{parts_fit}
use Rattle.set_grow.proofs.Members.{IsDecided, among, both, each_among, each_two_or_not, of_mapped, reworded, some_or_none}
use Rattle.set_grow.proofs.NumberSets.{among_or_not, closed_above, set_or_not}

below_or_not : (a b : ℤ) → IsDecided (a <ℤ b)
below_or_not a b = by_lt_z a b (λ l. inl l) (λ l. inr (λ h. omega (arith, ints, l, h)))

near_or_not : (axis : Axis) (a b : SpotData) → IsDecided (AreNear axis a b)
near_or_not axis a b = both (below_or_not (neg_ℤ quarter_turn) (offset axis a b)) (below_or_not (offset axis a b) quarter_turn)

-- ---- a choice fits or doesn't
choice_or_not : FitIsDecided → (settings : SettingsData) (nights : List NightTracklets) (set : TrackSetData) → AreNights nights → IsChoice nights set → IsDecided (MeetSpreadRule (spots_of set) × Fits settings (spots_of set))
choice_or_not decided settings nights set a c = elim (each_two_or_not (λ x y. AreNear Ra x y × AreNear Dec x y) (λ x y. both (near_or_not Ra x y) (near_or_not Dec x y)) (spots_of set)) [
  | inl s ↦ reworded (λ f. (s, f)) (λ w. w.1) (decided settings (spots_of set) (arc_of_choice nights set a c s))
  | inr never ↦ inr (λ w. never w.0)
]

-- a choice shows that a set of numbers fits
abbrev Shows : SettingsData → List ℕ → NumberedTracklets → Type 0
Shows settings set chosen = (AreAmong set (numbers_in chosen) × AreAmong (numbers_in chosen) set) × (MeetSpreadRule (spots_of (without_numbers chosen)) × Fits settings (spots_of (without_numbers chosen)))

pub fits_or_not : FitIsDecided → (settings : SettingsData) (nights : List NumberedTracklets) → AreNights (tracklets_in nights) → (set : List ℕ) → IsDecided (FitsByNumber settings nights set)
fits_or_not decided settings nights a set =
    let choices = all_choices nights in
    let some : IsDecided ((chosen : NumberedTracklets) × Contains choices.list chosen × Shows settings set chosen) = some_or_none (Shows settings set) choices.list (λ chosen c. both
    (both (among_or_not set (numbers_in chosen)) (among_or_not (numbers_in chosen) set))
    (choice_or_not decided settings (tracklets_in nights) (without_numbers chosen) a (plain_choice nights chosen (choices.sound chosen c)))) in
    reworded
    (λ w. record {
      is_set = w.0;
      tracklets = without_numbers w.1.0;
      are = record { chosen = w.1.0; choice = choices.sound w.1.0 w.1.1; found = w.1.2.0.0; wanted = w.1.2.0.1; are = refl };
      spread = w.1.2.1.0;
      fits = w.1.2.1.1;
    })
    (λ f. (
      f.is_set,
      (f.are.chosen, choices.complete f.are.chosen f.are.choice, ((f.are.found, f.are.wanted), subst (λ t. MeetSpreadRule (spots_of t) × Fits settings (spots_of t)) f.are.are (f.spread, f.fits))),
    ))
    (both (set_or_not set) some)

-- the numbers of a fitting set are numbers of the nights
of_nights : (settings : SettingsData) (nights : List NumberedTracklets) (set : List ℕ) → FitsByNumber settings nights set → AreAmong set (all_numbers nights)
of_nights settings nights set f = each_among set (all_numbers nights) (λ x c.
    let one = of_mapped (λ (one : NumberedTracklet). one.num) f.are.chosen x (among set (numbers_in f.are.chosen) x f.are.found c) in
    subst (Contains (all_numbers nights)) one.2 (in_all_numbers nights one.0 (chosen_in nights f.are.chosen one.0 f.are.choice one.1)))

pub closed_set_above : FitIsDecided → (settings : SettingsData) (nights : List NumberedTracklets) (set : List ℕ) → AreNights (tracklets_in nights) → FitsByNumber settings nights set → (closed : List ℕ) × IsClosed (FitsByNumber settings nights) closed × AreAmong set closed
closed_set_above decided settings nights set a f = closed_above (FitsByNumber settings nights) (parts_fit settings nights a) (fits_or_not decided settings nights a) (all_numbers nights) (of_nights settings nights) set f
