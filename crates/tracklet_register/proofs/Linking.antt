-- The nights with the numbers of a register, as the search for closed sets wants them.
use Rattle.std.proofs.Common.{◌≡◌, ◌<ℤ◌, inl, inr, List, [], ◌∷◌, map, refl, sym, subst, ap, ap₂, ◌∙◌, arith}
use Rattle.std.proofs.lemmas.Int.{ints}
use Rattle.std.proofs.lemmas.List.Elements.{All-contains, All-head, All-map, All-tail}
use Rattle.std.specs.List.{All, Contains}
use Rattle.kept_sets.specs.Kept.{IsOfFinitelyMany}
use Rattle.night_tree.specs.Nights.{NightData, tracklets_of_each}
use Rattle.set_grow.proofs.Choices.{before_held, first_spot, nights_tail}
use Rattle.set_grow.proofs.Chosen.{all_numbers, chosen_in, in_all_numbers}
use Rattle.set_grow.proofs.Members.{among, each_among, each_two_cons, each_two_head, each_two_tail, front_or_rest, in_front, in_mapped, in_none, in_rest, of_mapped}
use Rattle.set_grow.proofs.Seating.{numbers_tell}
use Rattle.set_grow.specs.Fitting.{FitsByNumber}
use Rattle.set_grow.specs.Nights.{AreInPlace, HaveRisingNumbers, LeadsToEach, NumberedNightData, by_night, numbered_by}
use Rattle.set_grow.specs.Numbered.{AreNumbered, IsNumberedIn, NumberedTracklet, NumberedTracklets, numbers_in, tracklets_in, without_numbers}
use Rattle.set_grow.specs.declared.places.Place.{Place}
use Rattle.sky_math.specs.Lists.{EachTwo}
use Rattle.sky_units.specs.SettingsData.{SettingsData}
use Rattle.sky_units.specs.TrackletData.{NightTracklets, TrackletData}
use Rattle.sky_units.specs.Tracks.{AreNights}
use Rattle.tracklet_register.proofs.Numbered.{tracklets_are}
use Rattle.tracklet_register.specs.Registers.{HasNumbersOf, numbers_of, with_numbers}
use Rattle.tracklet_register.specs.Replacing.{AreDifferent}
use Rattle.tracklet_register.specs.declared.nights.NightNumbers.{NightNumbers}

abbrev numbered_night : List NightNumbers → NightData → NumberedNightData
numbered_night register night = record { number = night.number; tracklets = numbered_by (numbers_of register night.number) night.tracklets }

-- without the numbers they are the nights
pub plain_again : (register : List NightNumbers) (nights : List NightData) → HasNumbersOf register nights → tracklets_in (by_night (with_numbers register nights)) ≡ tracklets_of_each nights
plain_again register [] size = refl
plain_again register (night ∷ nights) size =
    let here : without_numbers (numbered_by (numbers_of register night.number) night.tracklets) ≡ night.tracklets = tracklets_are (numbers_of register night.number) night.tracklets (size night (in_front night nights)) in
    let rest : tracklets_in (by_night (with_numbers register nights)) ≡ tracklets_of_each nights = plain_again register nights (λ later c. size later (in_rest night nights later c)) in
    ap₂ (λ (first : NightTracklets) (others : List NightTracklets). first ∷ others) here rest

pub still_rise : (register : List NightNumbers) (nights : List NightData) → EachTwo (λ (one later : NightData). one.number <ℤ later.number) nights → HaveRisingNumbers (with_numbers register nights)
still_rise register [] rise = λ i j d ij jl. absurd (omega (arith, jl))
still_rise register (night ∷ nights) rise =
    let R : NightData → NightData → Type 0 = λ one later. one.number <ℤ later.number in
    let S : NumberedNightData → NumberedNightData → Type 0 = λ one later. one.number <ℤ later.number in
    let first : All (λ (later : NightData). night.number <ℤ later.number) nights = each_two_head R night nights rise in
    each_two_cons S (numbered_night register night) (map (numbered_night register) nights) (All-map (S (numbered_night register night)) (numbered_night register) nights first) (still_rise register nights (each_two_tail R night nights rise))

pub in_place : (table : List Place) (register : List NightNumbers) (nights : List NightData) → LeadsToEach table (with_numbers register nights) → HasNumbersOf register nights
    → AreNights (tracklets_of_each nights) → EachTwo (λ (one later : NightData). one.number <ℤ later.number) nights → AreInPlace (with_numbers register nights) table
in_place table register nights leads size follow rise = record {
  in_time = subst AreNights (sym (plain_again register nights size)) follow;
  rising = still_rise register nights rise;
  leads = leads;
}

-- what fits is made of the numbers of the nights
pub of_finitely_many : (settings : SettingsData) (nights : List NumberedTracklets) → IsOfFinitelyMany (FitsByNumber settings nights)
of_finitely_many settings nights = record {
  items = all_numbers nights;
  all = λ set f. each_among set (all_numbers nights) (λ number c.
      let one = of_mapped (λ (one : NumberedTracklet). one.num) f.are.chosen number (among set (numbers_in f.are.chosen) number f.are.found c) in
      subst (Contains (all_numbers nights)) one.2 (in_all_numbers nights one.0 (chosen_in nights f.are.chosen one.0 f.are.choice one.1)));
}

-- ---- no tracklet has two numbers
abbrev HaveNoRepeats : List NightTracklets → Type 0
HaveNoRepeats nights = All (λ (night : NightTracklets). AreDifferent night) nights

tells_number : (night : NumberedTracklets) (one other : NumberedTracklet) → AreDifferent (without_numbers night) → Contains night one → Contains night other → one.tracklet ≡ other.tracklet → one ≡ other
tells_number [] one other a c d e = absurd (in_none one c)
tells_number (first ∷ night) one other a c d e = elim (front_or_rest first night one c) [
  | inl s ↦ elim (front_or_rest first night other d) [
    | inl r ↦ sym s ∙ r
    | inr k ↦ absurd (isnt_later first night other a k (ap (λ (o : NumberedTracklet). o.tracklet) s ∙ e))
  ]
  | inr j ↦ elim (front_or_rest first night other d) [
    | inl r ↦ absurd (isnt_later first night one a j (ap (λ (o : NumberedTracklet). o.tracklet) r ∙ sym e))
    | inr k ↦ tells_number night one other (each_two_tail (λ x y. x ≡ y → ⊥) first.tracklet (without_numbers night) a) j k e
  ]
]
  where
    isnt_later : (first : NumberedTracklet) (night : NumberedTracklets) (one : NumberedTracklet) → AreDifferent (without_numbers (first ∷ night)) → Contains night one → first.tracklet ≡ one.tracklet → ⊥
    isnt_later first night one a c e = All-contains (λ y. first.tracklet ≡ y → ⊥) (without_numbers night) one.tracklet (each_two_head (λ x y. x ≡ y → ⊥) first.tracklet (without_numbers night) a) (in_mapped (λ (o : NumberedTracklet). o.tracklet) night one c) e

-- no tracklet is of a night and of a later one
of_one_night : (night : NumberedTracklets) (nights : List NumberedTracklets) (one : NumberedTracklet) (tracklet : TrackletData) → AreNights (tracklets_in (night ∷ nights)) → Contains (without_numbers night) tracklet → IsNumberedIn nights one → one.tracklet ≡ tracklet → ⊥
of_one_night night nights one tracklet a here w e =
    let there : Contains (without_numbers w.0) tracklet = subst (Contains (without_numbers w.0)) e (in_mapped (λ (o : NumberedTracklet). o.tracklet) w.0 one w.2) in
    let spot = first_spot (without_numbers night) (tracklets_in nights) tracklet a here in
    let itself : spot.0.epoch <ℤ spot.0.epoch = before_held (without_numbers night) (tracklets_in nights) spot.0 spot.0 a (tracklet, here, spot.1)
    (without_numbers w.0, in_mapped without_numbers nights w.0 w.1, (tracklet, there, spot.1)) in
    omega (arith, ints, itself)

one_number : (nights : List NumberedTracklets) (one other : NumberedTracklet) → AreNights (tracklets_in nights) → HaveNoRepeats (tracklets_in nights) → IsNumberedIn nights one → IsNumberedIn nights other → one.tracklet ≡ other.tracklet → one ≡ other
one_number [] one other a d v w e = absurd (in_none v.0 v.1)
one_number (night ∷ nights) one other a d v w e = elim (front_or_rest night nights v.0 v.1) [
  | inl s ↦ elim (front_or_rest night nights w.0 w.1) [
    | inl r ↦ tells_number night one other (All-head (λ (list : NightTracklets). AreDifferent list) (without_numbers night) (tracklets_in nights) d) (subst (λ list. Contains list one) (sym s) v.2) (subst (λ list. Contains list other) (sym r) w.2) e
    | inr k ↦ absurd (of_one_night night nights other one.tracklet a (in_mapped (λ (o : NumberedTracklet). o.tracklet) night one (subst (λ list. Contains list one) (sym s) v.2)) (w.0, k, w.2) (sym e))
  ]
  | inr j ↦ elim (front_or_rest night nights w.0 w.1) [
    | inl r ↦ absurd (of_one_night night nights one other.tracklet a (in_mapped (λ (o : NumberedTracklet). o.tracklet) night other (subst (λ list. Contains list other) (sym r) w.2)) (v.0, j, v.2) e)
    | inr k ↦ one_number nights one other (nights_tail (without_numbers night) (tracklets_in nights) a) (All-tail (λ (list : NightTracklets). AreDifferent list) (without_numbers night) (tracklets_in nights) d) (v.0, j, v.2) (w.0, k, w.2) e
  ]
]

pub are_numbered : (table : List Place) (register : List NightNumbers) (nights : List NightData) → HasNumbersOf register nights → AreInPlace (with_numbers register nights) table → HaveNoRepeats (tracklets_of_each nights)
    → AreNumbered (by_night (with_numbers register nights))
are_numbered table register nights size place different = record {
  by_number = numbers_tell (with_numbers register nights) table place;
  by_tracklet = λ one other v w e. one_number (by_night (with_numbers register nights)) one other place.in_time (subst HaveNoRepeats (sym (plain_again register nights size)) different) v w e;
}
