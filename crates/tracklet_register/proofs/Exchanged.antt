-- A replacement of a night's tracklets is an exchange of numbered ones, among any nights that differ in them alone.
use Rattle.std.proofs.Common.{◌≡◌, ◌↔◌, ℕ, ℤ, ◌<ℤ◌, Bool, Some, List, [], inl, inr, refl, sym, subst, ap, ◌∙◌, arith}
use Rattle.std.proofs.lemmas.Bool.{false≢true}
use Rattle.std.proofs.lemmas.Int.{by_lt_z, ints}
use Rattle.std.specs.List.{Contains, slice_get}
use Rattle.closed_sets.proofs.Lists.{in_or_not}
use Rattle.night_tree.specs.Nights.{NightData}
use Rattle.set_grow.proofs.Members.{in_mapped, in_none, of_mapped}
use Rattle.set_grow.specs.Nights.{LeadsToEach, NumberedNightData, numbered_by}
use Rattle.set_grow.specs.Numbered.{NumberedTracklet}
use Rattle.set_grow.specs.declared.places.Place.{Place}
use Rattle.sky_units.specs.TrackletData.{NightTracklets}
use Rattle.tracklet_register.proofs.Entries.{same_night}
use Rattle.tracklet_register.proofs.Numbered.{has_both, has_tracklet, number_there, tells, with_number}
use Rattle.tracklet_register.proofs.Replaced.{each_once, one_night}
use Rattle.tracklet_register.specs.Exchanges.{AreExchanged}
use Rattle.tracklet_register.specs.Nights.{StandsIn}
use Rattle.tracklet_register.specs.Registers.{DifferAt, IsBefore, IsCutBefore, IsRegister, IsWithout, LeadsToPlaces, numbers_of, with_numbers}
use Rattle.tracklet_register.specs.Replacing.{IsReplaced}
use Rattle.tracklet_register.specs.declared.nights.NightNumbers.{NightNumbers}

abbrev numbered_night : List NightNumbers → NightData → NumberedNightData
numbered_night register night = record { number = night.number; tracklets = numbered_by (numbers_of register night.number) night.tracklets }

-- the table of the numbers leads to each numbered tracklet
pub leads_to_each : (table : List Place) (register : List NightNumbers) (nights : List NightData) → LeadsToPlaces table register → LeadsToEach table (with_numbers register nights)
leads_to_each table register nights leads = λ night place one c e.
    let w = of_mapped (numbered_night register) nights night c in
    let there : slice_get (numbered_by (numbers_of register w.0.number) w.0.tracklets) place ≡ Some one = ap (λ (n : NumberedNightData). slice_get n.tracklets place) w.2 ∙ e in
    let same : w.0.number ≡ night.number = ap (λ (n : NumberedNightData). n.number) w.2 in
    leads w.0.number place one.num (number_there (numbers_of register w.0.number) w.0.tracklets place one there) ∙ ap (λ n. Some (record { night = n; place = place })) same

-- where a numbered tracklet stands
of_stands : (register : List NightNumbers) (nights : List NightData) (night : ℤ) (one : NumberedTracklet) → StandsIn (with_numbers register nights) night one
    → (kept : NightData) × Contains nights kept × (kept.number ≡ night) × Contains (numbered_by (numbers_of register night) kept.tracklets) one
of_stands register nights night one s =
    let w = of_mapped (numbered_night register) nights s.night s.kept in
    let same : w.0.number ≡ night = ap (λ (n : NumberedNightData). n.number) w.2 ∙ s.is in
    let has : Contains (numbered_by (numbers_of register w.0.number) w.0.tracklets) one = subst (λ (n : NumberedNightData). Contains n.tracklets one) (sym w.2) s.has in
    (w.0, w.1, same, subst (λ n. Contains (numbered_by (numbers_of register n) w.0.tracklets) one) same has)

stands : (register : List NightNumbers) (nights : List NightData) (night : ℤ) (one : NumberedTracklet) (kept : NightData) → Contains nights kept → kept.number ≡ night → Contains (numbered_by (numbers_of register night) kept.tracklets) one
    → StandsIn (with_numbers register nights) night one
stands register nights night one kept c is has = record {
  night = numbered_night register kept;
  kept = in_mapped (numbered_night register) nights kept c;
  is = is;
  has = subst (λ n. Contains (numbered_by (numbers_of register n) kept.tracklets) one) (sym is) has;
}

-- what an exchange is made of
record AreParts (nights now : List NightNumbers) (table : List Place) (taken marks : List Bool) (night : ℤ) (before after : NightTracklets) (went came : List ℕ) (old new : List NightData) : Type 0 where
  register : IsRegister nights table taken
  replaced : IsReplaced (record { nights = nights; taken = taken }) (record { nights = now; taken = marks }) night before after went came
  differ : DifferAt night before after old new

module _ (nights now : List NightNumbers) (table : List Place) (taken marks : List Bool) (night : ℤ) (before after : NightTracklets) (went came : List ℕ) (old new : List NightData) (p : AreParts nights now table taken marks night before after went came old new) where
  -- a number that stood there is none that came
  old_is_not_new : (other : ℤ) (number : ℕ) → Contains (numbers_of nights other) number → ¬ (Contains came number)
  old_is_not_new other number c d = false≢true (sym (p.replaced.free number d) ∙ p.register.held other number c)

  -- what stood in the night and has not gone stands there, and the other way round
  still_there : (one : NumberedTracklet) → Contains (numbered_by (numbers_of nights night) before) one → ¬ (Contains went one.num) → Contains (numbered_by (numbers_of now night) after) one
  still_there one c stays =
      let number : Contains (numbers_of nights night) one.num = (has_both (numbers_of nights night) before one c).0 in
      elim (in_or_not (numbers_of now night) one.num) [
        | inr never ↦ absurd (stays ((p.replaced.lost one.num).1 (number, never)))
        | inl d ↦
            let w = has_tracklet (numbers_of now night) after one.num p.replaced.size d in
            elim (p.replaced.each (with_number one.num w.0) w.1) [
              | inl there ↦
                  let same : with_number one.num w.0 ≡ one = tells (numbers_of nights night) before (with_number one.num w.0) one (each_once table nights night p.register.leads) there c refl in
                  subst (Contains (numbered_by (numbers_of now night) after)) same w.1
              | inr k ↦ absurd (old_is_not_new night one.num number k.0)
            ]
      ]

  was_there : (one : NumberedTracklet) → Contains (numbered_by (numbers_of now night) after) one → ¬ (Contains came one.num) → Contains (numbered_by (numbers_of nights night) before) one
  was_there one c never = elim (p.replaced.each one c) [ inl there ↦ there | inr k ↦ absurd (never k.0) ]

  stay : (other : ℤ) (one : NumberedTracklet) → StandsIn (with_numbers nights old) other one → ¬ (Contains went one.num) → StandsIn (with_numbers now new) other one
  stay other one s stays =
      let w = of_stands nights old other one s in
      elim (same_night other night) [
        | inl e ↦
            let tracklets : w.0.tracklets ≡ before = p.differ.was w.0 (w.2 ∙ e.0) w.1 in
            let here : Contains (numbered_by (numbers_of nights night) before) one = subst (λ n. Contains (numbered_by (numbers_of nights n) before) one) e.0 (subst (λ (list : NightTracklets). Contains (numbered_by (numbers_of nights other) list) one) tracklets w.3) in
            let moved : Contains (numbered_by (numbers_of now night) after) one = still_there one here stays in
            let kept = p.differ.has one.tracklet (has_both (numbers_of now night) after one moved).1 in
            let there : Contains (numbered_by (numbers_of now night) kept.0.tracklets) one = subst (λ (list : NightTracklets). Contains (numbered_by (numbers_of now night) list) one) (sym (p.differ.is kept.0 kept.2 kept.1)) moved in
            subst (λ n. StandsIn (with_numbers now new) n one) (sym e.0) (stands now new night one kept.0 kept.1 kept.2 there)
        | inr e ↦
            let same : numbers_of now other ≡ numbers_of nights other = p.replaced.others other e.0 in
            let there : Contains (numbered_by (numbers_of now other) w.0.tracklets) one = subst (λ (list : List ℕ). Contains (numbered_by list w.0.tracklets) one) (sym same) w.3 in
            stands now new other one w.0 (p.differ.stay w.0 (λ s. e.0 (sym w.2 ∙ s)) w.1) w.2 there
      ]

  back : (other : ℤ) (one : NumberedTracklet) → StandsIn (with_numbers now new) other one → ¬ (Contains came one.num) → StandsIn (with_numbers nights old) other one
  back other one s never =
      let w = of_stands now new other one s in
      elim (same_night other night) [
        | inl e ↦
            let tracklets : w.0.tracklets ≡ after = p.differ.is w.0 (w.2 ∙ e.0) w.1 in
            let here : Contains (numbered_by (numbers_of now night) after) one = subst (λ n. Contains (numbered_by (numbers_of now n) after) one) e.0 (subst (λ (list : NightTracklets). Contains (numbered_by (numbers_of now other) list) one) tracklets w.3) in
            let moved : Contains (numbered_by (numbers_of nights night) before) one = was_there one here never in
            let kept = p.differ.had one.tracklet (has_both (numbers_of nights night) before one moved).1 in
            let there : Contains (numbered_by (numbers_of nights night) kept.0.tracklets) one = subst (λ (list : NightTracklets). Contains (numbered_by (numbers_of nights night) list) one) (sym (p.differ.was kept.0 kept.2 kept.1)) moved in
            subst (λ n. StandsIn (with_numbers nights old) n one) (sym e.0) (stands nights old night one kept.0 kept.1 kept.2 there)
        | inr e ↦
            let there : Contains (numbered_by (numbers_of nights other) w.0.tracklets) one = subst (λ (list : List ℕ). Contains (numbered_by list w.0.tracklets) one) (p.replaced.others other e.0) w.3 in
            stands nights old other one w.0 (p.differ.stood w.0 (λ s. e.0 (sym w.2 ∙ s)) w.1) w.2 there
      ]

  -- what stands there now has not gone, and what stood there before has not come
  none_went : (other : ℤ) (one : NumberedTracklet) → StandsIn (with_numbers now new) other one → ¬ (Contains went one.num)
  none_went other one s c =
      let w = of_stands now new other one s in
      let gone = (p.replaced.lost one.num).0 c in
      let number : Contains (numbers_of now other) one.num = (has_both (numbers_of now other) w.0.tracklets one w.3).0 in
      elim (same_night other night) [
        | inl e ↦ gone.1 (subst (λ n. Contains (numbers_of now n) one.num) e.0 number)
        | inr e ↦ e.0 (one_night table nights other night one.num p.register.leads (subst (λ (list : List ℕ). Contains list one.num) (p.replaced.others other e.0) number) gone.0)
      ]

  none_came : (other : ℤ) (one : NumberedTracklet) → StandsIn (with_numbers nights old) other one → ¬ (Contains came one.num)
  none_came other one s =
      let w = of_stands nights old other one s in
      old_is_not_new other one.num (has_both (numbers_of nights other) w.0.tracklets one w.3).0

  are_exchanged : AreExchanged went came (with_numbers nights old) (with_numbers now new)
  are_exchanged = record { there = record { stay = stay; none = none_went }; back = record { stay = back; none = none_came } }

pub exchanged : (nights now : List NightNumbers) (table : List Place) (taken marks : List Bool) (night : ℤ) (before after : NightTracklets) (went came : List ℕ) → IsRegister nights table taken
    → IsReplaced (record { nights = nights; taken = taken }) (record { nights = now; taken = marks }) night before after went came
    → (old new : List NightData) → DifferAt night before after old new → AreExchanged went came (with_numbers nights old) (with_numbers now new)
exchanged nights now table taken marks night before after went came register replaced old new differ =
    are_exchanged nights now table taken marks night before after went came old new (record { register = register; replaced = replaced; differ = differ })

-- ---- nights that go whole
pub cut : (table : List Place) (register : List NightNumbers) (first : ℤ) (went : List ℕ) → LeadsToPlaces table register → ((number : ℕ) → Contains went number ↔ IsBefore register first number)
    → (old new : List NightData) → IsCutBefore first old new → AreExchanged went [] (with_numbers register old) (with_numbers register new)
cut table register first went leads before old new differ = record {
  there = record {
    stay = λ night one s stays.
        let w = of_stands register old night one s in
        let number : Contains (numbers_of register night) one.num = (has_both (numbers_of register night) w.0.tracklets one w.3).0 in
        let late : ¬ (w.0.number <ℤ first) = λ l. stays ((before one.num).1 (night, subst (λ n. n <ℤ first) w.2 l, number)) in
        stands register new night one w.0 (differ.stay w.0 late w.1) w.2 w.3;
    none = λ night one s gone.
        let w = of_stands register new night one s in
        let number : Contains (numbers_of register night) one.num = (has_both (numbers_of register night) w.0.tracklets one w.3).0 in
        let v = (before one.num).0 gone in
        let same : v.0 ≡ w.0.number = one_night table register v.0 night one.num leads v.2 number ∙ sym w.2 in
        differ.late w.0 w.1 (subst (λ n. n <ℤ first) same v.1);
  };
  back = record {
    stay = λ night one s never. (let w = of_stands register new night one s in stands register old night one w.0 (differ.stood w.0 w.1) w.2 w.3);
    none = λ night one s. in_none one.num;
  };
}

-- once the nights before one are forgotten, no tracklet has one of their numbers
pub none_left : (before after : List NightNumbers) (first : ℤ) (went : List ℕ) → ((night : ℤ) (number : ℕ) → ¬ (night <ℤ first) → Contains went number → ¬ (Contains (numbers_of before night) number))
    → ((night : ℤ) → night <ℤ first → numbers_of after night ≡ []) → ((night : ℤ) → ¬ (night <ℤ first) → numbers_of after night ≡ numbers_of before night)
    → (night : ℤ) (number : ℕ) → Contains went number → ¬ (Contains (numbers_of after night) number)
none_left before after first went apart gone kept night number d c = by_lt_z night first
    (λ l. in_none number (subst (λ (list : List ℕ). Contains list number) (gone night l) c))
    (λ n.
    let late : ¬ (night <ℤ first) = λ l. omega (arith, ints, n, l) in
    apart night number late d (subst (λ (list : List ℕ). Contains list number) (kept night late) c))

-- ---- a night that goes
pub without : (table : List Place) (register : List NightNumbers) (number : ℤ) (went : List ℕ) → LeadsToPlaces table register → ((n : ℕ) → Contains went n ↔ Contains (numbers_of register number) n)
    → (old new : List NightData) → IsWithout number old new → AreExchanged went [] (with_numbers register old) (with_numbers register new)
without table register number went leads own old new differ = record {
  there = record {
    stay = λ night one s stays.
        let w = of_stands register old night one s in
        let here : Contains (numbers_of register night) one.num = (has_both (numbers_of register night) w.0.tracklets one w.3).0 in
        let other : ¬ (w.0.number ≡ number) = λ e. stays ((own one.num).1 (subst (λ n. Contains (numbers_of register n) one.num) (sym w.2 ∙ e) here)) in
        stands register new night one w.0 (differ.stay w.0 other w.1) w.2 w.3;
    none = λ night one s gone.
        let w = of_stands register new night one s in
        let here : Contains (numbers_of register night) one.num = (has_both (numbers_of register night) w.0.tracklets one w.3).0 in
        differ.other w.0 w.1 (w.2 ∙ one_night table register night number one.num leads here ((own one.num).0 gone));
  };
  back = record {
    stay = λ night one s never. (let w = of_stands register new night one s in stands register old night one w.0 (differ.stood w.0 w.1) w.2 w.3);
    none = λ night one s. in_none one.num;
  };
}

-- once a night is forgotten, no tracklet has one of its numbers
pub none_of_it : (before after : List NightNumbers) (number : ℤ) (went : List ℕ) → ((night : ℤ) (n : ℕ) → ¬ (night ≡ number) → Contains went n → ¬ (Contains (numbers_of before night) n))
    → numbers_of after number ≡ [] → ((night : ℤ) → ¬ (night ≡ number) → numbers_of after night ≡ numbers_of before night)
    → (night : ℤ) (n : ℕ) → Contains went n → ¬ (Contains (numbers_of after night) n)
none_of_it before after number went apart gone kept night n d c = elim (same_night night number) [
  | inl w ↦ in_none n (subst (λ (list : List ℕ). Contains list n) (ap (numbers_of after) w.0 ∙ gone) c)
  | inr w ↦ apart night n w.0 d (subst (λ (list : List ℕ). Contains list n) (kept night w.0) c)
]
