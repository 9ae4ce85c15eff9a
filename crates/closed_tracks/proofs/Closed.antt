-- The closed sets of numbered tracklets: their tracklets are read by number, and are candidates.
use Rattle.std.proofs.Common.{◌≡◌, ℕ, ◌+◌, ◌<◌, ◌≤◌, ◌<ℤ◌, Less, Greater, List, [], ◌∷◌, length, map, get_or, refl, sym, subst, ap, ◌∙◌, ◌↔◌, arith}
use Rattle.std.proofs.lemmas.Cmp.{nat_list_cmp_total}
use Rattle.std.proofs.lemmas.List.{get_or-map, length-map}
use Rattle.std.proofs.lemmas.List.Elements.{Contains-get_or}
use Rattle.std.proofs.lemmas.List.FromFn.{get_or-range_with_len, length-range_with_len}
use Rattle.std.proofs.lemmas.Map.Keys.{Less-from_sorted}
use Rattle.std.proofs.lemmas.Option.{get_or_from_slice_get, slice_get_within}
use Rattle.std.specs.Cmp.Lexicographic.{slice_cmp}
use Rattle.std.specs.List.{All, Contains, range_with_len}
use Rattle.std.specs.Ordering.{nat_cmp, ordering_reverse}
use mathlib.Core.Logic.{inl, inr}
use Rattle.closed_sets.specs.Families.{IsSet}
use Rattle.night_tree.specs.Nights.{NightData, tracklets_of_each}
use Rattle.sky_math.specs.Lists.{EachTwo}
use Rattle.sky_units.specs.SettingsData.{SettingsData}
use Rattle.sky_units.specs.TrackletData.{TrackletData, TrackSetData, spots_of}
use Rattle.sky_units.specs.Tracks.{AreAmong, AreNights, IsChoice, IsMaximalTrack}
use Rattle.set_grow.proofs.Choices.{rising_of_choice}
use Rattle.set_grow.proofs.Chosen.{chosen_in, plain_choice}
use Rattle.set_grow.proofs.MaximalTracks.{same_spots_same_set}
use Rattle.set_grow.proofs.Members.{among, each_among, each_two_cons, front_or_rest, in_front, in_mapped, in_none, in_rest, of_mapped}
use Rattle.set_grow.proofs.NightParts.{numbers_are}
use Rattle.set_grow.proofs.NumberSets.{IsBelow, is_rising, same_set}
use Rattle.set_grow.specs.Fitting.{FitsByNumber, HasClosedSets}
use Rattle.set_grow.specs.Growing.{AreClosedSetsWithOne, HoldsOne}
use Rattle.set_grow.specs.Laws.{AreTracksOf, IsInNone, MaximalTracksAreClosed}
use Rattle.set_grow.specs.Nights.{by_night, numbered_by}
use Rattle.set_grow.specs.Numbered.{AreNumbered, AreTrackletsOf, IsNumberedChoice, IsNumberedIn, NumberedTracklet, NumberedTracklets, numbers_in, tracklets_in, without_numbers}
use Rattle.closed_tracks.specs.Candidates.{AreCandidates}
use Rattle.closed_tracks.specs.InOneList.{AreOfSet, all_tracklets, numbered_from, tracklets_numbered}
use Rattle.closed_tracks.proofs.Standing.{AreDistinct, all_distinct, are_numbered, at_number, in_place, plain}

-- the nights, and their tracklets with the numbers from 0
abbrev numbered_nights : List NightData → List NumberedTracklets
numbered_nights nights = by_night (numbered_from 0 nights)

number_within : (nights : List NightData) (one : NumberedTracklet) → IsNumberedIn (numbered_nights nights) one → one.num < length (all_tracklets nights)
number_within nights one i = slice_get_within (all_tracklets nights) one.num one.tracklet (at_number nights one i)

-- ---- the numbers of a choice rise
record IsFrom (first : ℕ) (numbers : List ℕ) : Type 0 where
  rising : EachTwo IsBelow numbers
  from : (number : ℕ) → Contains numbers number → first ≤ number

in_range : (first count number : ℕ) → Contains (range_with_len first count) number → (first ≤ number) × (number < first + count)
in_range first count number c =
    let l : c.0 < length (range_with_len first count) = c.1 in
    let size : length (range_with_len first count) ≡ count = length-range_with_len first count in
    let within : c.0 < count = omega (arith, l, size) in
    let is : first + c.0 ≡ number = sym (get_or-range_with_len first count c.0 number within) ∙ c.2 in
    (omega (arith, is), omega (arith, is, within))

first_night : (first : ℕ) (night : NightData) (one : NumberedTracklet) → Contains (numbered_by (range_with_len first (length night.tracklets)) night.tracklets) one → (first ≤ one.num) × (one.num < first + length night.tracklets)
first_night first night one c =
    let size : length (range_with_len first (length night.tracklets)) ≡ length night.tracklets = length-range_with_len first (length night.tracklets) in
    let there : Contains (numbers_in (numbered_by (range_with_len first (length night.tracklets)) night.tracklets)) one.num = in_mapped (λ (one : NumberedTracklet). one.num) (numbered_by (range_with_len first (length night.tracklets)) night.tracklets) one c in
    in_range first (length night.tracklets) one.num (subst (λ ns. Contains ns one.num) (numbers_are (range_with_len first (length night.tracklets)) night.tracklets size) there)

rising_choice : (first : ℕ) (nights : List NightData) (chosen : NumberedTracklets) → IsNumberedChoice (by_night (numbered_from first nights)) chosen → IsFrom first (numbers_in chosen)
rising_choice first [] chosen e = subst (λ list. IsFrom first (numbers_in list)) (sym e) (record { rising = λ i j d ij jl. absurd (omega arith); from = λ number c. absurd (in_none number c) })
rising_choice first (night ∷ nights) chosen (inl c) =
    let rest : IsFrom (first + length night.tracklets) (numbers_in chosen) = rising_choice (first + length night.tracklets) nights chosen c in
    record {
      rising = rest.rising;
      from = λ number k. (let after : first + length night.tracklets ≤ number = rest.from number k in omega (arith, after));
    }
rising_choice first (night ∷ nights) chosen (inr w) =
    let rest : IsFrom (first + length night.tracklets) (numbers_in w.1) = rising_choice (first + length night.tracklets) nights w.1 w.4 in
    let own = first_night first night w.0 w.2 in
    let below : w.0.num < first + length night.tracklets = own.1 in
    let least : first ≤ w.0.num = own.0 in
    subst (λ list. IsFrom first (numbers_in list)) (sym w.3) (record {
      rising = each_two_cons IsBelow w.0.num (numbers_in w.1) (λ k d l.
          let after : first + length night.tracklets ≤ get_or (numbers_in w.1) k d = rest.from (get_or (numbers_in w.1) k d) (Contains-get_or (numbers_in w.1) k d l) in
          omega (arith, below, after)) rest.rising;
      from = λ number k. elim (front_or_rest w.0.num (numbers_in w.1) number k) [
        | inl e ↦ omega (arith, least, e)
        | inr later ↦ (let after : first + length night.tracklets ≤ number = rest.from number later in omega (arith, after))
      ];
    })

-- ---- the tracklets of a set of numbers stand at these numbers
read_by_number : (tracklets : List TrackletData) (chosen : NumberedTracklets) → ((one : NumberedTracklet) → Contains chosen one → get_or tracklets one.num [] ≡ one.tracklet) → without_numbers chosen ≡ tracklets_numbered tracklets (numbers_in chosen)
read_by_number tracklets [] h = refl
read_by_number tracklets (one ∷ chosen) h =
    ap (λ (t : TrackletData). t ∷ without_numbers chosen) (sym (h one (in_front one chosen)))
    ∙ ap (λ (ts : TrackSetData). get_or tracklets one.num [] ∷ ts) (read_by_number tracklets chosen (λ other c. h other (in_rest one chosen other c)))

tracklets_are_read : (nights : List NightData) (set : List ℕ) (track : TrackSetData) → IsSet set → AreTrackletsOf (numbered_nights nights) set track → track ≡ tracklets_numbered (all_tracklets nights) set
tracklets_are_read nights set track s t =
    let numbers : numbers_in t.chosen ≡ set = same_set (numbers_in t.chosen) set (is_rising (numbers_in t.chosen) (rising_choice 0 nights t.chosen t.choice).rising) s t.wanted t.found in
    t.are ∙ (read_by_number (all_tracklets nights) t.chosen (λ one c.
    let i : IsNumberedIn (numbered_nights nights) one = chosen_in (numbered_nights nights) t.chosen one t.choice c in
    get_or_from_slice_get (all_tracklets nights) one.num one.tracklet [] (at_number nights one i))
    ∙ ap (tracklets_numbered (all_tracklets nights)) numbers)

numbers_within : (nights : List NightData) (set : List ℕ) (track : TrackSetData) → AreTrackletsOf (numbered_nights nights) set track → (number : ℕ) → Contains set number → number < length (all_tracklets nights)
numbers_within nights set track t number c =
    let one = of_mapped (λ (one : NumberedTracklet). one.num) t.chosen number (among set (numbers_in t.chosen) number t.found c) in
    let l : one.0.num < length (all_tracklets nights) = number_within nights one.0 (chosen_in (numbered_nights nights) t.chosen one.0 t.choice one.1) in
    subst (λ n. n < length (all_tracklets nights)) one.2 l

-- ---- nothing stands twice in a rising list
never_below_itself : (n : List ℕ) → slice_cmp nat_cmp n n ≡ Less → ⊥
never_below_itself n p =
    let flipped : slice_cmp nat_cmp n n ≡ ordering_reverse (slice_cmp nat_cmp n n) = nat_list_cmp_total.antisymm n n in
    let greater : slice_cmp nat_cmp n n ≡ Greater = flipped ∙ ap ordering_reverse p in
    let clash : Less ≡ Greater = sym p ∙ greater in
    cc

-- ---- what was grown around all numbers
module _ (settings : SettingsData) (nights : List NightData) (sets : List (List ℕ)) (follow : AreNights (tracklets_of_each nights)) (rise : EachTwo (λ (one later : NightData). one.number <ℤ later.number) nights) (different : All AreDistinct (tracklets_of_each nights)) (grown : AreClosedSetsWithOne settings (by_night (numbered_from 0 nights)) (range_with_len 0 (length (all_tracklets nights))) sets) where
  in_time : AreNights (tracklets_in (numbered_nights nights))
  in_time = (in_place nights follow rise).in_time

  numbered : AreNumbered (numbered_nights nights)
  numbered = are_numbered nights (in_place nights follow rise) (all_distinct nights follow different)

  -- a set of three or more holds one of all numbers
  holds_one : (set : List ℕ) → FitsByNumber settings (numbered_nights nights) set → 3 ≤ length set → HoldsOne (range_with_len 0 (length (all_tracklets nights))) set
  holds_one [] f three = absurd (omega (arith, three))
  holds_one (number ∷ set) f three =
      let count : ℕ = length (all_tracklets nights) in
      let l : number < length (all_tracklets nights) = numbers_within nights (number ∷ set) f.tracklets f.are number (in_front number set) in
      let size : length (range_with_len 0 (length (all_tracklets nights))) ≡ length (all_tracklets nights) = length-range_with_len 0 count in
      let is : get_or (range_with_len 0 (length (all_tracklets nights))) number number ≡ number = get_or-range_with_len 0 count number number l ∙ omega arith in
      (number, (number, omega (arith, l, size), is), in_front number set)

  has_closed_sets : HasClosedSets settings (numbered_nights nights) sets
  has_closed_sets set = (
    λ c. (let w = (grown.exactly set).0 c in (w.0, w.2)),
    λ w. (grown.exactly set).1 (w.0, holds_one set w.0.fits w.1, w.1),
  )

  fits_there : (set : List ℕ) → Contains sets set → FitsByNumber settings (numbered_nights nights) set
  fits_there set c = ((has_closed_sets set).0 c).0.fits

  tracklets_there : (set : List ℕ) → Contains sets set → AreTrackletsOf (numbered_nights nights) set (tracklets_numbered (all_tracklets nights) set)
  tracklets_there set c =
      let f : FitsByNumber settings (numbered_nights nights) set = fits_there set c in
      subst (AreTrackletsOf (numbered_nights nights) set) (tracklets_are_read nights set f.tracklets f.is_set f.are) f.are

  choice_there : (set : List ℕ) → Contains sets set → IsChoice (tracklets_in (numbered_nights nights)) (tracklets_numbered (all_tracklets nights) set)
  choice_there set c =
      let t : AreTrackletsOf (numbered_nights nights) set (tracklets_numbered (all_tracklets nights) set) = tracklets_there set c in
      subst (IsChoice (tracklets_in (numbered_nights nights))) (sym t.are) (plain_choice (numbered_nights nights) t.chosen t.choice)

  pub of_sets : All (AreOfSet (all_tracklets nights)) sets
  of_sets = λ k d l.
      let set : List ℕ = get_or sets k d in
      let c : Contains sets (get_or sets k d) = Contains-get_or sets k d l in
      let t : AreTrackletsOf (numbered_nights nights) (get_or sets k d) (tracklets_numbered (all_tracklets nights) (get_or sets k d)) = tracklets_there set c in
      record {
        within = λ i e m. numbers_within nights set (tracklets_numbered (all_tracklets nights) set) t (get_or set i e) (Contains-get_or set i e m);
        set = record { rising = rising_of_choice (tracklets_in (numbered_nights nights)) (tracklets_numbered (all_tracklets nights) set) in_time (choice_there set c) };
      }

  tracks_there : AreTracksOf (numbered_nights nights) sets (map (tracklets_numbered (all_tracklets nights)) sets)
  tracks_there = record {
    each = λ set c. (tracklets_numbered (all_tracklets nights) set, in_mapped (tracklets_numbered (all_tracklets nights)) sets set c, tracklets_there set c);
    only = λ track c.
        let w = of_mapped (tracklets_numbered (all_tracklets nights)) sets track c in
        (w.0, w.1, subst (AreTrackletsOf (numbered_nights nights) w.0) w.2 (tracklets_there w.0 w.1));
  }

  once : EachTwo (λ one other. one ≡ other → ⊥) (map (tracklets_numbered (all_tracklets nights)) sets)
  once i j d ij jl e =
      let track : List ℕ → TrackSetData = tracklets_numbered (all_tracklets nights) in
      let size : length (map (tracklets_numbered (all_tracklets nights)) sets) ≡ length sets = length-map sets track in
      let l : j < length sets = omega (arith, jl, size) in
      let m : i < length sets = omega (arith, ij, l) in
      let one : List ℕ = get_or sets i [] in
      let other : List ℕ = get_or sets j [] in
      let same : tracklets_numbered (all_tracklets nights) (get_or sets i []) ≡ tracklets_numbered (all_tracklets nights) (get_or sets j []) = sym (get_or-map track sets i [] d m) ∙ (e ∙ get_or-map track sets j [] d l) in
      let c : Contains sets (get_or sets i []) = Contains-get_or sets i [] m in
      let c' : Contains sets (get_or sets j []) = Contains-get_or sets j [] l in
      let whole : AreAmong (spots_of (tracklets_numbered (all_tracklets nights) (get_or sets j []))) (spots_of (tracklets_numbered (all_tracklets nights) (get_or sets j []))) = each_among (spots_of (track other)) (spots_of (track other)) (λ x k. k) in
      let there : AreAmong (spots_of (tracklets_numbered (all_tracklets nights) (get_or sets i []))) (spots_of (tracklets_numbered (all_tracklets nights) (get_or sets j []))) = subst (λ t. AreAmong (spots_of t) (spots_of (track other))) (sym same) whole in
      let back : AreAmong (spots_of (tracklets_numbered (all_tracklets nights) (get_or sets j []))) (spots_of (tracklets_numbered (all_tracklets nights) (get_or sets i []))) = subst (λ t. AreAmong (spots_of (track other)) (spots_of t)) (sym same) whole in
      let is : get_or sets i [] ≡ get_or sets j [] = same_spots_same_set (numbered_nights nights) one other (track one) (track other) in_time numbered (fits_there one c).is_set (fits_there other c').is_set (tracklets_there one c) (tracklets_there other c') there back in
      let below : slice_cmp nat_cmp (get_or sets i []) (get_or sets j []) ≡ Less = Less-from_sorted (slice_cmp nat_cmp) sets i j [] grown.in_order ij l in
      never_below_itself other (subst (λ s. slice_cmp nat_cmp s (get_or sets j []) ≡ Less) is below)

  pub candidates : MaximalTracksAreClosed → AreCandidates settings (tracklets_of_each nights) (map (tracklets_numbered (all_tracklets nights)) sets)
  candidates law = record {
    choices = λ track c.
        let w = of_mapped (tracklets_numbered (all_tracklets nights)) sets track c in
        let choice : IsChoice (tracklets_in (numbered_nights nights)) track = subst (IsChoice (tracklets_in (numbered_nights nights))) w.2 (choice_there w.0 w.1) in
        subst (λ ns. IsChoice ns track) (plain 0 nights) choice;
    once = once;
    maximal = λ track. subst (λ ns. IsMaximalTrack settings ns track ↔ (Contains (map (tracklets_numbered (all_tracklets nights)) sets) track × IsInNone (map (tracklets_numbered (all_tracklets nights)) sets) track)) (plain 0 nights)
        (law settings (numbered_nights nights) sets (map (tracklets_numbered (all_tracklets nights)) sets) in_time numbered has_closed_sets tracks_there track);
  }
