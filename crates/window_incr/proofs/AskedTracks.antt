-- Spots of a track are those of a listed track, or properly contained in those of one.
use Rattle.std.proofs.Common.{◌≡◌, ◌==◌, ℕ, zero, suc, ◌+◌, ◌++◌, ◌<◌, ◌≤◌, length-append, pos, ◌<ℤ◌, Bool, true, false, not, ◌&&◌, Option, Some, None, List, [], ◌∷◌, map, length, get_or, refl, sym, ap, ap₂, ◌∙◌, subst, ◌↔◌, arith}
use Rattle.std.specs.Prelude.{nat_eq, slice_index_or}
use Rattle.std.specs.Cmp.Lexicographic.{pointwise, bytes_decides}
use Rattle.std.specs.List.{All, Contains, list_all, list_any, sum_by}
use Rattle.std.specs.Option.{option_map}
use Rattle.std.proofs.lemmas.Bool.{cases_Bool, cases_lt, eqb-true, false≢true}
use Rattle.std.proofs.lemmas.Int.{ints}
use Rattle.std.proofs.lemmas.List.{length-map, get_or-map, get_or_default}
use Rattle.std.proofs.lemmas.List.Elements.{All-cons, All-head, All-tail, All-contains, All-nil, Contains-get_or}
use Rattle.std.proofs.lemmas.List.Sums.{sum_by-cons}
use mathlib.Core.Logic.{◌⊎◌, inl, inr}
use Rattle.sky_units.specs.SettingsData.{SettingsData}
use Rattle.sky_units.specs.SpotData.{SpotData}
use Rattle.sky_units.specs.TrackletData.{TrackletData, TrackSetData, NightTracklets, spots_of}
use Rattle.sky_units.specs.Tracks.{AreAmong, AreNights, IsChoice, IsMaximalTrack, IsTrack, numbers_of}
use Rattle.plain_tracks.specs.Numbers.{AreDifferent}
use Rattle.plain_tracks.proofs.Choices.{among_numbers, among_spots, held_of_choice, rising_of_choice}
use Rattle.plain_tracks.proofs.Crowded.{crowded}
use Rattle.plain_tracks.proofs.Entries.{in_front, in_rest, front_or_rest}
use Rattle.plain_tracks.proofs.Members.{IsDecided, all_or_not, contains_or_not}
use Rattle.plain_tracks.proofs.Steps.{in_none}
use Rattle.window_incr.specs.Asked.{are_among, first_place, has_number, is_part, number_around, number_of_track}
use Rattle.window_incr.proofs.FirstPlaces.{never_passes}

-- ---- numbers among others, as a test
has_of : (xs : List ℕ) (n : ℕ) → has_number xs n ≡ true → Contains xs n
has_of [] n t = absurd (false≢true t)
has_of (x ∷ xs) n t = elim (cases_Bool (x == n)) [
  | inl y ↦ subst (Contains (x ∷ xs)) (eqb-true x n y) (in_front x xs)
  | inr f ↦ in_rest x xs n (has_of xs n (rw f at t))
]

of_has : (xs : List ℕ) (n : ℕ) → Contains xs n → has_number xs n ≡ true
of_has [] n c = absurd (in_none n c)
of_has (x ∷ xs) n c = elim (cases_Bool (x == n)) [
  | inl y ↦ rw y refl
  | inr f ↦ elim (front_or_rest x xs n c) [
    | inl e ↦ absurd (false≢true (sym f ∙ rw e (itself n)))
    | inr d ↦ rw f (of_has xs n d)
  ]
]
  where
    itself : (n : ℕ) → (n == n) ≡ true
    itself n = grind (arith)

among_of : (xs ys : List ℕ) → are_among xs ys ≡ true → AreAmong xs ys
among_of [] ys t = All-nil (Contains ys)
among_of (x ∷ xs) ys t = elim (cases_Bool (has_number ys x)) [
  | inl y ↦ All-cons (Contains ys) x xs (has_of ys x y) (among_of xs ys (rw y at t))
  | inr f ↦ absurd (false≢true (rw f at t))
]

of_among : (xs ys : List ℕ) → AreAmong xs ys → are_among xs ys ≡ true
of_among [] ys h = refl
of_among (x ∷ xs) ys h = rw (of_has ys x (All-head (Contains ys) x xs h)) (of_among xs ys (All-tail (Contains ys) x xs h))

-- a list that isn't part of another has all numbers of it, where its own are among those
not_part : (xs ys : List ℕ) → is_part xs ys ≡ false → AreAmong xs ys → AreAmong ys xs
not_part xs ys f h = elim (cases_Bool (are_among ys xs)) [
  | inl t ↦ among_of ys xs t
  | inr g ↦ absurd (false≢true (sym f ∙ rw (of_among xs ys h, g) refl))
]

among_then : (xs ys zs : List ℕ) → AreAmong xs ys → AreAmong ys zs → AreAmong xs zs
among_then xs ys zs h k = λ i d l. All-contains (Contains zs) ys (get_or xs i d) k (h i d l)

among_or_not : (one other : List ℕ) → IsDecided (AreAmong one other)
among_or_not one other = elim (cases_Bool (are_among one other)) [
  | inl t ↦ inl (among_of one other t)
  | inr f ↦ inr (λ h. false≢true (sym f ∙ of_among one other h))
]

-- ---- no choice has more spots than all nights
long_enough : (night : NightTracklets) (t : TrackletData) → Contains night t → length t ≤ sum_by length night
long_enough [] t c = absurd (in_none t c)
long_enough (x ∷ night) t c = elim (front_or_rest x night t c) [
  | inl e ↦ omega (arith, ap length e, sum_by-cons length x night)
  | inr d ↦ (let rest = long_enough night t d in omega (arith, rest, sum_by-cons length x night))
]

abbrev most : List NightTracklets → ℕ
most [] = 0
most (night ∷ nights) = sum_by length night + most nights

few_spots : (nights : List NightTracklets) (set : TrackSetData) → IsChoice nights set → length (numbers_of set) ≤ most nights
few_spots nights set c = let bound = few nights set c in omega (arith, bound, length-map (spots_of set) (λ (s : SpotData). s.num))
  where
    few : (nights : List NightTracklets) (set : TrackSetData) → IsChoice nights set → length (spots_of set) ≤ most nights
    few [] set e = omega (arith, ap (λ s. length (spots_of s)) e)
    few (night ∷ nights) set (inl c) =
        let rest = few nights set c in
        let all : most (night ∷ nights) ≡ sum_by length night + most nights = refl in
        omega (arith, rest, all)
    few (night ∷ nights) set (inr w) =
        let rest = few nights w.1 w.4 in
        let all : most (night ∷ nights) ≡ sum_by length night + most nights = refl in
        let here = long_enough night w.0 w.2 in
        omega (arith, rest, here, all, ap (λ s. length (spots_of s)) w.3, length-append w.0 (spots_of w.1))

-- ---- the spots of a choice have different numbers, since their epochs differ
different_numbers : (nights : List NightTracklets) (set : TrackSetData) → AreNights nights → IsChoice nights set → AreDifferent (numbers_of set)
different_numbers nights set a c = λ i j d ij jl e.
    let some : SpotData = record { num = 0; epoch = pos 0; ra = pos 0; dec = pos 0 } in
    let l : j < length (spots_of set) = simp length-map at jl in
    let k : i < length (spots_of set) = omega arith in
    let one : get_or (numbers_of set) i d ≡ (get_or (spots_of set) i some).num = get_or-map (λ (s : SpotData). s.num) (spots_of set) i some d k in
    let other : get_or (numbers_of set) j d ≡ (get_or (spots_of set) j some).num = get_or-map (λ (s : SpotData). s.num) (spots_of set) j some d l in
    let same : get_or (spots_of set) i some ≡ get_or (spots_of set) j some = a.numbered (get_or (spots_of set) i some) (get_or (spots_of set) j some)
    (held_of_choice nights set c (get_or (spots_of set) i some) (Contains-get_or (spots_of set) i some k))
    (held_of_choice nights set c (get_or (spots_of set) j some) (Contains-get_or (spots_of set) j some l))
    (sym one ∙ (e ∙ other)) in
    let before : (get_or (spots_of set) i some).epoch <ℤ (get_or (spots_of set) j some).epoch = rising_of_choice nights set a c i j some ij l in
    let itself : (get_or (spots_of set) j some).epoch <ℤ (get_or (spots_of set) j some).epoch = subst (λ (s : SpotData). s.epoch <ℤ (get_or (spots_of set) j some).epoch) same before in
    omega (arith, ints, itself)

-- ---- a track that is properly contained in no listed one is listed
module _ (settings : SettingsData) (nights : List NightTracklets) (list : List TrackSetData) (asked : TrackSetData) (follow : AreNights nights)
    (listed : (set : TrackSetData) → Contains list set ↔ IsMaximalTrack settings nights set) (track : IsTrack settings nights asked)
    (none : (set : TrackSetData) → Contains list set → is_part (numbers_of asked) (numbers_of set) ≡ false) where
  -- spots of tracks are among others where their numbers are
  by_numbers : (one other : TrackSetData) → IsTrack settings nights one → IsTrack settings nights other → AreAmong (numbers_of one) (numbers_of other) → AreAmong (spots_of one) (spots_of other)
  by_numbers one other a b h =
      among_spots (spots_of one) (spots_of other) (λ x y p q. follow.numbered x y (held_of_choice nights one a.fitting.choice x p) (held_of_choice nights other b.fitting.choice y q)) h

  -- every track with the asked numbers has only these
  abbrev HoldsOnly : TrackSetData → Type 0
  HoldsOnly other = AreAmong (numbers_of asked) (numbers_of other) → AreAmong (numbers_of other) (numbers_of asked)

  larger_within : (other larger : TrackSetData) → IsTrack settings nights other → (length (numbers_of other) < length (numbers_of larger) → HoldsOnly larger)
      → AreAmong (numbers_of asked) (numbers_of other) → AreAmong (numbers_of other) (numbers_of larger) → ¬ AreAmong (numbers_of other) (numbers_of asked) → AreAmong (numbers_of larger) (numbers_of other)
  larger_within other larger t rest h forth never = elim (cases_lt (length (numbers_of other)) (length (numbers_of larger))) [
    | inl more ↦
        let all = rest more (among_then (numbers_of asked) (numbers_of other) (numbers_of larger) h forth) in
        absurd (never (among_then (numbers_of other) (numbers_of larger) (numbers_of asked) forth all))
    | inr less ↦ crowded (numbers_of other) (numbers_of larger) (different_numbers nights other follow t.fitting.choice) (omega (arith, less)) forth
  ]

  within : (fuel : ℕ) (other : TrackSetData) → IsTrack settings nights other → most nights < length (numbers_of other) + fuel → HoldsOnly other
  within zero other t bound h = absurd (let few = few_spots nights other t.fitting.choice in omega (arith, few, bound))
  within (suc fuel) other t bound h = elim (among_or_not (numbers_of other) (numbers_of asked)) [
    | inl d ↦ d
    | inr never ↦
        let maximal : IsMaximalTrack settings nights other = record {
          track = t;
          maximal = λ larger u among.
              let forth = among_numbers (spots_of other) (spots_of larger) among in
              by_numbers larger other u t (larger_within other larger t (λ more. within fuel larger u (omega (arith, bound, more))) h forth never);
        } in
        absurd (never (not_part (numbers_of asked) (numbers_of other) (none other ((listed other).1 maximal)) h))
  ]

  is_listed : Contains list asked
  is_listed = (listed asked).1 (record {
    track = track;
    maximal = λ other t among.
        let forth = among_numbers (spots_of asked) (spots_of other) among in
        by_numbers other asked t track (within (suc (most nights)) other t (omega arith) forth);
  })

-- ---- so one of the two searches finds a track
none_mapped : (o : Option ℕ) → option_map (λ (place : ℕ). place + 1) o ≡ None → o ≡ None
none_mapped None e = refl
none_mapped (Some n) e = cc

at_place : (list : List TrackSetData) (k : ℕ) (set : TrackSetData) → k < length list → get_or list k set ≡ set → slice_index_or list k [] ≡ set
at_place list k set l e = get_or_default list k [] set l ∙ e

pub covered : (settings : SettingsData) (nights : List NightTracklets) (list : List TrackSetData) (asked : TrackSetData) → AreNights nights
    → ((set : TrackSetData) → Contains list set ↔ IsMaximalTrack settings nights set) → IsTrack settings nights asked
    → number_of_track list (numbers_of asked) ≡ None → number_around list (numbers_of asked) ≡ None → ⊥
covered settings nights list asked follow listed track same around =
    let none : (set : TrackSetData) → Contains list set → is_part (numbers_of asked) (numbers_of set) ≡ false = λ set c.
    elim (cases_Bool (is_part (numbers_of asked) (numbers_of set))) as (λ _. is_part (numbers_of asked) (numbers_of set) ≡ false) [
      | inl t ↦ absurd (never_passes (λ place. is_part (numbers_of asked) (numbers_of (slice_index_or list place []))) (length list) c.0 (none_mapped _ around) c.1
          (ap (λ (s : TrackSetData). is_part (numbers_of asked) (numbers_of s)) (at_place list c.0 set c.1 c.2) ∙ t))
      | inr f ↦ f
    ] in
    let c = is_listed settings nights list asked follow listed track none in
    never_passes (λ place. pointwise nat_eq (numbers_of (slice_index_or list place [])) (numbers_of asked)) (length list) c.0 (none_mapped _ same) c.1
    ((bytes_decides (numbers_of (slice_index_or list c.0 [])) (numbers_of asked)).1 (ap numbers_of (at_place list c.0 asked c.1 c.2)))
