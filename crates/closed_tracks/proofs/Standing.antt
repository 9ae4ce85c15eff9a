-- Tracklets numbered by their places in one list: where each stands, and what its number tells.
use Rattle.std.proofs.Common.{◌≡◌, ℕ, ℤ, ◌+◌, ◌<◌, ◌<ℤ◌, Some, List, [], ◌∷◌, ◌++◌, length, length-append, map, get_or, refl, sym, subst, ap, ◌∙◌, arith}
use Rattle.std.proofs.lemmas.Bool.{cases_order}
use Rattle.std.proofs.lemmas.Int.{ints}
use Rattle.std.proofs.lemmas.List.{get_or_append_left, get_or-append-add}
use Rattle.std.proofs.lemmas.List.Elements.{All-nil, All-cons, All-head, All-tail, Contains-append_cases, Contains-get_or}
use Rattle.std.proofs.lemmas.List.FromFn.{get_or-map-range_with_len, get_or-range_with_len, length-map-range_with_len, length-range_with_len}
use Rattle.std.proofs.lemmas.Option.{get_or_from_slice_get, slice_get-get_or, slice_get-map, slice_get_within}
use Rattle.std.specs.List.{All, Contains, range_with_len, slice_get}
use Rattle.std.specs.Option.{option_map}
use mathlib.Core.Logic.{inl, inr}
use Rattle.night_tree.proofs.EachTwoOf.{each_two_append, each_two_cons, each_two_head, each_two_tail}
use Rattle.night_tree.specs.Nights.{NightData, tracklets_of_each}
use Rattle.sky_math.specs.Lists.{EachTwo}
use Rattle.sky_units.proofs.Members.{front_or_rest, in_front, in_none, in_rest, of_map}
use Rattle.sky_units.specs.TrackletData.{NightTracklets, TrackletData}
use Rattle.sky_units.specs.Tracks.{AreNights}
use Rattle.set_grow.proofs.Choices.{before_held, first_spot, nights_tail}
use Rattle.set_grow.proofs.NightParts.{numbers_are, tracklets_are}
use Rattle.set_grow.proofs.Seating.{at_place, numbers_tell}
use Rattle.set_grow.specs.Nights.{AreInPlace, NumberedNightData, by_night, numbered_by}
use Rattle.set_grow.specs.Numbered.{AreNumbered, IsNumberedIn, NumberedTracklet, NumberedTracklets, numbers_in, tracklets_in, without_numbers}
use Rattle.set_grow.specs.declared.places.Place.{Place}
use Rattle.closed_tracks.specs.InOneList.{all_places, all_tracklets, numbered_from, place_in}

-- no two elements are the same
abbrev pub AreDistinct : {X : Type 0} → List X → Type 0
AreDistinct = EachTwo (λ one other. one ≡ other → ⊥)

-- ---- what stands at a place of a list stands there with others behind it, and later with others in front
before_others : {X : Type 0} → (xs ys : List X) (i : ℕ) (x : X) → slice_get xs i ≡ Some x → slice_get (xs ++ ys) i ≡ Some x
before_others xs ys i x e =
    let l : i < length xs = slice_get_within xs i x e in
    let size : length (xs ++ ys) ≡ length xs + length ys = length-append xs ys in
    let there : get_or (xs ++ ys) i x ≡ x = get_or_append_left xs ys x i l ∙ get_or_from_slice_get xs i x x e in
    slice_get-get_or (xs ++ ys) i x (omega (arith, l, size)) ∙ ap (λ y. Some y) there

behind_others : {X : Type 0} → (xs ys : List X) (i : ℕ) (x : X) → slice_get ys i ≡ Some x → slice_get (xs ++ ys) (length xs + i) ≡ Some x
behind_others xs ys i x e =
    let l : i < length ys = slice_get_within ys i x e in
    let size : length (xs ++ ys) ≡ length xs + length ys = length-append xs ys in
    let there : get_or (xs ++ ys) (length xs + i) x ≡ x = get_or-append-add xs ys i x ∙ get_or_from_slice_get ys i x x e in
    slice_get-get_or (xs ++ ys) (length xs + i) x (omega (arith, l, size)) ∙ ap (λ y. Some y) there

-- ---- one night
record IsAt (first : ℕ) (tracklets : NightTracklets) (place : ℕ) (one : NumberedTracklet) : Type 0 where
  within : place < length tracklets
  num : one.num ≡ first + place
  there : slice_get tracklets place ≡ Some one.tracklet

is_at : (first : ℕ) (tracklets : NightTracklets) (place : ℕ) (one : NumberedTracklet) → slice_get (numbered_by (range_with_len first (length tracklets)) tracklets) place ≡ Some one → IsAt first tracklets place one
is_at first tracklets place one e =
    let list : NumberedTracklets = numbered_by (range_with_len first (length tracklets)) tracklets in
    let size : length (range_with_len first (length tracklets)) ≡ length tracklets = length-range_with_len first (length tracklets) in
    let num : slice_get (numbers_in (numbered_by (range_with_len first (length tracklets)) tracklets)) place ≡ Some one.num = slice_get-map (λ (one : NumberedTracklet). one.num) list place ∙ ap (λ o. option_map (λ (one : NumberedTracklet). one.num) o) e in
    let num' : slice_get (range_with_len first (length tracklets)) place ≡ Some one.num = subst (λ ns. slice_get ns place ≡ Some one.num) (numbers_are (range_with_len first (length tracklets)) tracklets size) num in
    let there : slice_get (without_numbers (numbered_by (range_with_len first (length tracklets)) tracklets)) place ≡ Some one.tracklet = slice_get-map (λ (one : NumberedTracklet). one.tracklet) list place ∙ ap (λ o. option_map (λ (one : NumberedTracklet). one.tracklet) o) e in
    let there' : slice_get tracklets place ≡ Some one.tracklet = subst (λ ts. slice_get ts place ≡ Some one.tracklet) (tracklets_are (range_with_len first (length tracklets)) tracklets size) there in
    let within : place < length tracklets = slice_get_within tracklets place one.tracklet there' in
    record {
      within = within;
      num = sym (get_or_from_slice_get (range_with_len first (length tracklets)) place one.num 0 num') ∙ get_or-range_with_len first (length tracklets) place 0 within;
      there = there';
    }

place_there : (night : ℤ) (count place : ℕ) → place < count → slice_get (map (place_in night) (range_with_len 0 count)) place ≡ Some (place_in night place)
place_there night count place l =
    let size : length (map (place_in night) (range_with_len 0 count)) ≡ count = length-map-range_with_len (place_in night) 0 count in
    slice_get-get_or (map (place_in night) (range_with_len 0 count)) place (place_in night place) (omega (arith, l, size))
    ∙ ap (λ p. Some p) (get_or-map-range_with_len (place_in night) 0 count place place (place_in night place) l (omega arith))

-- ---- all nights
-- a numbered tracklet stands at one index in the list of all tracklets and in that of their places
record StandsAt (first : ℕ) (nights : List NightData) (night : NumberedNightData) (place : ℕ) (one : NumberedTracklet) : Type 0 where
  index : ℕ
  num : one.num ≡ first + index
  there : slice_get (all_tracklets nights) index ≡ Some one.tracklet
  leads : slice_get (all_places nights) index ≡ Some (place_in night.number place)

stands_at : (first : ℕ) (nights : List NightData) (night : NumberedNightData) (place : ℕ) (one : NumberedTracklet) → Contains (numbered_from first nights) night → slice_get night.tracklets place ≡ Some one → StandsAt first nights night place one
stands_at first [] night place one c e = absurd (in_none night c)
stands_at first (here ∷ nights) night place one c e =
    let own : List Place = map (place_in here.number) (range_with_len 0 (length here.tracklets)) in
    let head : NumberedNightData = record { number = here.number; tracklets = numbered_by (range_with_len first (length here.tracklets)) here.tracklets } in
    elim (front_or_rest head (numbered_from (first + length here.tracklets) nights) night c) [
      | inl same ↦
          let it : IsAt first here.tracklets place one = is_at first here.tracklets place one (subst (λ (n : NumberedNightData). slice_get n.tracklets place ≡ Some one) (sym same) e) in
          let number : here.number ≡ night.number = ap (λ (n : NumberedNightData). n.number) same in
          record {
            index = place;
            num = it.num;
            there = before_others here.tracklets (all_tracklets nights) place one.tracklet it.there;
            leads = subst (λ n. slice_get (all_places (here ∷ nights)) place ≡ Some (place_in n place)) number (before_others own (all_places nights) place (place_in here.number place) (place_there here.number (length here.tracklets) place it.within));
          }
      | inr later ↦
          let rest : StandsAt (first + length here.tracklets) nights night place one = stands_at (first + length here.tracklets) nights night place one later e in
          let size : length own ≡ length here.tracklets = length-map-range_with_len (place_in here.number) 0 (length here.tracklets) in
          let num : one.num ≡ (first + length here.tracklets) + rest.index = rest.num in
          record {
            index = length here.tracklets + rest.index;
            num = omega (arith, num);
            there = behind_others here.tracklets (all_tracklets nights) rest.index one.tracklet rest.there;
            leads = subst (λ n. slice_get (all_places (here ∷ nights)) (n + rest.index) ≡ Some (place_in night.number place)) size (behind_others own (all_places nights) rest.index (place_in night.number place) rest.leads);
          }
    ]

-- without their numbers the nights are as they were
pub plain : (first : ℕ) (nights : List NightData) → tracklets_in (by_night (numbered_from first nights)) ≡ tracklets_of_each nights
plain first [] = refl
plain first (night ∷ nights) =
    let head : without_numbers (numbered_by (range_with_len first (length night.tracklets)) night.tracklets) ≡ night.tracklets = tracklets_are (range_with_len first (length night.tracklets)) night.tracklets (length-range_with_len first (length night.tracklets)) in
    ap (λ (t : NightTracklets). t ∷ tracklets_in (by_night (numbered_from (first + length night.tracklets) nights))) head
    ∙ ap (λ (ts : List NightTracklets). night.tracklets ∷ ts) (plain (first + length night.tracklets) nights)

-- the numbers of the nights rise as they did
later_numbers : (number : ℤ) (first : ℕ) (nights : List NightData) → All (λ (later : NightData). number <ℤ later.number) nights → All (λ (later : NumberedNightData). number <ℤ later.number) (numbered_from first nights)
later_numbers number first [] h = All-nil (λ (later : NumberedNightData). number <ℤ later.number)
later_numbers number first (night ∷ nights) h = All-cons (λ (later : NumberedNightData). number <ℤ later.number) (record { number = night.number; tracklets = numbered_by (range_with_len first (length night.tracklets)) night.tracklets }) (numbered_from (first + length night.tracklets) nights)
    (All-head (λ (later : NightData). number <ℤ later.number) night nights h)
    (later_numbers number (first + length night.tracklets) nights (All-tail (λ (later : NightData). number <ℤ later.number) night nights h))

rising : (first : ℕ) (nights : List NightData) → EachTwo (λ (one later : NightData). one.number <ℤ later.number) nights → EachTwo (λ (one later : NumberedNightData). one.number <ℤ later.number) (numbered_from first nights)
rising first [] h = λ i j d ij jl. absurd (omega arith)
rising first (night ∷ nights) h = each_two_cons (λ (one later : NumberedNightData). one.number <ℤ later.number) (record { number = night.number; tracklets = numbered_by (range_with_len first (length night.tracklets)) night.tracklets }) (numbered_from (first + length night.tracklets) nights)
    (later_numbers night.number (first + length night.tracklets) nights (each_two_head (λ (one later : NightData). one.number <ℤ later.number) night nights h))
    (rising (first + length night.tracklets) nights (each_two_tail (λ (one later : NightData). one.number <ℤ later.number) night nights h))

pub in_place : (nights : List NightData) → AreNights (tracklets_of_each nights) → EachTwo (λ (one later : NightData). one.number <ℤ later.number) nights → AreInPlace (numbered_from 0 nights) (all_places nights)
in_place nights a r = record {
  in_time = subst AreNights (sym (plain 0 nights)) a;
  rising = rising 0 nights r;
  leads = λ night place one c e.
      let s : StandsAt 0 nights night place one = stands_at 0 nights night place one c e in
      let num : one.num ≡ 0 + s.index = s.num in
      let same : s.index ≡ one.num = omega (arith, num) in
      subst (λ i. slice_get (all_places nights) i ≡ Some (place_in night.number place)) same s.leads;
}

-- a number is the place of its tracklet
pub at_number : (nights : List NightData) (one : NumberedTracklet) → IsNumberedIn (by_night (numbered_from 0 nights)) one → slice_get (all_tracklets nights) one.num ≡ Some one.tracklet
at_number nights one i =
    let night = of_map (λ (night : NumberedNightData). night.tracklets) (numbered_from 0 nights) i.0 i.1 in
    let place = at_place night.0.tracklets one (subst (λ list. Contains list one) (sym night.2) i.2) in
    let s : StandsAt 0 nights night.0 place.0 one = stands_at 0 nights night.0 place.0 one night.1 place.1 in
    let num : one.num ≡ 0 + s.index = s.num in
    let same : s.index ≡ one.num = omega (arith, num) in
    subst (λ i. slice_get (all_tracklets nights) i ≡ Some one.tracklet) same s.there

-- ---- no tracklet stands twice in the list of all
of_all : (nights : List NightData) (tracklet : TrackletData) → Contains (all_tracklets nights) tracklet → (night : NightTracklets) × Contains (tracklets_of_each nights) night × Contains night tracklet
of_all [] tracklet c = absurd (in_none tracklet c)
of_all (night ∷ nights) tracklet c = elim (Contains-append_cases night.tracklets (all_tracklets nights) tracklet c) [
  | inl d ↦ (night.tracklets, in_front night.tracklets (tracklets_of_each nights), d)
  | inr d ↦ (let w = of_all nights tracklet d in (w.0, in_rest night.tracklets (tracklets_of_each nights) w.0 w.1, w.2))
]

-- a tracklet of the first night is in no later one
not_later : (night : NightTracklets) (nights : List NightTracklets) (tracklet : TrackletData) → AreNights (night ∷ nights) → Contains night tracklet → (later : NightTracklets) → Contains nights later → Contains later tracklet → ⊥
not_later night nights tracklet a c later k d =
    let spot = first_spot night nights tracklet a c in
    let itself : spot.0.epoch <ℤ spot.0.epoch = before_held night nights spot.0 spot.0 a (tracklet, c, spot.1) (later, k, (tracklet, d, spot.1)) in
    omega (arith, ints, itself)

pub all_distinct : (nights : List NightData) → AreNights (tracklets_of_each nights) → All AreDistinct (tracklets_of_each nights) → AreDistinct (all_tracklets nights)
all_distinct [] a h = λ i j d ij jl. absurd (omega arith)
all_distinct (night ∷ nights) a h = each_two_append (λ one other. one ≡ other → ⊥) night.tracklets (all_tracklets nights)
    (All-head AreDistinct night.tracklets (tracklets_of_each nights) h)
    (all_distinct nights (nights_tail night.tracklets (tracklets_of_each nights) a) (All-tail AreDistinct night.tracklets (tracklets_of_each nights) h))
    (λ i d l j e m same.
    let one : TrackletData = get_or night.tracklets i d in
    let other : TrackletData = get_or (all_tracklets nights) j e in
    let w = of_all nights other (Contains-get_or (all_tracklets nights) j e m) in
    not_later night.tracklets (tracklets_of_each nights) other a (subst (Contains night.tracklets) same (Contains-get_or night.tracklets i d l)) w.0 w.1 w.2)

one_place : {X : Type 0} → (xs : List X) (i j : ℕ) (x : X) → AreDistinct xs → slice_get xs i ≡ Some x → slice_get xs j ≡ Some x → i ≡ j
one_place xs i j x h e f =
    let il : i < length xs = slice_get_within xs i x e in
    let jl : j < length xs = slice_get_within xs j x f in
    let a : get_or xs i x ≡ x = get_or_from_slice_get xs i x x e in
    let b : get_or xs j x ≡ x = get_or_from_slice_get xs j x x f in
    elim (cases_order i j) [
      | inl s ↦ s
      | inr d ↦ elim d [
        | inl l ↦ absurd (h i j x l jl (a ∙ sym b))
        | inr l ↦ absurd (h j i x l il (b ∙ sym a))
      ]
    ]

pub are_numbered : (nights : List NightData) → AreInPlace (numbered_from 0 nights) (all_places nights) → AreDistinct (all_tracklets nights) → AreNumbered (by_night (numbered_from 0 nights))
are_numbered nights p h = record {
  by_number = numbers_tell (numbered_from 0 nights) (all_places nights) p;
  by_tracklet = λ one other i j e.
      let there : slice_get (all_tracklets nights) one.num ≡ Some other.tracklet = at_number nights one i ∙ ap (λ t. Some t) e in
      let same : one.num ≡ other.num = one_place (all_tracklets nights) one.num other.num other.tracklet h there (at_number nights other j) in
      numbers_tell (numbered_from 0 nights) (all_places nights) p one other i j same;
}
