-- Seats: which tracklet stands at one, and the choice that the seats of a set of numbers are.
use Rattle.std.proofs.Common.{◌≡◌, ℕ, ◌+◌, ◌-◌, ◌<◌, ◌≤◌, ℤ, pos, ◌<ℤ◌, Some, None, List, [], ◌∷◌, ◌++◌, append_assoc, length, map, take, drop, get_or, ◌↔◌, zero, suc, refl, sym, subst, ap, ◌∙◌, arith}
use Rattle.std.proofs.lemmas.Bool.{cases_order}
use Rattle.std.proofs.lemmas.Int.{ints}
use Rattle.std.proofs.lemmas.List.{append-nil, get_or-map, length-map, map-append, take-append-drop, take_more}
use Rattle.std.proofs.lemmas.List.Elements.{All-contains, Contains-append_left, Contains-get_or, Contains-push, Contains-push_cases}
use Rattle.std.proofs.lemmas.Option.{get_or_from_slice_get, slice_get-map, slice_get-get_or, slice_get_within}
use Rattle.std.specs.List.{Contains, slice_get}
use Rattle.std.specs.Option.{option_map}
use mathlib.Core.Logic.{◌⊎◌, inl, inr}
use Rattle.closed_sets.specs.Families.{IsSet}
use Rattle.sky_math.specs.Lists.{EachTwo}
use Rattle.sky_units.specs.SpotData.{SpotData}
use Rattle.sky_units.specs.TrackletData.{TrackletData, TrackSetData, spots_of}
use Rattle.sky_units.specs.Tracks.{AreAmong, IsChoice}
use Rattle.set_grow.specs.Nights.{AreInPlace, NumberedNightData, by_night}
use Rattle.set_grow.specs.Numbered.{AreTrackletsOf, IsNumberedChoice, IsNumberedIn, NumberedTracklet, NumberedTracklets, numbers_in, tracklets_in, without_numbers}
use Rattle.set_grow.specs.Seats.{AreSeatsOf, HasNoSeat, HaveRisingNights, IsSeat, IsSeatOf, one_at, tracklets_at}
use Rattle.set_grow.specs.declared.places.Place.{Place}
use Rattle.set_grow.specs.declared.seats.Seat.{Seat}
use Rattle.set_grow.proofs.Choices.{same_by_spots}
use Rattle.set_grow.proofs.Chosen.{NumbersTell, chosen_in, one_each, plain_choice, same_numbers}
use Rattle.set_grow.proofs.Heredity.{fewer_spots}
use Rattle.set_grow.proofs.Members.{among, among_both, each_among, each_two_head, each_two_tail, front_or_rest, in_front, in_mapped, in_none, in_rest, of_mapped}
use Rattle.set_grow.proofs.NumberSets.{rising}

abbrev tracklets_of_night : NumberedNightData → NumberedTracklets
tracklets_of_night night = night.tracklets

-- ---- what stands at a place
pub at_place : {X : Type 0} → (xs : List X) (x : X) → Contains xs x → (i : ℕ) × (slice_get xs i ≡ Some x)
at_place xs x c = (c.0, slice_get-get_or xs c.0 x c.1 ∙ ap (λ y. Some y) c.2)

pub of_place : {X : Type 0} → (xs : List X) (i : ℕ) (x : X) → slice_get xs i ≡ Some x → Contains xs x
of_place xs i x e = (i, slice_get_within xs i x e, get_or_from_slice_get xs i x x e)

pub some_same : {X : Type 0} → (x y : X) → Some x ≡ Some y → x ≡ y
some_same x y e = cc

-- ---- the table
-- the table leads from a number to its seat
pub in_table : (nights : List NumberedNightData) (table : List Place) (number : ℕ) (seat : Seat) → AreInPlace nights table → (w : IsSeatOf nights number seat) → slice_get table number ≡ Some (record { night = w.night.number; place = seat.place })
in_table nights table number seat p w = subst (λ n. slice_get table n ≡ Some (record { night = w.night.number; place = seat.place })) w.is (p.leads w.night seat.place w.one (of_place nights seat.night w.night w.at_night) w.at_place)

-- nights of one number are one
same_index : (nights : List NumberedNightData) (i j : ℕ) (one other : NumberedNightData) → EachTwo (λ (one other : NumberedNightData). one.number <ℤ other.number) nights → slice_get nights i ≡ Some one → slice_get nights j ≡ Some other → one.number ≡ other.number → i ≡ j
same_index nights i j one other rise e f same =
    let il = slice_get_within nights i one e in
    let jl = slice_get_within nights j other f in
    let a : get_or nights i one ≡ one = get_or_from_slice_get nights i one one e in
    let b : get_or nights j one ≡ other = get_or_from_slice_get nights j other one f in
    elim (cases_order i j) [
      | inl s ↦ s
      | inr d ↦ elim d [
        | inl l ↦ (let r = rw (a, b) at (rise i j one l jl) in absurd (omega (arith, ints, r, same)))
        | inr l ↦ (let r = rw (a, b) at (rise j i one l il) in absurd (omega (arith, ints, r, same)))
      ]
    ]

abbrev place_at : ℤ → ℕ → Place
place_at night place = record { night = night; place = place }

same_place : (a b : ℤ) (i j : ℕ) → Some (place_at a i) ≡ Some (place_at b j) → (a ≡ b) × (i ≡ j)
same_place a b i j e =
    let same : place_at a i ≡ place_at b j = some_same (place_at a i) (place_at b j) e in
    (ap (λ (p : Place). p.night) same, ap (λ (p : Place). p.place) same)

-- a number has one seat
pub one_seat : (nights : List NumberedNightData) (table : List Place) (number : ℕ) (seat other : Seat) → AreInPlace nights table → IsSeatOf nights number seat → IsSeatOf nights number other → (seat.night ≡ other.night) × (seat.place ≡ other.place)
one_seat nights table number seat other p v w =
    let same = same_place v.night.number w.night.number seat.place other.place (sym (in_table nights table number seat p v) ∙ in_table nights table number other p w) in
    (same_index nights seat.night other.night v.night w.night p.rising v.at_night w.at_night same.0, same.1)

-- two tracklets at one seat are one
one_there : (nights : List NumberedNightData) (number : ℕ) (seat other : Seat) → (v : IsSeatOf nights number seat) → (w : IsSeatOf nights number other) → seat.night ≡ other.night → seat.place ≡ other.place → v.one ≡ w.one
one_there nights number seat other v w e f =
    let night : v.night ≡ w.night = some_same v.night w.night (sym v.at_night ∙ (ap (slice_get nights) e ∙ w.at_night)) in
    some_same v.one w.one (sym v.at_place ∙ (ap (λ (n : NumberedNightData). slice_get n.tracklets seat.place) night ∙ (ap (slice_get w.night.tracklets) f ∙ w.at_place)))

abbrev seat_at : ℕ → ℕ → Seat
seat_at night place = record { night = night; place = place }

-- a numbered tracklet of the nights has a seat
pub seat_in : (nights : List NumberedNightData) (one : NumberedTracklet) → IsNumberedIn (by_night nights) one → (seat : Seat) × (w : IsSeatOf nights one.num seat) × (w.one ≡ one)
seat_in nights one i =
    let night = of_mapped tracklets_of_night nights i.0 i.1 in
    let index = at_place nights night.0 night.1 in
    let place = at_place night.0.tracklets one (subst (λ list. Contains list one) (sym night.2) i.2) in
    (seat_at index.0 place.0, record { night = night.0; one = one; at_night = index.1; at_place = place.1; is = refl }, refl)

pub of_seat : (nights : List NumberedNightData) (number : ℕ) (seat : Seat) → (w : IsSeatOf nights number seat) → IsNumberedIn (by_night nights) w.one
of_seat nights number seat w = (w.night.tracklets, in_mapped tracklets_of_night nights w.night (of_place nights seat.night w.night w.at_night), of_place w.night.tracklets seat.place w.one w.at_place)

pub numbers_tell : (nights : List NumberedNightData) (table : List Place) → AreInPlace nights table → NumbersTell (by_night nights)
numbers_tell nights table p = λ one other i j e.
    let v = seat_in nights one i in
    let w = seat_in nights other j in
    let w' : IsSeatOf nights one.num w.0 = record { night = w.1.night; one = w.1.one; at_night = w.1.at_night; at_place = w.1.at_place; is = w.1.is ∙ sym e } in
    let same = one_seat nights table one.num v.0 w.0 p v.1 w' in
    sym v.2 ∙ (one_there nights one.num v.0 w.0 v.1 w' same.0 same.1 ∙ w.2)

-- what `one_at` reads is what stands there
pub one_at_is : (nights : List NumberedNightData) (number : ℕ) (seat : Seat) → (w : IsSeatOf nights number seat) → one_at nights seat ≡ w.one
one_at_is nights number seat w =
    let night : get_or nights seat.night (record { number = pos 0; tracklets = [] }) ≡ w.night = get_or_from_slice_get nights seat.night w.night (record { number = pos 0; tracklets = [] }) w.at_night in
    ap (λ (n : NumberedNightData). get_or n.tracklets seat.place (record { num = 0; tracklet = [] })) night ∙ get_or_from_slice_get w.night.tracklets seat.place w.one (record { num = 0; tracklet = [] }) w.at_place

-- ---- seats of rising nights are a choice
-- a tracklet is of the night at its seat, nights counted from a base
abbrev Sits : List NumberedTracklets → ℕ → (Seat → NumberedTracklet) → Seat → Type 0
Sits nights base f seat = (base ≤ seat.night) × (night : NumberedTracklets) × (slice_get nights (seat.night - base) ≡ Some night) × Contains night (f seat)

sits_later : (night : NumberedTracklets) (nights : List NumberedTracklets) (base : ℕ) (f : Seat → NumberedTracklet) (seat : Seat) → base < seat.night → Sits (night ∷ nights) base f seat → Sits nights (base + 1) f seat
sits_later night nights base f seat l w =
    let e : seat.night - base ≡ suc (seat.night - (base + 1)) = omega arith in
    let at : slice_get (night ∷ nights) (suc (seat.night - (base + 1))) ≡ Some w.1 = subst (λ i. slice_get (night ∷ nights) i ≡ Some w.1) e w.2 in
    (omega arith, w.1, at, w.3)

choice_none : (nights : List NumberedTracklets) → IsNumberedChoice nights []
choice_none [] = refl
choice_none (night ∷ nights) = inl (choice_none nights)

choice_of_seats : (nights : List NumberedTracklets) (base : ℕ) (f : Seat → NumberedTracklet) (seats : List Seat) → HaveRisingNights seats → ((seat : Seat) → Contains seats seat → Sits nights base f seat) → IsNumberedChoice nights (map f seats)
choice_of_seats nights base f [] rise h = choice_none nights
choice_of_seats [] base f (seat ∷ seats) rise h = (let w = h seat (in_front seat seats) in absurd (cc))
choice_of_seats (night ∷ nights) base f (seat ∷ seats) rise h =
    let here = h seat (in_front seat seats) in
    let later : (other : Seat) → Contains seats other → seat.night < other.night = λ other c. All-contains (λ (x : Seat). seat.night < x.night) seats other (each_two_head (λ (one other : Seat). one.night < other.night) seat seats rise) c in
    elim (cases_order base seat.night) [
      | inl e ↦ inr (
        f seat,
        map f seats,
        first night nights base f seat e here,
        refl,
        choice_of_seats nights (base + 1) f seats (each_two_tail (λ (one other : Seat). one.night < other.night) seat seats rise)
            (λ other c. (let l = later other c in sits_later night nights base f other (omega (arith, l, e)) (h other (in_rest seat seats other c)))),
      )
      | inr d ↦ elim d [
        | inl l ↦ inl (choice_of_seats nights (base + 1) f (seat ∷ seats) rise (λ other c. elim (front_or_rest seat seats other c) [
          | inl e ↦ subst (Sits nights (base + 1) f) e (sits_later night nights base f seat l here)
          | inr k ↦ (let m = later other k in sits_later night nights base f other (omega (arith, l, m)) (h other c))
        ]))
        | inr g ↦ absurd (let b = here.0 in omega (arith, b, g))
      ]
    ]
  where
    first : (night : NumberedTracklets) (nights : List NumberedTracklets) (base : ℕ) (f : Seat → NumberedTracklet) (seat : Seat) → base ≡ seat.night → Sits (night ∷ nights) base f seat → Contains night (f seat)
    first night nights base f seat e w =
        let z : seat.night - base ≡ 0 = omega (arith, e) in
        let at : Some night ≡ Some w.1 = subst (λ i. slice_get (night ∷ nights) i ≡ Some w.1) z w.2 in
        subst (λ list. Contains list (f seat)) (sym (some_same night w.1 at)) w.3

pub chosen_at : List NumberedNightData → List Seat → NumberedTracklets
chosen_at nights seats = map (one_at nights) seats

pub choice_at : (nights : List NumberedNightData) (seats : List Seat) → HaveRisingNights seats → ((seat : Seat) → Contains seats seat → IsSeat nights seat) → IsNumberedChoice (by_night nights) (map (one_at nights) seats)
choice_at nights seats rise h = choice_of_seats (by_night nights) 0 (one_at nights) seats rise (λ seat c.
    let w = h seat c in
    let at : slice_get (by_night nights) seat.night ≡ Some w.1.night.tracklets = slice_get-map tracklets_of_night nights seat.night ∙ ap (λ o. option_map tracklets_of_night o) w.1.at_night in
    let same : seat.night - 0 ≡ seat.night = omega arith in (
      omega arith,
      w.1.night.tracklets,
      subst (λ i. slice_get (by_night nights) i ≡ Some w.1.night.tracklets) (sym same) at,
      subst (Contains w.1.night.tracklets) (sym (one_at_is nights w.0 seat w.1)) (of_place w.1.night.tracklets seat.place w.1.one w.1.at_place),
    ))

-- ---- the seats of a set of numbers
pub are_seats : (nights : List NumberedNightData) (set : List ℕ) (seats : List Seat) → AreSeatsOf nights set seats → (seat : Seat) → Contains seats seat → IsSeat nights seat
are_seats nights set seats s seat c = let w = s.only seat c in (w.0, w.2)

-- the tracklets there are those of the set
pub tracklets_there : (nights : List NumberedNightData) (set : List ℕ) (seats : List Seat) → AreSeatsOf nights set seats → AreTrackletsOf (by_night nights) set (tracklets_at nights seats)
tracklets_there nights set seats s = record {
  chosen = map (one_at nights) seats;
  choice = choice_at nights seats s.rising (are_seats nights set seats s);
  found = each_among set (numbers_in (map (one_at nights) seats)) (λ x c.
      let w = s.each x c in
      let there : Contains (numbers_in (map (one_at nights) seats)) (one_at nights w.0).num = in_mapped num_of (map (one_at nights) seats) (one_at nights w.0) (in_mapped (one_at nights) seats w.0 w.1) in
      subst (Contains (numbers_in (map (one_at nights) seats))) (ap num_of (one_at_is nights x w.0 w.2) ∙ w.2.is) there);
  wanted = each_among (numbers_in (map (one_at nights) seats)) set (λ x c.
      let one = of_mapped num_of (map (one_at nights) seats) x c in
      let seat = of_mapped (one_at nights) seats one.0 one.1 in
      let w = s.only seat.0 seat.1 in
      let is : w.0 ≡ x = sym w.2.is ∙ (ap num_of (sym (one_at_is nights w.0 seat.0 w.2)) ∙ (ap num_of seat.2 ∙ one.2)) in
      subst (Contains set) is w.1);
  are = without_at nights seats;
}
  where
    num_of : NumberedTracklet → ℕ
    num_of one = one.num

    without_at : (nights : List NumberedNightData) (seats : List Seat) → tracklets_at nights seats ≡ without_numbers (map (one_at nights) seats)
    without_at nights [] = refl
    without_at nights (seat ∷ seats) = ap (λ (ts : TrackSetData). (one_at nights seat).tracklet ∷ ts) (without_at nights seats)

-- a set of numbers has one list of tracklets
pub one_list : (nights : List NumberedNightData) (table : List Place) (set : List ℕ) (track other : TrackSetData) → AreInPlace nights table → AreTrackletsOf (by_night nights) set track → AreTrackletsOf (by_night nights) set other → track ≡ other
one_list nights table set track other p t u =
    same_by_spots (tracklets_in (by_night nights)) track other p.in_time (choice_of nights set track t) (choice_of nights set other u) (spots nights table set track other p t u) (spots nights table set other track p u t)
  where
    choice_of : (nights : List NumberedNightData) (set : List ℕ) (track : TrackSetData) → AreTrackletsOf (by_night nights) set track → IsChoice (tracklets_in (by_night nights)) track
    choice_of nights set track t = subst (IsChoice (tracklets_in (by_night nights))) (sym t.are) (plain_choice (by_night nights) t.chosen t.choice)

    spots : (nights : List NumberedNightData) (table : List Place) (set : List ℕ) (track other : TrackSetData) → AreInPlace nights table → AreTrackletsOf (by_night nights) set track → AreTrackletsOf (by_night nights) set other → AreAmong (spots_of track) (spots_of other)
    spots nights table set track other p t u =
        let there = fewer_spots t.chosen u.chosen (same_numbers (by_night nights) t.chosen u.chosen (numbers_tell nights table p) t.choice u.choice (among_both (numbers_in t.chosen) set (numbers_in u.chosen) t.wanted u.found)) in
        subst (λ ts. AreAmong (spots_of ts) (spots_of other)) (sym t.are) (subst (λ ts. AreAmong (spots_of (without_numbers t.chosen)) (spots_of ts)) (sym u.are) there)

-- ---- no tracklets where a number has no seat, or two have seats in one night
pub none_unseated : (nights : List NumberedNightData) (set : List ℕ) (number : ℕ) (tracklets : TrackSetData) → Contains set number → HasNoSeat nights number → ¬ AreTrackletsOf (by_night nights) set tracklets
none_unseated nights set number tracklets c none = λ t.
    let one = of_mapped (λ (one : NumberedTracklet). one.num) t.chosen number (among set (numbers_in t.chosen) number t.found c) in
    let w = seat_in nights one.0 (chosen_in (by_night nights) t.chosen one.0 t.choice one.1) in
    none w.0 (subst (λ n. IsSeatOf nights n w.0) one.2 w.1)

-- the tracklet of a number of a set is chosen
chosen_one : (nights : List NumberedNightData) (table : List Place) (set : List ℕ) (tracklets : TrackSetData) (number : ℕ) (seat : Seat) → AreInPlace nights table → (t : AreTrackletsOf (by_night nights) set tracklets) → Contains set number → (w : IsSeatOf nights number seat) → Contains t.chosen w.one
chosen_one nights table set tracklets number seat p t c w =
    let one = of_mapped (λ (one : NumberedTracklet). one.num) t.chosen number (among set (numbers_in t.chosen) number t.found c) in
    subst (Contains t.chosen) (numbers_tell nights table p one.0 w.one (chosen_in (by_night nights) t.chosen one.0 t.choice one.1) (of_seat nights number seat w) (one.2 ∙ sym w.is)) one.1

pub none_sharing : (nights : List NumberedNightData) (table : List Place) (set : List ℕ) (tracklets : TrackSetData) (number rival : ℕ) (seat other : Seat) → AreInPlace nights table → Contains set number → Contains set rival → ¬ (number ≡ rival) → IsSeatOf nights number seat → IsSeatOf nights rival other → seat.night ≡ other.night → ¬ AreTrackletsOf (by_night nights) set tracklets
none_sharing nights table set tracklets number rival seat other p c d differ v w same = λ t.
    let night : v.night ≡ w.night = some_same v.night w.night (sym v.at_night ∙ (ap (slice_get nights) same ∙ w.at_night)) in
    let is : v.one ≡ w.one = one_each (by_night nights) t.chosen v.night.tracklets v.one w.one p.in_time t.choice
    (in_mapped tracklets_of_night nights v.night (of_place nights seat.night v.night v.at_night))
    (of_place v.night.tracklets seat.place v.one v.at_place)
    (subst (λ (n : NumberedNightData). Contains n.tracklets w.one) (sym night) (of_place w.night.tracklets other.place w.one w.at_place))
    (chosen_one nights table set tracklets number seat p t c v)
    (chosen_one nights table set tracklets rival other p t d w) in
    differ (sym v.is ∙ (ap (λ (one : NumberedTracklet). one.num) is ∙ w.is))

-- ---- what a seat reads
pub seat_within : (nights : List NumberedNightData) (seat : Seat) → IsSeat nights seat → seat.night < length nights
seat_within nights seat w = slice_get_within nights seat.night w.1.night w.1.at_night

pub night_there : (nights : List NumberedNightData) (seat : Seat) (d : NumberedNightData) → (w : IsSeat nights seat) → get_or nights seat.night d ≡ w.1.night
night_there nights seat d w = get_or_from_slice_get nights seat.night w.1.night d w.1.at_night

pub place_within : (nights : List NumberedNightData) (seat : Seat) (d : NumberedNightData) → IsSeat nights seat → seat.place < length (without_numbers (get_or nights seat.night d).tracklets)
place_within nights seat d w =
    let l : seat.place < length w.1.night.tracklets = slice_get_within w.1.night.tracklets seat.place w.1.one w.1.at_place in
    let e = night_there nights seat d w in
    let same : length (without_numbers w.1.night.tracklets) ≡ length w.1.night.tracklets = length-map w.1.night.tracklets (λ (one : NumberedTracklet). one.tracklet) in
    subst (λ (n : NumberedNightData). seat.place < length (without_numbers n.tracklets)) (sym e) (omega (arith, l, same))

pub tracklet_there : (nights : List NumberedNightData) (seat : Seat) (d : NumberedNightData) (e : TrackletData) → IsSeat nights seat → get_or (without_numbers (get_or nights seat.night d).tracklets) seat.place e ≡ (one_at nights seat).tracklet
tracklet_there nights seat d e w =
    let l : seat.place < length w.1.night.tracklets = slice_get_within w.1.night.tracklets seat.place w.1.one w.1.at_place in
    ap (λ (n : NumberedNightData). get_or (without_numbers n.tracklets) seat.place e) (night_there nights seat d w)
    ∙ (get_or-map (λ (one : NumberedTracklet). one.tracklet) w.1.night.tracklets seat.place w.1.one e l
    ∙ (ap (λ (one : NumberedTracklet). one.tracklet) (get_or_from_slice_get w.1.night.tracklets seat.place w.1.one w.1.one w.1.at_place) ∙ ap (λ (one : NumberedTracklet). one.tracklet) (sym (one_at_is nights w.0 seat w.1))))

-- one tracklet more
pub spots_more : (nights : List NumberedNightData) (seats : List Seat) (i : ℕ) (d : Seat) → i < length seats → spots_of (tracklets_at nights (take (i + 1) seats)) ≡ spots_of (tracklets_at nights (take i seats)) ++ (one_at nights (get_or seats i d)).tracklet
spots_more nights seats i d l =
    ap (λ (list : List Seat). spots_of (tracklets_at nights list)) (take_more seats i d l)
    ∙ (ap spots_of (map-append (λ (seat : Seat). (one_at nights seat).tracklet) (take i seats) (get_or seats i d ∷ [])) ∙ spots_push (tracklets_at nights (take i seats)) (one_at nights (get_or seats i d)).tracklet)
  where
    spots_push : (set : TrackSetData) (t : TrackletData) → spots_of (set ++ t ∷ []) ≡ spots_of set ++ t
    spots_push [] t = append-nil t
    spots_push (first ∷ set) t = ap (λ (spots : List SpotData). first ++ spots) (spots_push set t) ∙ sym (append_assoc first (spots_of set) t)

-- ---- seats found one after the other
pub earlier_below : (xs : List ℕ) (i y d : ℕ) → EachTwo (λ a b. a < b) xs → i < length xs → Contains (take i xs) y → y < get_or xs i d
earlier_below [] i y d rise l c = absurd (omega (arith, l))
earlier_below (z ∷ zs) zero y d rise l c = absurd (in_none y c)
earlier_below (z ∷ zs) (suc i) y d rise l c = elim (front_or_rest z (take i zs) y c) [
  | inl e ↦ subst (λ n. n < get_or zs i d) e (each_two_head (λ a b. a < b) z zs rise i d (omega (arith, l)))
  | inr k ↦ earlier_below zs i y d (each_two_tail (λ a b. a < b) z zs rise) (omega (arith, l)) k
]

pub no_seats : (nights : List NumberedNightData) → AreSeatsOf nights [] []
no_seats nights = record { rising = λ i j d ij jl. absurd (omega arith); each = λ x c. absurd (in_none x c); only = λ seat c. absurd (in_none seat c) }

pub seats_more : (nights : List NumberedNightData) (numbers : List ℕ) (number : ℕ) (seat : Seat) (old new : List Seat) → AreSeatsOf nights numbers old → IsSeatOf nights number seat → HaveRisingNights new → ((other : Seat) → Contains new other ↔ ((seat ≡ other) ⊎ Contains old other)) → AreSeatsOf nights (numbers ++ number ∷ []) new
seats_more nights numbers number seat old new s w rise h = record {
  rising = rise;
  each = λ x c. elim (Contains-push_cases numbers number x c) [
    | inl d ↦ (let v = s.each x d in (v.0, (h v.0).1 (inr v.1), v.2))
    | inr e ↦ (seat, (h seat).1 (inl refl), subst (λ n. IsSeatOf nights n seat) e w)
  ];
  only = λ other c. elim ((h other).0 c) [
    | inl e ↦ (number, Contains-push numbers number, subst (IsSeatOf nights number) e w)
    | inr d ↦ (let v = s.only other d in (v.0, Contains-append_left numbers (number ∷ []) v.0 v.1, v.2))
  ];
}

-- a seat in a night that one of the seats is of
pub none_again : (nights : List NumberedNightData) (table : List Place) (numbers : List ℕ) (i d : ℕ) (seat other : Seat) (seats : List Seat) → AreInPlace nights table → IsSet numbers → i < length numbers → AreSeatsOf nights (take i numbers) seats → IsSeatOf nights (get_or numbers i d) seat → Contains seats other → other.night ≡ seat.night → (tracklets : TrackSetData) → ¬ AreTrackletsOf (by_night nights) numbers tracklets
none_again nights table numbers i d seat other seats p is_set l s w c e tracklets =
    let v = s.only other c in
    let x : ℕ = get_or numbers i d in
    let below : v.0 < get_or numbers i d = earlier_below numbers i v.0 d (rising numbers is_set) l v.1 in
    let differ : ¬ (v.0 ≡ get_or numbers i d) = λ same. omega (arith, below, same) in
    let has : Contains numbers v.0 = subst (λ list. Contains list v.0) (take-append-drop i numbers) (Contains-append_left (take i numbers) (drop i numbers) v.0 v.1) in
    none_sharing nights table numbers tracklets v.0 (get_or numbers i d) other seat p has (Contains-get_or numbers i d l) differ v.2 w e

-- ---- the seat of a number, read from the table
pub none_by_table : (nights : List NumberedNightData) (table : List Place) (number : ℕ) → AreInPlace nights table → slice_get table number ≡ None → HasNoSeat nights number
none_by_table nights table number p e = λ seat w. (let no : None ≡ Some (place_at w.night.number seat.place) = sym e ∙ in_table nights table number seat p w in cc)

at_once : (nights : List NumberedNightData) (table : List Place) (number : ℕ) (place : Place) (seat : Seat) → AreInPlace nights table → slice_get table number ≡ Some place → (w : IsSeatOf nights number seat) → (place.night ≡ w.night.number) × (place.place ≡ seat.place)
at_once nights table number place seat p e w = same_place place.night w.night.number place.place seat.place (sym e ∙ in_table nights table number seat p w)

pub none_by_night : (nights : List NumberedNightData) (table : List Place) (number : ℕ) (place : Place) → AreInPlace nights table → slice_get table number ≡ Some place → ((night : NumberedNightData) → Contains nights night → ¬ (night.number ≡ place.night)) → HasNoSeat nights number
none_by_night nights table number place p e none = λ seat w. none w.night (of_place nights seat.night w.night w.at_night) (sym (at_once nights table number place seat p e w).0)

-- at the place that the table says stands the number
pub number_there : (nights : List NumberedNightData) (table : List Place) (number index : ℕ) (place : Place) (night : NumberedNightData) (seat : Seat) → AreInPlace nights table → slice_get table number ≡ Some place → slice_get nights index ≡ Some night → night.number ≡ place.night → IsSeatOf nights number seat → slice_get (numbers_in night.tracklets) place.place ≡ Some number
number_there nights table number index place night seat p e at same w =
    let there = at_once nights table number place seat p e w in
    let index_is : index ≡ seat.night = same_index nights index seat.night night w.night p.rising at w.at_night (same ∙ there.0) in
    let night_is : night ≡ w.night = some_same night w.night (sym at ∙ (ap (slice_get nights) index_is ∙ w.at_night)) in
    ap (λ (n : NumberedNightData). slice_get (numbers_in n.tracklets) place.place) night_is
    ∙ (ap (slice_get (numbers_in w.night.tracklets)) there.1
    ∙ (slice_get-map (λ (one : NumberedTracklet). one.num) w.night.tracklets seat.place ∙ (ap (λ o. option_map (λ (one : NumberedTracklet). one.num) o) w.at_place ∙ ap (λ n. Some n) w.is)))

pub none_by_place : (nights : List NumberedNightData) (table : List Place) (number index : ℕ) (place : Place) (night : NumberedNightData) → AreInPlace nights table → slice_get table number ≡ Some place → slice_get nights index ≡ Some night → night.number ≡ place.night → slice_get (numbers_in night.tracklets) place.place ≡ None → HasNoSeat nights number
none_by_place nights table number index place night p e at same none = λ seat w. (let no : None ≡ Some number = sym none ∙ number_there nights table number index place night seat p e at same w in cc)

pub none_by_number : (nights : List NumberedNightData) (table : List Place) (number index found : ℕ) (place : Place) (night : NumberedNightData) → AreInPlace nights table → slice_get table number ≡ Some place → slice_get nights index ≡ Some night → night.number ≡ place.night → slice_get (numbers_in night.tracklets) place.place ≡ Some found → ¬ (found ≡ number) → HasNoSeat nights number
none_by_number nights table number index found place night p e at same there differ = λ seat w. differ (some_same found number (sym there ∙ number_there nights table number index place night seat p e at same w))

pub seat_found : (nights : List NumberedNightData) (number index place : ℕ) (night : NumberedNightData) → slice_get nights index ≡ Some night → slice_get (numbers_in night.tracklets) place ≡ Some number → IsSeatOf nights number (seat_at index place)
seat_found nights number index place night at there =
    let m : length (numbers_in night.tracklets) ≡ length night.tracklets = length-map night.tracklets (λ (one : NumberedTracklet). one.num) in
    let k = slice_get_within (numbers_in night.tracklets) place number there in
    let l : place < length night.tracklets = omega (arith, k, m) in
    let d : NumberedTracklet = record { num = number; tracklet = [] } in
    let one : slice_get night.tracklets place ≡ Some (get_or night.tracklets place d) = slice_get-get_or night.tracklets place d l in
    let is : Some (get_or night.tracklets place d).num ≡ Some number = sym (slice_get-map (λ (one : NumberedTracklet). one.num) night.tracklets place ∙ ap (λ o. option_map (λ (one : NumberedTracklet). one.num) o) one) ∙ there in
    record { night = night; one = get_or night.tracklets place d; at_night = at; at_place = one; is = some_same (get_or night.tracklets place d).num number is }
