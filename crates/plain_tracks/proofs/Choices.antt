-- The spots of a choice: they are spots of the nights, their epochs rise, and their numbers tell the choice.
use Rattle.std.proofs.Common.{◌≡◌, ℕ, ◌+◌, ◌*◌, ◌<◌, ◌≤◌, ◌<ℤ◌, List, [], ◌∷◌, ◌++◌, length, length-append, take, drop, map, get_or, refl, sym, subst, ap, ◌∙◌, arith}
use Rattle.std.proofs.lemmas.Int.{ints}
use Rattle.std.proofs.lemmas.List.{take-append-drop, get_or-map, length-map}
use Rattle.std.proofs.lemmas.List.Elements.{All-nil, All-cons, All-head, All-tail, All-append, All-contains, Contains-get_or, Contains-append_right, Contains-append_cases}
use Rattle.std.specs.List.{All, Contains}
use mathlib.Core.Logic.{inl, inr}
use Rattle.sky_units.proofs.RisingLists.{rising_across}
use Rattle.sky_units.specs.Arcs.{HaveRisingEpochs}
use Rattle.sky_units.specs.SpotData.{SpotData}
use Rattle.sky_units.specs.TrackletData.{TrackletData, TrackSetData, NightTracklets, IsTracklet, spots_of}
use Rattle.sky_units.specs.Tracks.{AreAmong, AreNights, IsChoice, IsHeld, IsNightBefore, IsOfNight, numbers_of}
use Rattle.night_tree.proofs.EachTwoOf.{each_two_head, each_two_tail}
use Rattle.plain_tracks.specs.Growth.{AreTestable, MayGrow}
use Rattle.plain_tracks.proofs.Steps.{in_none, choice_push, choice_wider, taken}

-- ---- the first of some nights, and the others
pub held_here : (night : NightTracklets) (nights : List NightTracklets) (spot : SpotData) → IsOfNight night spot → IsHeld (night ∷ nights) spot
held_here night nights spot o = (night, (0, omega arith, refl), o)

pub held_later : (night : NightTracklets) (nights : List NightTracklets) (spot : SpotData) → IsHeld nights spot → IsHeld (night ∷ nights) spot
held_later night nights spot w = (w.0, Contains-append_right (night ∷ []) nights w.0 w.1, w.2)

pub nights_tail : (night : NightTracklets) (nights : List NightTracklets) → AreNights (night ∷ nights) → AreNights nights
nights_tail night nights a = record {
  tracklets = All-tail (All IsTracklet) night nights a.tracklets;
  follow = each_two_tail IsNightBefore night nights a.follow;
  short = λ s t p q. a.short s t (held_later night nights s p) (held_later night nights t q);
  numbered = λ s t p q. a.numbered s t (held_later night nights s p) (held_later night nights t q);
}

-- a spot of the first night is before each of the later ones
pub before_held : (night : NightTracklets) (nights : List NightTracklets) (spot later : SpotData) → AreNights (night ∷ nights) → IsOfNight night spot → IsHeld nights later → spot.epoch <ℤ later.epoch
before_held night nights spot later a o w =
    let before : IsNightBefore night w.0 = All-contains (IsNightBefore night) nights w.0 (each_two_head IsNightBefore night nights a.follow) w.1 in
    before spot later o w.2

-- ---- the spots of a choice are spots of the nights
pub held_of_choice : (nights : List NightTracklets) (set : TrackSetData) → IsChoice nights set → (spot : SpotData) → Contains (spots_of set) spot → IsHeld nights spot
held_of_choice [] set e spot c = absurd (in_none spot (subst (λ s. Contains (spots_of s) spot) e c))
held_of_choice (night ∷ nights) set (inl d) spot c = held_later night nights spot (held_of_choice nights set d spot c)
held_of_choice (night ∷ nights) set (inr w) spot c =
    let d : Contains (w.0 ++ spots_of w.1) spot = subst (λ s. Contains (spots_of s) spot) w.3 c in
    elim (Contains-append_cases w.0 (spots_of w.1) spot d) [
      | inl a ↦ held_here night nights spot (w.0, w.2, a)
      | inr b ↦ held_later night nights spot (held_of_choice nights w.1 w.4 spot b)
    ]

-- ---- their epochs rise
pub rising_of_choice : (nights : List NightTracklets) (set : TrackSetData) → AreNights nights → IsChoice nights set → HaveRisingEpochs (spots_of set)
rising_of_choice [] set a e = subst (λ s. HaveRisingEpochs (spots_of s)) (sym e) (λ i j d ij jn. absurd (omega arith))
rising_of_choice (night ∷ nights) set a (inl c) = rising_of_choice nights set (nights_tail night nights a) c
rising_of_choice (night ∷ nights) set a (inr w) =
    let one : IsTracklet w.0 = All-contains IsTracklet night w.0 (All-head (All IsTracklet) night nights a.tracklets) w.2 in
    let rest : HaveRisingEpochs (spots_of w.1) = rising_of_choice nights w.1 (nights_tail night nights a) w.4 in
    let whole : HaveRisingEpochs (w.0 ++ spots_of w.1) = rising_across w.0 (spots_of w.1) one.rising rest (λ i j d il jl.
    before_held night nights (get_or w.0 i d) (get_or (spots_of w.1) j d) a
    (w.0, w.2, Contains-get_or w.0 i d il)
    (held_of_choice nights w.1 w.4 (get_or (spots_of w.1) j d) (Contains-get_or (spots_of w.1) j d jl))) in
    subst (λ s. HaveRisingEpochs (spots_of s)) (sym w.3) whole

pub testable_of_choice : (nights : List NightTracklets) (set : TrackSetData) → AreNights nights → IsChoice nights set → AreTestable (spots_of set)
testable_of_choice nights set a c = record {
  rising = rising_of_choice nights set a c;
  short = λ i j d ij jl. a.short (get_or (spots_of set) i d) (get_or (spots_of set) j d)
      (held_of_choice nights set c (get_or (spots_of set) i d) (Contains-get_or (spots_of set) i d (omega arith)))
      (held_of_choice nights set c (get_or (spots_of set) j d) (Contains-get_or (spots_of set) j d jl));
}

pub may_grow : (nights : List NightTracklets) (i : ℕ) (night : NightTracklets) (set : TrackSetData) → AreNights nights → i < length nights → night ≡ get_or nights i night → IsChoice (take i nights) set → MayGrow set night
may_grow nights i night set a l e c = λ tracklet k.
    let more : IsChoice (take i nights ++ night ∷ []) (set ++ tracklet ∷ []) = choice_push (take i nights) night set tracklet k c in
    let front : IsChoice (take (i + 1) nights) (set ++ tracklet ∷ []) = subst (λ ns. IsChoice ns (set ++ tracklet ∷ [])) (sym (taken nights i night l e)) more in
    let whole : IsChoice nights (set ++ tracklet ∷ []) = subst (λ ns. IsChoice ns (set ++ tracklet ∷ [])) (take-append-drop (i + 1) nights) (choice_wider (take (i + 1) nights) (drop (i + 1) nights) (set ++ tracklet ∷ []) front) in
    testable_of_choice nights (set ++ tracklet ∷ []) a whole

-- ---- their numbers tell the choice
pub same_by_numbers : (xs ys : List SpotData) → ((x y : SpotData) → Contains xs x → Contains ys y → x.num ≡ y.num → x ≡ y) → map (λ (s : SpotData). s.num) xs ≡ map (λ (s : SpotData). s.num) ys → xs ≡ ys
same_by_numbers [] [] h e = refl
same_by_numbers [] (y ∷ ys) h e = cc
same_by_numbers (x ∷ xs) [] h e = cc
same_by_numbers (x ∷ xs) (y ∷ ys) h e =
    let first : x.num ≡ y.num = cc in
    let others : map (λ (s : SpotData). s.num) xs ≡ map (λ (s : SpotData). s.num) ys = cc in
    let one : x ≡ y = h x y (0, omega arith, refl) (0, omega arith, refl) first in
    let rest : xs ≡ ys = same_by_numbers xs ys (λ u v p q. h u v (Contains-append_right (x ∷ []) xs u p) (Contains-append_right (y ∷ []) ys v q)) others in
    cc

-- two splittings by one property
pub same_split : (P : SpotData → Type 0) (xs ys us vs : List SpotData) → All P xs → All P us → All (λ s. ¬ P s) ys → All (λ s. ¬ P s) vs → xs ++ ys ≡ us ++ vs → (xs ≡ us) × (ys ≡ vs)
same_split P [] ys [] vs px pu py pv e = (refl, e)
same_split P [] ys (u ∷ us) vs px pu py pv e =
    let no : All (λ s. ¬ P s) (u ∷ (us ++ vs)) = subst (All (λ s. ¬ P s)) e py in
    absurd (All-head (λ s. ¬ P s) u (us ++ vs) no (All-head P u us pu))
same_split P (x ∷ xs) ys [] vs px pu py pv e =
    let no : All (λ s. ¬ P s) (x ∷ (xs ++ ys)) = subst (All (λ s. ¬ P s)) (sym e) pv in
    absurd (All-head (λ s. ¬ P s) x (xs ++ ys) no (All-head P x xs px))
same_split P (x ∷ xs) ys (u ∷ us) vs px pu py pv e =
    let first : x ≡ u = cc in
    let others : xs ++ ys ≡ us ++ vs = cc in
    let rest = same_split P xs ys us vs (All-tail P x xs px) (All-tail P u us pu) py pv others in
    let same : xs ≡ us = rest.0 in
    let joined : x ∷ xs ≡ u ∷ us = cc in
    (joined, rest.1)

all_of_night : (night : NightTracklets) (tracklet : TrackletData) → Contains night tracklet → All (IsOfNight night) tracklet
all_of_night night tracklet c = λ k d l. (tracklet, c, Contains-get_or tracklet k d l)

none_of_night : (night : NightTracklets) (nights : List NightTracklets) (set : TrackSetData) → AreNights (night ∷ nights) → IsChoice nights set → All (λ s. ¬ IsOfNight night s) (spots_of set)
none_of_night night nights set a c = λ k d l o.
    let spot : SpotData = get_or (spots_of set) k d in
    let b : spot.epoch <ℤ spot.epoch = before_held night nights spot spot a o (held_of_choice nights set c spot (Contains-get_or (spots_of set) k d l)) in
    omega (arith, ints, b)

-- a tracklet of the first night has a spot that no choice of the later nights has
not_without : (night : NightTracklets) (nights : List NightTracklets) (tracklet : TrackletData) (rest set : TrackSetData) → AreNights (night ∷ nights) → Contains night tracklet → IsChoice nights set → spots_of set ≡ tracklet ++ spots_of rest → ⊥
not_without night nights [] rest set a k c e =
    let one : IsTracklet [] = All-contains IsTracklet night [] (All-head (All IsTracklet) night nights a.tracklets) k in
    let two : 2 ≤ length {A = SpotData} [] = one.two in
    omega arith
not_without night nights (s ∷ tracklet) rest set a k c e =
    let no : All (λ s. ¬ IsOfNight night s) (s ∷ (tracklet ++ spots_of rest)) = subst (All (λ s. ¬ IsOfNight night s)) e (none_of_night night nights set a c) in
    All-head (λ s. ¬ IsOfNight night s) s (tracklet ++ spots_of rest) no (s ∷ tracklet, k, (0, omega arith, refl))

pub same_choice : (nights : List NightTracklets) (one other : TrackSetData) → AreNights nights → IsChoice nights one → IsChoice nights other → spots_of one ≡ spots_of other → one ≡ other
same_choice [] one other a c d e = c ∙ sym d
same_choice (night ∷ nights) one other a (inl c) (inl d) e = same_choice nights one other (nights_tail night nights a) c d e
same_choice (night ∷ nights) one other a (inl c) (inr w) e = absurd (not_without night nights w.0 w.1 one a w.2 c (e ∙ ap spots_of w.3))
same_choice (night ∷ nights) one other a (inr v) (inl d) e = absurd (not_without night nights v.0 v.1 other a v.2 d (sym e ∙ ap spots_of v.3))
same_choice (night ∷ nights) one other a (inr v) (inr w) e =
    let spots : v.0 ++ spots_of v.1 ≡ w.0 ++ spots_of w.1 = sym (ap spots_of v.3) ∙ (e ∙ ap spots_of w.3) in
    let parts = same_split (IsOfNight night) v.0 (spots_of v.1) w.0 (spots_of w.1) (all_of_night night v.0 v.2) (all_of_night night w.0 w.2) (none_of_night night nights v.1 a v.4) (none_of_night night nights w.1 a w.4) spots in
    let first : v.0 ≡ w.0 = parts.0 in
    let rest : v.1 ≡ w.1 = same_choice nights v.1 w.1 (nights_tail night nights a) v.4 w.4 parts.1 in
    let whole : v.0 ∷ v.1 ≡ w.0 ∷ w.1 = cc in
    v.3 ∙ (whole ∙ sym w.3)

pub same_by_number_lists : (nights : List NightTracklets) (one other : TrackSetData) → AreNights nights → IsChoice nights one → IsChoice nights other → numbers_of one ≡ numbers_of other → one ≡ other
same_by_number_lists nights one other a c d e =
    same_choice nights one other a c d (same_by_numbers (spots_of one) (spots_of other)
    (λ x y p q. a.numbered x y (held_of_choice nights one c x p) (held_of_choice nights other d y q)) e)

-- ---- spots are among others where their numbers are
contains_number : (xs : List SpotData) (x : SpotData) → Contains xs x → Contains (map (λ (s : SpotData). s.num) xs) x.num
contains_number xs x c =
    let l : c.0 < length xs = c.1 in
    let e : get_or (map (λ (s : SpotData). s.num) xs) c.0 x.num ≡ (get_or xs c.0 x).num = get_or-map (λ (s : SpotData). s.num) xs c.0 x x.num l in
    (c.0, simp length-map l, e ∙ ap (λ (s : SpotData). s.num) c.2)

of_number : (xs : List SpotData) (n : ℕ) (d : SpotData) → Contains (map (λ (s : SpotData). s.num) xs) n → (x : SpotData) × Contains xs x × (x.num ≡ n)
of_number xs n d c =
    let l : c.0 < length xs = simp length-map at c.1 in
    let e : get_or (map (λ (s : SpotData). s.num) xs) c.0 n ≡ (get_or xs c.0 d).num = get_or-map (λ (s : SpotData). s.num) xs c.0 d n l in
    (get_or xs c.0 d, Contains-get_or xs c.0 d l, sym e ∙ c.2)

pub among_numbers : (xs ys : List SpotData) → AreAmong xs ys → AreAmong (map (λ (s : SpotData). s.num) xs) (map (λ (s : SpotData). s.num) ys)
among_numbers [] ys h = λ k d l. absurd (omega arith)
among_numbers (x ∷ xs) ys h = All-cons (Contains (map (λ (s : SpotData). s.num) ys)) x.num (map (λ (s : SpotData). s.num) xs)
    (contains_number ys x (All-head (Contains ys) x xs h))
    (among_numbers xs ys (All-tail (Contains ys) x xs h))

pub among_spots : (xs ys : List SpotData) → ((x y : SpotData) → Contains xs x → Contains ys y → x.num ≡ y.num → x ≡ y) → AreAmong (map (λ (s : SpotData). s.num) xs) (map (λ (s : SpotData). s.num) ys) → AreAmong xs ys
among_spots [] ys same h = λ k d l. absurd (omega arith)
among_spots (x ∷ xs) ys same h =
    let w = of_number ys x.num x (All-head (Contains (map (λ (s : SpotData). s.num) ys)) x.num (map (λ (s : SpotData). s.num) xs) h) in
    let e : x ≡ w.0 = same x w.0 (0, omega arith, refl) w.1 (sym w.2) in
    All-cons (Contains ys) x xs (subst (Contains ys) (sym e) w.1)
    (among_spots xs ys (λ u v p q. same u v (Contains-append_right (x ∷ []) xs u p) q) (All-tail (Contains (map (λ (s : SpotData). s.num) ys)) x.num (map (λ (s : SpotData). s.num) xs) h))

-- ---- what all tracklets have, a choice of them has
pub few_chosen : (nights : List NightTracklets) (set : TrackSetData) → IsChoice nights set → length set ≤ length nights
few_chosen [] set h = omega (arith, ap length h)
few_chosen (night ∷ nights) set h = elim h [
  | inl a ↦ (let rest = few_chosen nights set a in omega (arith, rest))
  | inr a ↦ (let rest = few_chosen nights a.1 a.4 in omega (arith, rest, ap length a.3))
]

pub chosen_have : (P : TrackletData → Type 0) (nights : List NightTracklets) (set : TrackSetData) → All (All P) nights → IsChoice nights set → All P set
chosen_have P [] set all h = rw h (All-nil P)
chosen_have P (night ∷ nights) set all h = elim h [
  | inl a ↦ chosen_have P nights set (All-tail (All P) night nights all) a
  | inr a ↦
      rw a.3 (All-cons P a.0 a.1 (All-contains P night a.0 (All-head (All P) night nights all) a.2)
      (chosen_have P nights a.1 (All-tail (All P) night nights all) a.4))
]

pub two_each : (set : TrackSetData) → All IsTracklet set → 2 * length set ≤ length (spots_of set)
two_each [] h = omega arith
two_each (t ∷ set) h =
    let two : 2 ≤ length t = (All-head IsTracklet t set h).two in
    omega (arith, two, length-append t (spots_of set), two_each set (All-tail IsTracklet t set h))

pub all_spots : (P : SpotData → Type 0) (set : TrackSetData) → All (All P) set → All P (spots_of set)
all_spots P [] h = All-nil P
all_spots P (t ∷ set) h = All-append P t (spots_of set) (All-head (All P) t set h) (all_spots P set (All-tail (All P) t set h))
