-- The spots of a choice of tracklets: they are spots of the nights, their epochs rise over less than an arc may last, and they tell the choice.
use Rattle.std.proofs.Common.{◌≡◌, ◌≤◌, ◌<ℤ◌, List, [], ◌∷◌, ◌++◌, length, get_or, refl, sym, subst, ap, ◌∙◌, arith}
use Rattle.std.proofs.lemmas.Int.{ints}
use Rattle.std.proofs.lemmas.List.Elements.{All-contains, All-head, All-tail, Contains-get_or, Contains-append_left, Contains-append_right, Contains-append_cases}
use Rattle.std.specs.List.{All, Contains}
use mathlib.Core.Logic.{inl, inr}
use Rattle.sky_units.proofs.RisingLists.{rising_across}
use Rattle.sky_units.specs.Arcs.{HaveRisingEpochs, IsArc, MeetSpreadRule}
use Rattle.sky_units.specs.SpotData.{SpotData}
use Rattle.sky_units.specs.TrackletData.{TrackletData, TrackSetData, NightTracklets, IsTracklet, spots_of}
use Rattle.sky_units.specs.Tracks.{AreAmong, AreNights, IsChoice, IsHeld, IsNightBefore, IsOfNight}
use Rattle.set_grow.proofs.Members.{among, each_two_head, each_two_tail, front_or_rest, in_front, in_none, in_rest, same_members}

-- ---- the first of some nights, and the others
pub held_here : (night : NightTracklets) (nights : List NightTracklets) (spot : SpotData) → IsOfNight night spot → IsHeld (night ∷ nights) spot
held_here night nights spot o = (night, (0, omega arith, refl), o)

pub held_later : (night : NightTracklets) (nights : List NightTracklets) (spot : SpotData) → IsHeld nights spot → IsHeld (night ∷ nights) spot
held_later night nights spot w = (w.0, Contains-append_right (night ∷ []) nights w.0 w.1, w.2)

pub nights_tail : (night : NightTracklets) (nights : List NightTracklets) → AreNights (night ∷ nights) → AreNights nights
nights_tail night nights a = record {
  tracklets = All-tail (All IsTracklet) night nights a.tracklets;
  follow = each_two_tail IsNightBefore night nights a.follow;
  short = λ s t p q. a.short s t (held_later night nights s p) (held_later night nights t q);
  numbered = λ s t p q. a.numbered s t (held_later night nights s p) (held_later night nights t q);
}

-- a spot of the first night is before each of the later ones
pub before_held : (night : NightTracklets) (nights : List NightTracklets) (spot later : SpotData) → AreNights (night ∷ nights) → IsOfNight night spot → IsHeld nights later → spot.epoch <ℤ later.epoch
before_held night nights spot later a o w =
    let before : IsNightBefore night w.0 = All-contains (IsNightBefore night) nights w.0 (each_two_head IsNightBefore night nights a.follow) w.1 in
    before spot later o w.2

-- a tracklet of a night has a first spot
pub first_spot : (night : NightTracklets) (nights : List NightTracklets) (tracklet : TrackletData) → AreNights (night ∷ nights) → Contains night tracklet → (spot : SpotData) × Contains tracklet spot
first_spot night nights [] a k =
    let one : IsTracklet [] = All-contains IsTracklet night [] (All-head (All IsTracklet) night nights a.tracklets) k in
    let two : 2 ≤ length {A = SpotData} [] = one.two in
    absurd (omega arith)
first_spot night nights (s ∷ tracklet) a k = (s, in_front s tracklet)

-- ---- the spots of some tracklets
pub in_spots : (set : TrackSetData) (tracklet : TrackletData) (spot : SpotData) → Contains set tracklet → Contains tracklet spot → Contains (spots_of set) spot
in_spots [] tracklet spot c s = absurd (in_none tracklet c)
in_spots (first ∷ set) tracklet spot c s = elim (front_or_rest first set tracklet c) [
  | inl e ↦ Contains-append_left first (spots_of set) spot (subst (λ t. Contains t spot) (sym e) s)
  | inr d ↦ Contains-append_right first (spots_of set) spot (in_spots set tracklet spot d s)
]

pub of_spots : (set : TrackSetData) (spot : SpotData) → Contains (spots_of set) spot → (tracklet : TrackletData) × Contains set tracklet × Contains tracklet spot
of_spots [] spot c = absurd (in_none spot c)
of_spots (first ∷ set) spot c = elim (Contains-append_cases first (spots_of set) spot c) [
  | inl d ↦ (first, in_front first set, d)
  | inr d ↦ (let w = of_spots set spot d in (w.0, in_rest first set w.0 w.1, w.2))
]

-- ---- the spots of a choice are spots of the nights
pub held_of_choice : (nights : List NightTracklets) (set : TrackSetData) → IsChoice nights set → (spot : SpotData) → Contains (spots_of set) spot → IsHeld nights spot
held_of_choice [] set e spot c = absurd (in_none spot (subst (λ s. Contains (spots_of s) spot) e c))
held_of_choice (night ∷ nights) set (inl d) spot c = held_later night nights spot (held_of_choice nights set d spot c)
held_of_choice (night ∷ nights) set (inr w) spot c =
    let d : Contains (w.0 ++ spots_of w.1) spot = subst (λ s. Contains (spots_of s) spot) w.3 c in
    elim (Contains-append_cases w.0 (spots_of w.1) spot d) [
      | inl a ↦ held_here night nights spot (w.0, w.2, a)
      | inr b ↦ held_later night nights spot (held_of_choice nights w.1 w.4 spot b)
    ]

-- ---- their epochs rise
pub rising_of_choice : (nights : List NightTracklets) (set : TrackSetData) → AreNights nights → IsChoice nights set → HaveRisingEpochs (spots_of set)
rising_of_choice [] set a e = subst (λ s. HaveRisingEpochs (spots_of s)) (sym e) (λ i j d ij jn. absurd (omega arith))
rising_of_choice (night ∷ nights) set a (inl c) = rising_of_choice nights set (nights_tail night nights a) c
rising_of_choice (night ∷ nights) set a (inr w) =
    let one : IsTracklet w.0 = All-contains IsTracklet night w.0 (All-head (All IsTracklet) night nights a.tracklets) w.2 in
    let rest : HaveRisingEpochs (spots_of w.1) = rising_of_choice nights w.1 (nights_tail night nights a) w.4 in
    let whole : HaveRisingEpochs (w.0 ++ spots_of w.1) = rising_across w.0 (spots_of w.1) one.rising rest (λ i j d il jl.
    before_held night nights (get_or w.0 i d) (get_or (spots_of w.1) j d) a
    (w.0, w.2, Contains-get_or w.0 i d il)
    (held_of_choice nights w.1 w.4 (get_or (spots_of w.1) j d) (Contains-get_or (spots_of w.1) j d jl))) in
    subst (λ s. HaveRisingEpochs (spots_of s)) (sym w.3) whole

-- a choice whose spots meet the spread rule is an arc
pub arc_of_choice : (nights : List NightTracklets) (set : TrackSetData) → AreNights nights → IsChoice nights set → MeetSpreadRule (spots_of set) → IsArc (spots_of set)
arc_of_choice nights set a c spread = record {
  rising = rising_of_choice nights set a c;
  short = λ i j d ij jl. a.short (get_or (spots_of set) i d) (get_or (spots_of set) j d)
      (held_of_choice nights set c (get_or (spots_of set) i d) (Contains-get_or (spots_of set) i d (omega arith)))
      (held_of_choice nights set c (get_or (spots_of set) j d) (Contains-get_or (spots_of set) j d jl));
  spread = spread;
}

-- ---- the spots tell the choice
same_split : (P : SpotData → Type 0) (xs ys us vs : List SpotData) → All P xs → All P us → All (λ s. ¬ P s) ys → All (λ s. ¬ P s) vs → xs ++ ys ≡ us ++ vs → (xs ≡ us) × (ys ≡ vs)
same_split P [] ys [] vs px pu py pv e = (refl, e)
same_split P [] ys (u ∷ us) vs px pu py pv e =
    let no : All (λ s. ¬ P s) (u ∷ (us ++ vs)) = subst (All (λ s. ¬ P s)) e py in
    absurd (All-head (λ s. ¬ P s) u (us ++ vs) no (All-head P u us pu))
same_split P (x ∷ xs) ys [] vs px pu py pv e =
    let no : All (λ s. ¬ P s) (x ∷ (xs ++ ys)) = subst (All (λ s. ¬ P s)) (sym e) pv in
    absurd (All-head (λ s. ¬ P s) x (xs ++ ys) no (All-head P x xs px))
same_split P (x ∷ xs) ys (u ∷ us) vs px pu py pv e =
    let first : x ≡ u = cc in
    let others : xs ++ ys ≡ us ++ vs = cc in
    let rest = same_split P xs ys us vs (All-tail P x xs px) (All-tail P u us pu) py pv others in
    let same : xs ≡ us = rest.0 in
    let joined : x ∷ xs ≡ u ∷ us = cc in
    (joined, rest.1)

all_of_night : (night : NightTracklets) (tracklet : TrackletData) → Contains night tracklet → All (IsOfNight night) tracklet
all_of_night night tracklet c = λ k d l. (tracklet, c, Contains-get_or tracklet k d l)

none_of_night : (night : NightTracklets) (nights : List NightTracklets) (set : TrackSetData) → AreNights (night ∷ nights) → IsChoice nights set → All (λ s. ¬ IsOfNight night s) (spots_of set)
none_of_night night nights set a c = λ k d l o.
    let spot : SpotData = get_or (spots_of set) k d in
    let b : spot.epoch <ℤ spot.epoch = before_held night nights spot spot a o (held_of_choice nights set c spot (Contains-get_or (spots_of set) k d l)) in
    omega (arith, ints, b)

-- a tracklet of the first night has a spot that no choice of the later nights has
not_without : (night : NightTracklets) (nights : List NightTracklets) (tracklet : TrackletData) (rest set : TrackSetData) → AreNights (night ∷ nights) → Contains night tracklet → IsChoice nights set → spots_of set ≡ tracklet ++ spots_of rest → ⊥
not_without night nights tracklet rest set a k c e =
    let s = first_spot night nights tracklet a k in
    let here : Contains (spots_of set) s.0 = subst (λ spots. Contains spots s.0) (sym e) (Contains-append_left tracklet (spots_of rest) s.0 s.1) in
    All-contains (λ s. ¬ IsOfNight night s) (spots_of set) s.0 (none_of_night night nights set a c) here (tracklet, k, s.1)

pub same_choice : (nights : List NightTracklets) (one other : TrackSetData) → AreNights nights → IsChoice nights one → IsChoice nights other → spots_of one ≡ spots_of other → one ≡ other
same_choice [] one other a c d e = c ∙ sym d
same_choice (night ∷ nights) one other a (inl c) (inl d) e = same_choice nights one other (nights_tail night nights a) c d e
same_choice (night ∷ nights) one other a (inl c) (inr w) e = absurd (not_without night nights w.0 w.1 one a w.2 c (e ∙ ap spots_of w.3))
same_choice (night ∷ nights) one other a (inr v) (inl d) e = absurd (not_without night nights v.0 v.1 other a v.2 d (sym e ∙ ap spots_of v.3))
same_choice (night ∷ nights) one other a (inr v) (inr w) e =
    let spots : v.0 ++ spots_of v.1 ≡ w.0 ++ spots_of w.1 = sym (ap spots_of v.3) ∙ (e ∙ ap spots_of w.3) in
    let parts = same_split (IsOfNight night) v.0 (spots_of v.1) w.0 (spots_of w.1) (all_of_night night v.0 v.2) (all_of_night night w.0 w.2) (none_of_night night nights v.1 a v.4) (none_of_night night nights w.1 a w.4) spots in
    let first : v.0 ≡ w.0 = parts.0 in
    let rest : v.1 ≡ w.1 = same_choice nights v.1 w.1 (nights_tail night nights a) v.4 w.4 parts.1 in
    let whole : v.0 ∷ v.1 ≡ w.0 ∷ w.1 = cc in
    v.3 ∙ (whole ∙ sym w.3)

-- two choices with the same spots are one
pub same_by_spots : (nights : List NightTracklets) (one other : TrackSetData) → AreNights nights → IsChoice nights one → IsChoice nights other → AreAmong (spots_of one) (spots_of other) → AreAmong (spots_of other) (spots_of one) → one ≡ other
same_by_spots nights one other a c d there back =
    let spots : spots_of one ≡ spots_of other = same_members (λ (x y : SpotData). x.epoch <ℤ y.epoch) (λ x y p q. omega (arith, ints, p, q)) (spots_of one) (spots_of other)
    (rising_of_choice nights one a c) (rising_of_choice nights other a d)
    (λ x k. among (spots_of one) (spots_of other) x there k)
    (λ x k. among (spots_of other) (spots_of one) x back k) in
    same_choice nights one other a c d spots
