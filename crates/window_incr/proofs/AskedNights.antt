-- The asked spots, night by night: where those of each night are one of its tracklets, they are a choice of tracklets.
use Rattle.std.proofs.Common.{◌≡◌, ℕ, ◌+◌, ◌<◌, ◌≤◌, ℤ, Bool, true, false, not, ◌&&◌, Option, Some, None, List, [], ◌∷◌, ◌++◌, map, length, take, drop, pos, get_or, refl, sym, ap, ap₂, ◌∙◌, subst, append-nil, length-append, append_assoc, arith}
use Rattle.std.specs.Prelude.{nat_eq}
use Rattle.std.specs.Cmp.Lexicographic.{pointwise, bytes_decides}
use Rattle.std.specs.List.{All, Contains, filter, find, list_any}
use Rattle.std.proofs.lemmas.Bool.{cases_Bool, false≢true}
use Rattle.std.proofs.lemmas.List.{map-append, take_all, take-append-drop, length-map, get_or-map, get_or_default}
use Rattle.std.proofs.lemmas.List.Elements.{All-append, All-cons, All-nil, All-contains, All-contains_itself, All-filter, All-head, All-tail, filter-append}
use mathlib.Core.Logic.{inl, inr}
use Rattle.exposure_log.specs.Held.{LogData, spots_of_night}
use Rattle.exposure_log.specs.Orderly.{IsOrderly}
use Rattle.night_tree.specs.Nights.{NightData, tracklets_of, tracklets_of_each}
use Rattle.night_tree.proofs.NightTracklets.{tracklets_are_of}
use Rattle.sky_units.specs.SpotData.{SpotData}
use Rattle.sky_units.specs.TrackletData.{TrackletData, TrackSetData, NightTracklets, spots_of}
use Rattle.sky_units.specs.Tracks.{IsChoice}
use Rattle.plain_tracks.proofs.Choices.{same_by_numbers}
use Rattle.plain_tracks.proofs.Entries.{in_front, in_rest}
use Rattle.plain_tracks.proofs.Steps.{spots_of-push, taken}
use Rattle.kept_nights.specs.KeptNights.{held_nights, night_data, nights_of}
use Rattle.kept_nights.proofs.HeldNights.{IsSpotOf, each_is, here, held_spot, one_spot, spots_are_of}
use Rattle.window_incr.specs.Asked.{are_some, are_untracked, has_number, asked_of, asked_set, first_untracked, is_asked, is_untracked, labels}
use Rattle.window_incr.specs.Asking.{AreAsked, AreNumbersOf, IsFound, one_if_some}
use Rattle.window_incr.specs.LinkerState.{LinkerState}
use Rattle.window_incr.proofs.AskedNumbers.{asked_by_number}

-- ---- a choice of tracklets

spots_held : (log : LogData) (night : ℤ) (spots : List SpotData) → All (IsSpotOf log night) spots → (x : SpotData) → Contains spots x → IsSpotOf log night x
spots_held log night spots all x c = All-contains (IsSpotOf log night) spots x all c

-- asked spots that have the numbers of a tracklet are it
among_tracklets : (s : LinkerState) (night : ℤ) (asked : List SpotData) (list : NightTracklets) → IsOrderly s.log → All (IsSpotOf s.log night) asked → All (All (IsSpotOf s.log night)) list
    → list_any (λ (tracklet : List SpotData). pointwise nat_eq (labels tracklet) (labels asked)) list ≡ true → Contains list asked
among_tracklets s night asked [] o mine all t = absurd (false≢true t)
among_tracklets s night asked (x ∷ list) o mine all t = elim (cases_Bool (pointwise nat_eq (labels x) (labels asked))) [
  | inl y ↦
      let held = All-head (All (IsSpotOf s.log night)) x list all in
      let same : x ≡ asked = same_by_numbers x asked (λ a b p q e.
      one_spot s.log.exposures a b o.numbers (held_spot s.log night a (spots_held s.log night x held a p)) (held_spot s.log night b (spots_held s.log night asked mine b q)) e)
      ((bytes_decides (labels x) (labels asked)).0 y) in
      subst (Contains (x ∷ list)) same (in_front x list)
  | inr f ↦ in_rest x list asked (among_tracklets s night asked list o mine (All-tail (All (IsSpotOf s.log night)) x list all) (rw f at t))
]

asked_are_of : (log : LogData) (ids : List (List ℕ)) (night : ℤ) → All (IsSpotOf log night) (asked_of log ids night)
asked_are_of log ids night = All-filter (is_asked log ids) (IsSpotOf log night) (spots_of_night log night) (spots_are_of log night)

tracklets_held : (s : LinkerState) (night : ℤ) → All (All (IsSpotOf s.log night)) (here s night)
tracklets_held s night =
    let spots : List SpotData = spots_of_night s.log night in
    λ k t l i x m. All-contains (IsSpotOf s.log night) spots (get_or (get_or (here s night) k t) i x) (spots_are_of s.log night) (tracklets_are_of s.settings spots k t l i x m)

not_false : (b : Bool) → not b ≡ false → b ≡ true
not_false true e = refl
not_false false e = absurd (false≢true (sym e))

-- the asked spots of some nights
abbrev pub asked_in : LogData → List (List ℕ) → List ℤ → TrackSetData
asked_in log ids nights = filter are_some (map (asked_of log ids) nights)

abbrev pub AreTracked : LinkerState → List (List ℕ) → List ℤ → Type 0
AreTracked s ids nights = All (λ night. is_untracked s ids night ≡ false) nights

choice_more : (s : LinkerState) (ids : List (List ℕ)) (night : ℤ) (nights : List ℤ) (asked : List SpotData) → IsOrderly s.log → asked_of s.log ids night ≡ asked → are_untracked asked (here s night) ≡ false
    → IsChoice (map (here s) nights) (asked_in s.log ids nights) → IsChoice (map (here s) (night ∷ nights)) (asked_in s.log ids (night ∷ nights))
choice_more s ids night nights [] o e f rest = rw e (inl rest)
choice_more s ids night nights (spot ∷ asked) o e f rest =
    let mine : All (IsSpotOf s.log night) (spot ∷ asked) = subst (All (IsSpotOf s.log night)) e (asked_are_of s.log ids night) in
    let one : Contains (here s night) (spot ∷ asked) = among_tracklets s night (spot ∷ asked) (here s night) o mine (tracklets_held s night) (not_false _ f) in
    rw e (inr (spot ∷ asked, asked_in s.log ids nights, one, refl, rest))

choice_in : (s : LinkerState) (ids : List (List ℕ)) (nights : List ℤ) → IsOrderly s.log → AreTracked s ids nights → IsChoice (map (here s) nights) (asked_in s.log ids nights)
choice_in s ids [] o tracked = refl
choice_in s ids (night ∷ nights) o tracked =
    choice_more s ids night nights (asked_of s.log ids night) o refl (All-head (λ n. is_untracked s ids n ≡ false) night nights tracked)
    (choice_in s ids nights o (All-tail (λ n. is_untracked s ids n ≡ false) night nights tracked))

none_found_all : {X : Type 0} (p : X → Bool) (xs : List X) → find p xs ≡ None → All (λ x. p x ≡ false) xs
none_found_all p [] e = All-nil (λ x. p x ≡ false)
none_found_all p (x ∷ xs) e = elim (cases_Bool (p x)) [
  | inl t ↦ (let first : Some x ≡ None = rw t at e in cc)
  | inr f ↦ All-cons (λ y. p y ≡ false) x xs f (none_found_all p xs (rw f at e))
]

pub is_choice : (s : LinkerState) (ids : List (List ℕ)) → IsOrderly s.log → first_untracked s ids ≡ None → IsChoice (tracklets_of_each (nights_of s)) (asked_set s.log ids)
is_choice s ids o none =
    subst (λ nights. IsChoice nights (asked_set s.log ids)) (sym (each_is s)) (choice_in s ids (held_nights s.log) o (none_found_all (is_untracked s ids) (held_nights s.log) none))

-- ---- the loop over the nights

all_found : {X : Type 0} (p : X → Bool) (xs : List X) → All (λ x. p x ≡ false) xs → find p xs ≡ None
all_found p [] h = refl
all_found p (x ∷ xs) h = rw (All-head (λ y. p y ≡ false) x xs h) (all_found p xs (All-tail (λ y. p y ≡ false) x xs h))

first_of : {X : Type 0} (p : X → Bool) (xs ys : List X) (x : X) → All (λ y. p y ≡ false) xs → p x ≡ true → find p (xs ++ x ∷ ys) ≡ Some x
first_of p [] ys x h t = rw t refl
first_of p (z ∷ xs) ys x h t = rw (All-head (λ y. p y ≡ false) z xs h) (first_of p xs ys x (All-tail (λ y. p y ≡ false) z xs h) t)

-- the nights so far
pub record SoFar (s : LinkerState) (ids : List (List ℕ)) (seen : List ℤ) (count : ℕ) (spots : List SpotData) : Type 0 where
  pub tracked : AreTracked s ids seen
  pub count_is : count ≡ length (asked_in s.log ids seen)
  pub spots_are : spots ≡ spots_of (asked_in s.log ids seen)

pub none_seen : (s : LinkerState) (ids : List (List ℕ)) → SoFar s ids [] 0 []
none_seen s ids = record { tracked = All-nil (λ n. is_untracked s ids n ≡ false); count_is = refl; spots_are = refl }

kept_if_some : (spots : List SpotData) → (length (filter are_some (spots ∷ [])) ≡ one_if_some spots) × (spots_of (filter are_some (spots ∷ [])) ≡ spots)
kept_if_some [] = (refl, refl)
kept_if_some (spot ∷ spots) = (refl, append-nil (spot ∷ spots))

spots_of-append : (xs ys : TrackSetData) → spots_of (xs ++ ys) ≡ spots_of xs ++ spots_of ys
spots_of-append [] ys = refl
spots_of-append (x ∷ xs) ys = ap (λ zs. x ++ zs) (spots_of-append xs ys) ∙ sym (append_assoc x (spots_of xs) (spots_of ys))

pub one_seen : (s : LinkerState) (ids : List (List ℕ)) (seen : List ℤ) (night : ℤ) (count : ℕ) (spots : List SpotData) → SoFar s ids seen count spots → is_untracked s ids night ≡ false
    → SoFar s ids (seen ++ night ∷ []) (count + one_if_some (asked_of s.log ids night)) (spots ++ asked_of s.log ids night)
one_seen s ids seen night count spots so fails =
    let mine : List SpotData = asked_of s.log ids night in
    let sets : TrackSetData = map (asked_of s.log ids) seen in
    let kept = kept_if_some mine in
    let split : asked_in s.log ids (seen ++ night ∷ []) ≡ asked_in s.log ids seen ++ filter are_some (mine ∷ []) =
    ap (filter are_some) (map-append (asked_of s.log ids) seen (night ∷ [])) ∙ filter-append are_some sets (mine ∷ []) in
    record {
      tracked = All-append (λ n. is_untracked s ids n ≡ false) seen (night ∷ []) so.tracked (All-cons (λ n. is_untracked s ids n ≡ false) night [] fails (All-nil (λ n. is_untracked s ids n ≡ false)));
      count_is = sym (ap length split ∙ (length-append (asked_in s.log ids seen) (filter are_some (mine ∷ [])) ∙ ap₂ (λ (a b : ℕ). a + b) (sym so.count_is) kept.0));
      spots_are = sym (ap spots_of split ∙ (spots_of-append (asked_in s.log ids seen) (filter are_some (mine ∷ [])) ∙ ap₂ (λ (a b : List SpotData). a ++ b) (sym so.spots_are) kept.1));
    }

-- the night at a place
pub record IsNightAt (s : LinkerState) (i : ℕ) (x : NightData) : Type 0 where
  pub night : ℤ
  pub is : x ≡ night_data s night
  pub seen : take (i + 1) (held_nights s.log) ≡ take i (held_nights s.log) ++ night ∷ []
  pub all : held_nights s.log ≡ take i (held_nights s.log) ++ night ∷ drop (i + 1) (held_nights s.log)

pub night_at_place : (s : LinkerState) (nights : List NightData) (i : ℕ) (x : NightData) → nights ≡ nights_of s → i < length nights → x ≡ get_or nights i x → IsNightAt s i x
night_at_place s nights i x kept l e =
    let hs : List ℤ = held_nights s.log in
    let h : i < length hs = omega (arith, l, ap length kept, length-map hs (night_data s)) in
    let night : ℤ = get_or hs i (pos 0) in
    let same : night ≡ get_or hs i night = get_or_default hs i (pos 0) night h in
    let seen : take (i + 1) hs ≡ take i hs ++ night ∷ [] = taken hs i night h same in
    record {
      night = night;
      is = e ∙ (ap (λ (ns : List NightData). get_or ns i x) kept ∙ get_or-map (night_data s) hs i (pos 0) x h);
      seen = seen;
      all = sym (take-append-drop (i + 1) hs) ∙ (ap (λ (ns : List ℤ). ns ++ drop (i + 1) hs) seen ∙ append_assoc (take i hs) (night ∷ []) (drop (i + 1) hs));
    }

-- what a night's spots are, by the numbers of the asked ids
pub spots_are_asked : (log : LogData) (nights : List NightData) (numbers : List ℕ) (s : LinkerState) (ids : List (List ℕ)) (night : ℤ) → AreAsked log nights numbers s ids
    → filter (λ (spot : SpotData). has_number numbers spot.num) (spots_of_night log night) ≡ asked_of s.log ids night
spots_are_asked log nights numbers s ids night a =
    let here = subst (λ l. AreNumbersOf l ids numbers) (sym a.log_is) a.numbers_are in
    ap (λ l. filter (λ (spot : SpotData). has_number numbers spot.num) (spots_of_night l night)) (sym a.log_is) ∙ asked_by_number s.log ids numbers night a.sound.orderly here

not_true : (b : Bool) → not b ≡ true → b ≡ false
not_true true e = absurd (false≢true e)
not_true false e = refl

-- one more night, which is tracked
pub night_seen : (log : LogData) (nights : List NightData) (numbers : List ℕ) (s : LinkerState) (ids : List (List ℕ)) (i count count' : ℕ) (x : NightData) (spots spots' mine : List SpotData) (tracked : Bool)
    → AreAsked log nights numbers s ids → i < length nights → x ≡ get_or nights i x → mine ≡ filter (λ (spot : SpotData). has_number numbers spot.num) (spots_of_night log x.number)
    → tracked ≡ not (are_untracked mine x.tracklets) → tracked ≡ true → count' ≡ count + one_if_some mine → spots' ≡ spots ++ mine
    → SoFar s ids (take i (held_nights s.log)) count spots → SoFar s ids (take (i + 1) (held_nights s.log)) count' spots'
night_seen log nights numbers s ids i count count' x spots spots' mine tracked a l e m t passes c p so =
    let n = night_at_place s nights i x a.kept l e in
    let number : x.number ≡ n.night = ap (λ (y : NightData). y.number) n.is in
    let asked : mine ≡ asked_of s.log ids n.night = m ∙ (ap (λ k. filter (λ (spot : SpotData). has_number numbers spot.num) (spots_of_night log k)) number ∙ spots_are_asked log nights numbers s ids n.night a) in
    let fails : is_untracked s ids n.night ≡ false = ap₂ are_untracked (sym asked) (sym (ap (λ (y : NightData). y.tracklets) n.is)) ∙ not_true (are_untracked mine x.tracklets) (sym t ∙ passes) in
    rw (n.seen, c, p, asked) (one_seen s ids (take i (held_nights s.log)) n.night count spots so fails)

-- a night that isn't
pub night_untracked : (log : LogData) (nights : List NightData) (numbers : List ℕ) (s : LinkerState) (ids : List (List ℕ)) (i count : ℕ) (x : NightData) (spots mine : List SpotData) (tracked : Bool)
    → AreAsked log nights numbers s ids → i < length nights → x ≡ get_or nights i x → mine ≡ filter (λ (spot : SpotData). has_number numbers spot.num) (spots_of_night log x.number)
    → tracked ≡ not (are_untracked mine x.tracklets) → tracked ≡ false → SoFar s ids (take i (held_nights s.log)) count spots → first_untracked s ids ≡ Some x.number
night_untracked log nights numbers s ids i count x spots mine tracked a l e m t fails so =
    let n = night_at_place s nights i x a.kept l e in
    let number : x.number ≡ n.night = ap (λ (y : NightData). y.number) n.is in
    let asked : mine ≡ asked_of s.log ids n.night = m ∙ (ap (λ k. filter (λ (spot : SpotData). has_number numbers spot.num) (spots_of_night log k)) number ∙ spots_are_asked log nights numbers s ids n.night a) in
    let here : is_untracked s ids n.night ≡ true = ap₂ are_untracked (sym asked) (sym (ap (λ (y : NightData). y.tracklets) n.is)) ∙ not_false (are_untracked mine x.tracklets) (sym t ∙ fails) in
    ap (find (is_untracked s ids)) n.all ∙ (first_of (is_untracked s ids) (take i (held_nights s.log)) (drop (i + 1) (held_nights s.log)) n.night so.tracked here ∙ ap (λ (k : ℤ). Some k) (sym number))

-- all nights are seen
pub all_seen : (s : LinkerState) (ids : List (List ℕ)) (nights : List NightData) (i count : ℕ) (spots : List SpotData) → nights ≡ nights_of s → length nights ≤ i → SoFar s ids (take i (held_nights s.log)) count spots
    → (first_untracked s ids ≡ None) × (count ≡ length (asked_set s.log ids)) × (spots ≡ spots_of (asked_set s.log ids))
all_seen s ids nights i count spots kept l so =
    let hs : List ℤ = held_nights s.log in
    let whole : take i hs ≡ hs = take_all i hs (omega (arith, l, ap length kept, length-map hs (night_data s))) in
    let all : SoFar s ids hs count spots = subst (λ (seen : List ℤ). SoFar s ids seen count spots) whole so in
    (all_found (is_untracked s ids) hs all.tracked, all.count_is, all.spots_are)

pub at_most_one : (spots : List SpotData) → one_if_some spots ≤ 1
at_most_one [] = omega arith
at_most_one (spot ∷ spots) = omega arith
