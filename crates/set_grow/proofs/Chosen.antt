-- Choices of numbered tracklets: as choices of tracklets, narrowed to some of them, all of them in one list, and by their numbers.
use Rattle.std.proofs.Common.{◌≡◌, ℕ, ◌<ℤ◌, List, [], ◌∷◌, ◌++◌, map, get_or, refl, sym, subst, ap, ◌∙◌, arith}
use Rattle.std.proofs.lemmas.Int.{ints}
use Rattle.std.proofs.lemmas.List.Elements.{All-contains, Contains-append_left, Contains-append_right, Contains-append_cases, Contains-get_or}
use Rattle.std.specs.List.{Contains}
use mathlib.Core.Logic.{inl, inr}
use Rattle.sky_math.specs.Lists.{EachTwo}
use Rattle.sky_units.specs.TrackletData.{TrackletData, TrackSetData}
use Rattle.sky_units.specs.Tracks.{AreAmong, AreNights, IsChoice}
use Rattle.set_grow.specs.Numbered.{AreNumbered, IsNumberedChoice, IsNumberedIn, NumberedTracklet, NumberedTracklets, numbers_in, tracklets_in, without_numbers}
use Rattle.set_grow.proofs.Choices.{before_held, first_spot, nights_tail}
use Rattle.set_grow.proofs.Members.{IsDecided, each_two_cons, front_or_rest, in_front, in_mapped, in_none, in_rest, of_mapped}

-- ---- a tracklet of a choice is a tracklet of a night
numbered_later : (night : NumberedTracklets) (nights : List NumberedTracklets) (one : NumberedTracklet) → IsNumberedIn nights one → IsNumberedIn (night ∷ nights) one
numbered_later night nights one w = (w.0, in_rest night nights w.0 w.1, w.2)

pub chosen_in : (nights : List NumberedTracklets) (chosen : NumberedTracklets) (one : NumberedTracklet) → IsNumberedChoice nights chosen → Contains chosen one → IsNumberedIn nights one
chosen_in [] chosen one e c = absurd (in_none one (subst (λ list. Contains list one) e c))
chosen_in (night ∷ nights) chosen one (inl d) c = numbered_later night nights one (chosen_in nights chosen one d c)
chosen_in (night ∷ nights) chosen one (inr w) c = elim (front_or_rest w.0 w.1 one (subst (λ list. Contains list one) w.3 c)) [
  | inl e ↦ (night, in_front night nights, subst (Contains night) e w.2)
  | inr d ↦ numbered_later night nights one (chosen_in nights w.1 one w.4 d)
]

-- ---- numbered choices and choices
pub plain_choice : (nights : List NumberedTracklets) (chosen : NumberedTracklets) → IsNumberedChoice nights chosen → IsChoice (tracklets_in nights) (without_numbers chosen)
plain_choice [] chosen e = ap without_numbers e
plain_choice (night ∷ nights) chosen (inl c) = inl (plain_choice nights chosen c)
plain_choice (night ∷ nights) chosen (inr w) = inr (w.0.tracklet, without_numbers w.1, in_mapped (λ (one : NumberedTracklet). one.tracklet) night w.0 w.2, ap without_numbers w.3, plain_choice nights w.1 w.4)

pub numbered_choice : (nights : List NumberedTracklets) (set : TrackSetData) → IsChoice (tracklets_in nights) set → (chosen : NumberedTracklets) × IsNumberedChoice nights chosen × (set ≡ without_numbers chosen)
numbered_choice [] set e = ([], refl, e)
numbered_choice (night ∷ nights) set (inl c) = let w = numbered_choice nights set c in (w.0, inl w.1, w.2)
numbered_choice (night ∷ nights) set (inr v) =
    let first = of_mapped (λ (one : NumberedTracklet). one.tracklet) night v.0 v.2 in
    let rest = numbered_choice nights v.1 v.4 in
    let head : v.0 ≡ first.0.tracklet = sym first.2 in
    let tail : v.1 ≡ without_numbers rest.0 = rest.2 in
    let whole : v.0 ∷ v.1 ≡ first.0.tracklet ∷ without_numbers rest.0 = cc in
    (first.0 ∷ rest.0, inr (first.0, rest.0, first.1, refl, rest.1), v.3 ∙ whole)

-- ---- those of a choice that have a property are a choice
pub record Narrowed (nights : List NumberedTracklets) (P : NumberedTracklet → Type 0) (chosen : NumberedTracklets) : Type 0 where
  pub list : NumberedTracklets
  pub choice : IsNumberedChoice nights list
  pub from : (one : NumberedTracklet) → Contains list one → Contains chosen one
  pub passes : (one : NumberedTracklet) → Contains list one → P one
  pub all : (one : NumberedTracklet) → Contains chosen one → P one → Contains list one

pub narrowed : (nights : List NumberedTracklets) (P : NumberedTracklet → Type 0) (chosen : NumberedTracklets) → ((one : NumberedTracklet) → IsDecided (P one)) → IsNumberedChoice nights chosen → Narrowed nights P chosen
narrowed [] P chosen d e = record {
  list = [];
  choice = refl;
  from = λ one c. absurd (in_none one c);
  passes = λ one c. absurd (in_none one c);
  all = λ one c p. subst (λ list. Contains list one) e c;
}
narrowed (night ∷ nights) P chosen d (inl c) =
    let n = narrowed nights P chosen d c in
    record { list = n.list; choice = inl n.choice; from = n.from; passes = n.passes; all = n.all }
narrowed (night ∷ nights) P chosen d (inr w) =
    let n = narrowed nights P w.1 d w.4 in
    let here : (one : NumberedTracklet) → Contains (w.0 ∷ w.1) one → Contains chosen one = λ one k. subst (λ list. Contains list one) (sym w.3) k in
    elim (d w.0) [
      | inl p ↦ record {
        list = w.0 ∷ n.list;
        choice = inr (w.0, n.list, w.2, refl, n.choice);
        from = λ one k. elim (front_or_rest w.0 n.list one k) [ inl e ↦ here one (subst (Contains (w.0 ∷ w.1)) e (in_front w.0 w.1)) | inr l ↦ here one (in_rest w.0 w.1 one (n.from one l)) ];
        passes = λ one k. elim (front_or_rest w.0 n.list one k) [ inl e ↦ subst P e p | inr l ↦ n.passes one l ];
        all = λ one k q. elim (front_or_rest w.0 w.1 one (subst (λ list. Contains list one) w.3 k)) [ inl e ↦ subst (Contains (w.0 ∷ n.list)) e (in_front w.0 n.list) | inr l ↦ in_rest w.0 n.list one (n.all one l q) ];
      }
      | inr never ↦ record {
        list = n.list;
        choice = inl n.choice;
        from = λ one k. here one (in_rest w.0 w.1 one (n.from one k));
        passes = n.passes;
        all = λ one k q. elim (front_or_rest w.0 w.1 one (subst (λ list. Contains list one) w.3 k)) [ inl e ↦ absurd (never (subst P (sym e) q)) | inr l ↦ n.all one l q ];
      }
    ]

-- ---- all choices
pub record AllChoices (nights : List NumberedTracklets) : Type 0 where
  pub list : List NumberedTracklets
  pub sound : (chosen : NumberedTracklets) → Contains list chosen → IsNumberedChoice nights chosen
  pub complete : (chosen : NumberedTracklets) → IsNumberedChoice nights chosen → Contains list chosen

abbrev BeginsWith : NumberedTracklets → List NumberedTracklets → NumberedTracklets → Type 0
BeginsWith night sets chosen = (first : NumberedTracklet) × (rest : NumberedTracklets) × Contains night first × (chosen ≡ first ∷ rest) × Contains sets rest

record WithEach (night : NumberedTracklets) (sets : List NumberedTracklets) : Type 0 where
  list : List NumberedTracklets
  sound : (chosen : NumberedTracklets) → Contains list chosen → BeginsWith night sets chosen
  complete : (chosen : NumberedTracklets) → BeginsWith night sets chosen → Contains list chosen

with_each : (night : NumberedTracklets) (sets : List NumberedTracklets) → WithEach night sets
with_each [] sets = record { list = []; sound = λ chosen c. absurd (in_none chosen c); complete = λ chosen w. absurd (in_none w.0 w.2) }
with_each (first ∷ night) sets =
    let others = with_each night sets in
    let add : NumberedTracklets → NumberedTracklets = λ rest. first ∷ rest in
    let here : List NumberedTracklets = map add sets in
    record {
      list = here ++ others.list;
      sound = λ chosen c. elim (Contains-append_cases here others.list chosen c) [
        | inl d ↦ (let w = of_mapped add sets chosen d in (first, w.0, in_front first night, sym w.2, w.1))
        | inr d ↦ (let w = others.sound chosen d in (w.0, w.1, in_rest first night w.0 w.2, w.3, w.4))
      ];
      complete = λ chosen w. elim (front_or_rest first night w.0 w.2) [
        | inl e ↦
            let same : first ∷ w.1 ≡ chosen = subst (λ t. t ∷ w.1 ≡ chosen) (sym e) (sym w.3) in
            Contains-append_left here others.list chosen (subst (Contains here) same (in_mapped add sets w.1 w.4))
        | inr d ↦ Contains-append_right here others.list chosen (others.complete chosen (w.0, w.1, d, w.3, w.4))
      ];
    }

pub all_choices : (nights : List NumberedTracklets) → AllChoices nights
all_choices [] = record {
  list = [] ∷ [];
  sound = λ chosen c. elim (front_or_rest [] [] chosen c) [ inl e ↦ sym e | inr d ↦ absurd (in_none chosen d) ];
  complete = λ chosen e. subst (Contains ([] ∷ [])) (sym e) (in_front [] []);
}
all_choices (night ∷ nights) =
    let without = all_choices nights in
    let with = with_each night without.list in
    record {
      list = without.list ++ with.list;
      sound = λ chosen c. elim (Contains-append_cases without.list with.list chosen c) [
        | inl d ↦ inl (without.sound chosen d)
        | inr d ↦ (let w = with.sound chosen d in inr (w.0, w.1, w.2, w.3, without.sound w.1 w.4))
      ];
      complete = λ chosen c. elim c [
        | inl d ↦ Contains-append_left without.list with.list chosen (without.complete chosen d)
        | inr w ↦ Contains-append_right without.list with.list chosen (with.complete chosen (w.0, w.1, w.2, w.3, without.complete w.1 w.4))
      ];
    }

-- all numbers of some nights
abbrev pub all_numbers : List NumberedTracklets → List ℕ
all_numbers [] = []
all_numbers (night ∷ nights) = numbers_in night ++ all_numbers nights

pub in_all_numbers : (nights : List NumberedTracklets) (one : NumberedTracklet) → IsNumberedIn nights one → Contains (all_numbers nights) one.num
in_all_numbers [] one w = absurd (in_none w.0 w.1)
in_all_numbers (night ∷ nights) one w = elim (front_or_rest night nights w.0 w.1) [
  | inl e ↦ Contains-append_left (numbers_in night) (all_numbers nights) one.num (in_mapped (λ (one : NumberedTracklet). one.num) night one (subst (λ list. Contains list one) (sym e) w.2))
  | inr d ↦ Contains-append_right (numbers_in night) (all_numbers nights) one.num (in_all_numbers nights one (w.0, d, w.2))
]

-- ---- no two of a choice have one number
numbered_tail : (night : NumberedTracklets) (nights : List NumberedTracklets) → AreNumbered (night ∷ nights) → AreNumbered nights
numbered_tail night nights n = record {
  by_number = λ one other a b. n.by_number one other (numbered_later night nights one a) (numbered_later night nights other b);
  by_tracklet = λ one other a b. n.by_tracklet one other (numbered_later night nights one a) (numbered_later night nights other b);
}

-- no tracklet stands in the first night and in a later one
in_one_night : (night : NumberedTracklets) (nights : List NumberedTracklets) (one : NumberedTracklet) → AreNights (tracklets_in (night ∷ nights)) → Contains night one → IsNumberedIn nights one → ⊥
in_one_night night nights one a c w =
    let bare : NumberedTracklet → TrackletData = λ (one : NumberedTracklet). one.tracklet in
    let here : Contains (without_numbers night) one.tracklet = in_mapped bare night one c in
    let there : Contains (without_numbers w.0) one.tracklet = in_mapped bare w.0 one w.2 in
    let spot = first_spot (without_numbers night) (tracklets_in nights) one.tracklet a here in
    let itself : spot.0.epoch <ℤ spot.0.epoch = before_held (without_numbers night) (tracklets_in nights) spot.0 spot.0 a (one.tracklet, here, spot.1)
    (without_numbers w.0, in_mapped without_numbers nights w.0 w.1, (one.tracklet, there, spot.1)) in
    omega (arith, ints, itself)

pub different_numbers : (nights : List NumberedTracklets) (chosen : NumberedTracklets) → AreNights (tracklets_in nights) → AreNumbered nights → IsNumberedChoice nights chosen → EachTwo (λ one other. one ≡ other → ⊥) (numbers_in chosen)
different_numbers [] chosen a n e = subst (λ list. EachTwo (λ one other. one ≡ other → ⊥) (numbers_in list)) (sym e) (λ i j d ij jl. absurd (omega arith))
different_numbers (night ∷ nights) chosen a n (inl c) = different_numbers nights chosen (nights_tail (without_numbers night) (tracklets_in nights) a) (numbered_tail night nights n) c
different_numbers (night ∷ nights) chosen a n (inr w) =
    let rest = different_numbers nights w.1 (nights_tail (without_numbers night) (tracklets_in nights) a) (numbered_tail night nights n) w.4 in
    let new : (x : ℕ) → Contains (numbers_in w.1) x → w.0.num ≡ x → ⊥ = λ x c e.
    let other = of_mapped (λ (one : NumberedTracklet). one.num) w.1 x c in
    let later : IsNumberedIn nights other.0 = chosen_in nights w.1 other.0 w.4 other.1 in
    let same : w.0 ≡ other.0 = n.by_number w.0 other.0 (night, in_front night nights, w.2) (numbered_later night nights other.0 later) (e ∙ sym other.2) in
    in_one_night night nights w.0 a w.2 (subst (IsNumberedIn nights) (sym same) later) in
    subst (λ list. EachTwo (λ one other. one ≡ other → ⊥) (numbers_in list)) (sym w.3)
    (each_two_cons (λ one other. one ≡ other → ⊥) w.0.num (numbers_in w.1) (λ k d l. new (get_or (numbers_in w.1) k d) (Contains-get_or (numbers_in w.1) k d l)) rest)

-- two tracklets of one night that stand in one choice are the same
pub one_each : (nights : List NumberedTracklets) (chosen : NumberedTracklets) (night : NumberedTracklets) (one other : NumberedTracklet) → AreNights (tracklets_in nights) → IsNumberedChoice nights chosen → Contains nights night → Contains night one → Contains night other → Contains chosen one → Contains chosen other → one ≡ other
one_each [] chosen night one other a c k o p i j = absurd (in_none night k)
one_each (first ∷ nights) chosen night one other a (inl c) k o p i j = elim (front_or_rest first nights night k) [
  | inl e ↦ absurd (in_one_night first nights one a (subst (λ list. Contains list one) (sym e) o) (chosen_in nights chosen one c i))
  | inr later ↦ one_each nights chosen night one other (nights_tail (without_numbers first) (tracklets_in nights) a) c later o p i j
]
one_each (first ∷ nights) chosen night one other a (inr w) k o p i j =
    let i' : Contains (w.0 ∷ w.1) one = subst (λ list. Contains list one) w.3 i in
    let j' : Contains (w.0 ∷ w.1) other = subst (λ list. Contains list other) w.3 j in
    elim (front_or_rest first nights night k) [
      | inl e ↦ sym (is_first first nights w.0 w.1 one a w.4 (subst (λ list. Contains list one) (sym e) o) i') ∙ is_first first nights w.0 w.1 other a w.4 (subst (λ list. Contains list other) (sym e) p) j'
      | inr later ↦
          one_each nights w.1 night one other (nights_tail (without_numbers first) (tracklets_in nights) a) w.4 later o p
          (is_later first nights w.0 w.1 one a w.2 (night, later, o) i')
          (is_later first nights w.0 w.1 other a w.2 (night, later, p) j')
    ]
  where
    is_first : (first : NumberedTracklets) (nights : List NumberedTracklets) (head : NumberedTracklet) (rest : NumberedTracklets) (one : NumberedTracklet) → AreNights (tracklets_in (first ∷ nights)) → IsNumberedChoice nights rest → Contains first one → Contains (head ∷ rest) one → head ≡ one
    is_first first nights head rest one a c o i = elim (front_or_rest head rest one i) [ inl e ↦ e | inr d ↦ absurd (in_one_night first nights one a o (chosen_in nights rest one c d)) ]

    is_later : (first : NumberedTracklets) (nights : List NumberedTracklets) (head : NumberedTracklet) (rest : NumberedTracklets) (one : NumberedTracklet) → AreNights (tracklets_in (first ∷ nights)) → Contains first head → IsNumberedIn nights one → Contains (head ∷ rest) one → Contains rest one
    is_later first nights head rest one a h o i = elim (front_or_rest head rest one i) [ inl e ↦ absurd (in_one_night first nights one a (subst (Contains first) e h) o) | inr d ↦ d ]

-- ---- choices by their numbers
-- a number tells its tracklet
abbrev pub NumbersTell : List NumberedTracklets → Type 0
NumbersTell nights = (one other : NumberedTracklet) → IsNumberedIn nights one → IsNumberedIn nights other → one.num ≡ other.num → one ≡ other

-- where a choice has all numbers of another one, it has all its tracklets
pub same_numbers : (nights : List NumberedTracklets) (chosen wider : NumberedTracklets) → NumbersTell nights → IsNumberedChoice nights chosen → IsNumberedChoice nights wider → AreAmong (numbers_in chosen) (numbers_in wider) → (one : NumberedTracklet) → Contains chosen one → Contains wider one
same_numbers nights chosen wider n c d among_them one k =
    let there : Contains (numbers_in wider) one.num = All-contains (Contains (numbers_in wider)) (numbers_in chosen) one.num among_them (in_mapped (λ (one : NumberedTracklet). one.num) chosen one k) in
    let other = of_mapped (λ (one : NumberedTracklet). one.num) wider one.num there in
    subst (Contains wider) (n other.0 one (chosen_in nights wider other.0 d other.1) (chosen_in nights chosen one c k) other.2) other.1
