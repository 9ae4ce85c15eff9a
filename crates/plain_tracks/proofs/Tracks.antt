-- The sets of three or more tracklets, and which of them are maximal tracks.
use Rattle.std.proofs.Common.{◌≡◌, ◌<◌, ◌≤◌, pos, ◌<ℤ◌, Bool, true, false, cond, List, [], ◌∷◌, length, map, get_or, sym, subst, ap, ◌∙◌, ◌↔◌, IfOk, Ok, Err, Result, arith}
use Rattle.std.proofs.lemmas.Int.{ints}
use Rattle.std.proofs.lemmas.List.{get_or-map, length-map}
use Rattle.std.proofs.lemmas.List.Elements.{All-contains, All-contains_itself, All-filter, filter_passes, Contains-get_or, Contains-append_left, Contains-append_right, Contains-append_cases, Contains-push, Contains-push_cases}
use Rattle.std.specs.List.{Contains, filter}
use mathlib.Core.Logic.{inl, inr}
use Rattle.sky_units.specs.SettingsData.{SettingsData}
use Rattle.sky_units.specs.SpotData.{SpotData}
use Rattle.sky_units.specs.TrackletData.{TrackSetData, NightTracklets, spots_of}
use Rattle.sky_units.specs.Tracks.{AreAmong, AreNights, IsChoice, IsTrack, IsMaximalTrack, numbers_of}
use Rattle.plain_tracks.specs.Numbers.{AreDifferent, AreKnownByNumbers, HaveDifferentNumbers, IsMaximalAmong}
use Rattle.plain_tracks.proofs.Choices.{held_of_choice, rising_of_choice, same_by_number_lists, among_numbers, among_spots}
use Rattle.plain_tracks.proofs.Entries.{of_numbers}
use Rattle.plain_tracks.proofs.Steps.{HoldsFitting, in_none, mapped}

-- ---- filters
in_filter : {X : Type 0} → (p : X → Bool) (xs : List X) (x : X) → p x ≡ true → Contains xs x → Contains (filter p xs) x
in_filter p [] x t c = absurd (in_none x c)
in_filter p (y ∷ ys) x t c = elim (Contains-append_cases (y ∷ []) ys x c) [
  | inl d ↦ elim (Contains-push_cases [] y x d) [
    | inl f ↦ absurd (in_none x f)
    | inr e ↦
        let passes : p y ≡ true = ap p e ∙ t in
        rw passes (subst (Contains (y ∷ filter p ys)) e (Contains-append_left (y ∷ []) (filter p ys) y (Contains-push [] y)))
  ]
  | inr d ↦
      let rest = in_filter p ys x t d in
      elim (p y) as (λ b. Contains (cond b (y ∷ filter p ys) (filter p ys)) x) [ true ↦ Contains-append_right (y ∷ []) (filter p ys) x rest | false ↦ rest ]
]

pub filter_exact : {X : Type 0} → (p : X → Bool) (xs : List X) (x : X) → Contains (filter p xs) x ↔ (Contains xs x × (p x ≡ true))
filter_exact p xs x = (
  λ c. (All-contains (Contains xs) (filter p xs) x (All-filter p (Contains xs) xs (All-contains_itself xs)) c, All-contains (λ y. p y ≡ true) (filter p xs) x (filter_passes p xs) c),
  λ w. in_filter p xs x w.1 w.0,
)

-- ---- tracks
abbrev pub HoldsTracks : SettingsData → List NightTracklets → List TrackSetData → Type 0
HoldsTracks settings nights tracks = (set : TrackSetData) → Contains tracks set ↔ IsTrack settings nights set

pub tracks_of_fitting : (settings : SettingsData) (nights : List NightTracklets) (sets tracks : List TrackSetData) → HoldsFitting settings nights sets → ((set : TrackSetData) → Contains tracks set ↔ (Contains sets set × (3 ≤ length set))) → HoldsTracks settings nights tracks
tracks_of_fitting settings nights sets tracks h t = λ set. (
  λ c. (let w = (t set).0 c in record { fitting = (h set).0 w.0; three = w.1 }),
  λ k. (t set).1 ((h set).1 k.fitting, k.three),
)

pub known_by_numbers : (settings : SettingsData) (nights : List NightTracklets) (tracks : List TrackSetData) → AreNights nights → HoldsTracks settings nights tracks → AreKnownByNumbers tracks
known_by_numbers settings nights tracks a h = λ one other c d e.
    same_by_number_lists nights one other a ((h one).0 c).fitting.choice ((h other).0 d).fitting.choice e

-- spots of tracks of one number are one
same_spots : (nights : List NightTracklets) (one other : TrackSetData) → AreNights nights → IsChoice nights one → IsChoice nights other → (x y : SpotData) → Contains (spots_of one) x → Contains (spots_of other) y → x.num ≡ y.num → x ≡ y
same_spots nights one other a c d = λ x y p q. a.numbered x y (held_of_choice nights one c x p) (held_of_choice nights other d y q)

pub maximal_exactly : (settings : SettingsData) (nights : List NightTracklets) (tracks : List TrackSetData) → AreNights nights → HoldsTracks settings nights tracks → (set : TrackSetData) → (Contains tracks set × IsMaximalAmong (map numbers_of tracks) (numbers_of set)) ↔ IsMaximalTrack settings nights set
maximal_exactly settings nights tracks a h set = (
  λ w.
      let track : IsTrack settings nights set = (h set).0 w.0 in
      record {
        track = track;
        maximal = λ other t among.
            let c = (h other).1 t in
            let at = mapped numbers_of tracks c.0 other c.1 (sym c.2) in
            among_spots (spots_of other) (spots_of set) (same_spots nights other set a t.fitting.choice track.fitting.choice)
            (w.1 (numbers_of other) (c.0, at.0, sym at.1) (among_numbers (spots_of set) (spots_of other) among));
      },
  λ m. (
    (h set).1 m.track,
    λ numbers k among.
        let w = of_numbers tracks numbers set k in
        let t : IsTrack settings nights w.0 = (h w.0).0 w.1 in
        let among' : AreAmong (numbers_of set) (numbers_of w.0) = subst (AreAmong (numbers_of set)) (sym w.2) among in
        let spots : AreAmong (spots_of set) (spots_of w.0) = among_spots (spots_of set) (spots_of w.0) (same_spots nights set w.0 a m.track.fitting.choice t.fitting.choice) among' in
        subst (λ n. AreAmong n (numbers_of set)) w.2 (among_numbers (spots_of w.0) (spots_of set) (m.maximal w.0 t spots)),
  ),
)

-- two facts of what was given, where something was
pub if_both : {T E : Type 0} → (r : Result T E) (P Q R : T → Type 0) → ((x : T) → P x → Q x → R x) → IfOk r P → IfOk r Q → IfOk r R
if_both (Ok x) P Q R h p q = h x p q
if_both (Err e) P Q R h p q = p

-- the spots of a track have different numbers, since their epochs differ
different_numbers : (nights : List NightTracklets) (set : TrackSetData) → AreNights nights → IsChoice nights set → AreDifferent (numbers_of set)
different_numbers nights set a c = λ i j d ij jl e.
    let spots : List SpotData = spots_of set in
    let some : SpotData = record { num = 0; epoch = pos 0; ra = pos 0; dec = pos 0 } in
    let l : j < length (spots_of set) = simp length-map at jl in
    let k : i < length (spots_of set) = omega arith in
    let one : get_or (numbers_of set) i d ≡ (get_or (spots_of set) i some).num = get_or-map (λ (s : SpotData). s.num) (spots_of set) i some d k in
    let other : get_or (numbers_of set) j d ≡ (get_or (spots_of set) j some).num = get_or-map (λ (s : SpotData). s.num) (spots_of set) j some d l in
    let same : get_or (spots_of set) i some ≡ get_or (spots_of set) j some = a.numbered (get_or (spots_of set) i some) (get_or (spots_of set) j some)
    (held_of_choice nights set c (get_or (spots_of set) i some) (Contains-get_or (spots_of set) i some k))
    (held_of_choice nights set c (get_or (spots_of set) j some) (Contains-get_or (spots_of set) j some l))
    (sym one ∙ (e ∙ other)) in
    let before : (get_or (spots_of set) i some).epoch <ℤ (get_or (spots_of set) j some).epoch = rising_of_choice nights set a c i j some ij l in
    let itself : (get_or (spots_of set) j some).epoch <ℤ (get_or (spots_of set) j some).epoch = subst (λ (s : SpotData). s.epoch <ℤ (get_or (spots_of set) j some).epoch) same before in
    omega (arith, ints, itself)

pub have_different_numbers : (settings : SettingsData) (nights : List NightTracklets) (tracks : List TrackSetData) → AreNights nights → HoldsTracks settings nights tracks → HaveDifferentNumbers tracks
have_different_numbers settings nights tracks a h = λ set c. different_numbers nights set a ((h set).0 c).fitting.choice
