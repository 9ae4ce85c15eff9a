-- The maximal tracks can be listed: of all choices those that fit, of three or more tracklets, and maximal, each once.
use Rattle.std.proofs.Common.{◌≡◌, ◌≤◌, neg_ℤ, ◌<ℤ◌, ℤ, ℕ, List, [], ◌∷◌, ◌++◌, length, map, get_or, sym, subst, arith}
use Rattle.std.proofs.lemmas.Bool.{cases_eq, cases_lt}
use Rattle.std.proofs.lemmas.Int.{by_lt_z, ints}
use Rattle.std.proofs.lemmas.List.Elements.{All-contains, Contains-get_or, Contains-append_left, Contains-append_right, Contains-append_cases}
use Rattle.std.specs.List.{Contains}
use mathlib.Core.Logic.{inl, inr}
use Rattle.quad_fit.specs.Laws.{FitIsDecided}
use Rattle.sky_units.specs.Arcs.{AreNear, quarter_turn}
use Rattle.sky_units.specs.Motion.{offset}
use Rattle.sky_units.specs.SettingsData.{SettingsData}
use Rattle.sky_units.specs.SpotData.{SpotData}
use Rattle.sky_units.specs.TrackletData.{TrackletData, TrackSetData, NightTracklets, spots_of}
use Rattle.sky_units.specs.Tracks.{AreAmong, AreMaximalTracks, AreNights, IsChoice, IsTrack, numbers_of}
use Rattle.sky_units.specs.declared.axis.Axis.{Axis}
use Rattle.sky_units.specs.declared.axis.Axis.TheVariants.{Ra, Dec}
use Rattle.plain_tracks.specs.Growth.{FitTogether}
use Rattle.plain_tracks.specs.Numbers.{IsMaximalAmong}
use Rattle.plain_tracks.proofs.Choices.{testable_of_choice}
use Rattle.plain_tracks.proofs.Distinct.{distinct}
use Rattle.plain_tracks.proofs.Entries.{in_front, in_rest, front_or_rest}
use Rattle.plain_tracks.proofs.Members.{IsDecided, Members, all_or_not, both, contains_or_not, each_two_or_not, implied, in_mapped, kept, of_mapped, reworded}
use Rattle.plain_tracks.proofs.Steps.{in_none}
use Rattle.plain_tracks.proofs.Tracks.{HoldsTracks, known_by_numbers, maximal_exactly}

-- ---- all choices
abbrev BeginsWith : NightTracklets → List TrackSetData → TrackSetData → Type 0
BeginsWith night sets set = (tracklet : TrackletData) × (rest : TrackSetData) × Contains night tracklet × (set ≡ tracklet ∷ rest) × Contains sets rest

with_each : (night : NightTracklets) (sets : List TrackSetData) → Members (BeginsWith night sets)
with_each [] sets = record { list = []; exactly = λ set. (λ c. absurd (in_none set c), λ w. absurd (in_none w.0 w.2)) }
with_each (first ∷ night) sets =
    let others = with_each night sets in
    let here : List TrackSetData = map (λ (rest : TrackSetData). first ∷ rest) sets in
    record {
      list = here ++ others.list;
      exactly = λ set. (
        λ c. elim (Contains-append_cases here others.list set c) [
          | inl d ↦ (let w = of_mapped (λ (rest : TrackSetData). first ∷ rest) sets set d in (first, w.0, in_front first night, sym w.2, w.1))
          | inr d ↦ (let w = (others.exactly set).0 d in (w.0, w.1, in_rest first night w.0 w.2, w.3, w.4))
        ],
        λ w. elim (front_or_rest first night w.0 w.2) [
          | inl e ↦
              let same : first ∷ w.1 ≡ set = subst (λ t. t ∷ w.1 ≡ set) (sym e) (sym w.3) in
              Contains-append_left here others.list set (subst (Contains here) same (in_mapped (λ (rest : TrackSetData). first ∷ rest) sets w.1 w.4))
          | inr d ↦ Contains-append_right here others.list set ((others.exactly set).1 (w.0, w.1, d, w.3, w.4))
        ],
      );
    }

all_choices : (nights : List NightTracklets) → Members (IsChoice nights)
all_choices [] = record {
  list = [] ∷ [];
  exactly = λ set. (λ c. elim (front_or_rest [] [] set c) [ inl e ↦ sym e | inr d ↦ absurd (in_none set d) ], λ e. (0, omega arith, sym e));
}
all_choices (night ∷ nights) =
    let without = all_choices nights in
    let with = with_each night without.list in
    record {
      list = without.list ++ with.list;
      exactly = λ set. (
        λ c. elim (Contains-append_cases without.list with.list set c) [
          | inl d ↦ inl ((without.exactly set).0 d)
          | inr d ↦ (let w = (with.exactly set).0 d in inr (w.0, w.1, w.2, w.3, (without.exactly w.1).0 w.4))
        ],
        λ h. elim h [
          | inl d ↦ Contains-append_left without.list with.list set ((without.exactly set).1 d)
          | inr w ↦ Contains-append_right without.list with.list set ((with.exactly set).1 (w.0, w.1, w.2, w.3, (without.exactly w.1).1 w.4))
        ],
      );
    }

-- ---- which of them are tracks
below_or_not : (a b : ℤ) → IsDecided (a <ℤ b)
below_or_not a b = by_lt_z a b (λ l. inl l) (λ l. inr (λ h. omega (arith, ints, l, h)))

near_or_not : (axis : Axis) (a b : SpotData) → IsDecided (AreNear axis a b)
near_or_not axis a b = both (below_or_not (neg_ℤ quarter_turn) (offset axis a b)) (below_or_not (offset axis a b) quarter_turn)

fit_together_or_not : FitIsDecided → (settings : SettingsData) (nights : List NightTracklets) (set : TrackSetData) → AreNights nights → IsChoice nights set → IsDecided (FitTogether settings (spots_of set))
fit_together_or_not decided settings nights set a c = elim (each_two_or_not (λ x y. AreNear Ra x y × AreNear Dec x y) (λ x y. both (near_or_not Ra x y) (near_or_not Dec x y)) (spots_of set)) [
  | inl s ↦
      let t = testable_of_choice nights set a c in
      reworded (λ f. record { spread = s; fits = f }) (λ f. f.fits) (decided settings (spots_of set) (record { rising = t.rising; short = t.short; spread = s }))
  | inr never ↦ inr (λ f. never f.spread)
]

long_or_not : (set : TrackSetData) → IsDecided (3 ≤ length set)
long_or_not set = elim (cases_lt (length set) 3) [ inl l ↦ inr (λ h. omega arith) | inr l ↦ inl l ]

tracks : FitIsDecided → (settings : SettingsData) (nights : List NightTracklets) → AreNights nights → Members (IsTrack settings nights)
tracks decided settings nights a =
    let choices = all_choices nights in
    let fitting = kept (λ set. FitTogether settings (spots_of set) × (3 ≤ length set)) choices.list (λ set c. both (fit_together_or_not decided settings nights set a ((choices.exactly set).0 c)) (long_or_not set)) in
    record {
      list = fitting.list;
      exactly = λ set. (
        λ c. (let w = (fitting.exactly set).0 c in record { fitting = record { choice = (choices.exactly set).0 w.0; spread = w.1.0.spread; fits = w.1.0.fits }; three = w.1.1 }),
        λ t. (fitting.exactly set).1 ((choices.exactly set).1 t.fitting.choice, (record { spread = t.fitting.spread; fits = t.fitting.fits }, t.three)),
      );
    }

-- ---- which of them are maximal
among_or_not : (one other : List ℕ) → IsDecided (AreAmong one other)
among_or_not one other = all_or_not (Contains other) (λ n. contains_or_not other n (λ m c. cases_eq m n)) one

maximal_or_not : (lists : List (List ℕ)) (numbers : List ℕ) → IsDecided (IsMaximalAmong lists numbers)
maximal_or_not lists numbers = reworded
    (λ all other c. All-contains (λ o. AreAmong numbers o → AreAmong o numbers) lists other all c)
    (λ h k d l. h (get_or lists k d) (Contains-get_or lists k d l))
    (all_or_not (λ o. AreAmong numbers o → AreAmong o numbers) (λ o. implied (among_or_not numbers o) (among_or_not o numbers)) lists)

-- ---- each of them once
pub some_list : FitIsDecided → (settings : SettingsData) (nights : List NightTracklets) → AreNights nights → (list : List TrackSetData) × AreMaximalTracks settings nights list
some_list decided settings nights a =
    let all = tracks decided settings nights a in
    let exact : HoldsTracks settings nights all.list = all.exactly in
    let known = known_by_numbers settings nights all.list a exact in
    let maximal = kept (λ set. IsMaximalAmong (map numbers_of all.list) (numbers_of set)) all.list (λ set c. maximal_or_not (map numbers_of all.list) (numbers_of set)) in
    let each = distinct maximal.list (λ one other c d. known one other ((maximal.exactly one).0 c).0 ((maximal.exactly other).0 d).0) in (
      each.list,
      record {
        once = each.once;
        listed = λ set. (
          λ c. (maximal_exactly settings nights all.list a exact set).0 ((maximal.exactly set).0 ((each.exactly set).0 c)),
          λ m. (each.exactly set).1 ((maximal.exactly set).1 ((maximal_exactly settings nights all.list a exact set).1 m)),
        );
      },
    )
