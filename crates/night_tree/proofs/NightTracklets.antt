-- Each tracklet of a night is one, and its spots are spots of that night.
use Rattle.std.proofs.Common.{◌≡◌, ℕ, ◌<◌, pos, ◌-ℤ◌, ◌≤ℤ◌, ◌<ℤ◌, true, List, [], ◌∷◌, length, get_or, refl, subst, arith}
use Rattle.std.specs.Cmp.Lexicographic.{slice_cmp}
use Rattle.std.specs.List.{All, Contains, filter_map, slice_get}
use Rattle.std.specs.Ordering.{int_eq, is_eq, is_lt, nat_cmp}
use Rattle.std.specs.Prelude.{Option, Some, None}
use Rattle.std.proofs.lemmas.Bool.{cases_Bool}
use Rattle.std.proofs.lemmas.List.Elements.{All-cons, All-contains, All-contains_itself, All-head, All-map, All-nil, All-tail}
use Prim.Native.Nat.{zero, suc}
use mathlib.Core.Logic.{inl, inr}
use Rattle.sky_units.proofs.SpotsAtPlaces.{spots_length}
use Rattle.sky_units.specs.AtPlaces.{spots_at}
use Rattle.sky_units.specs.Pairs.{EpochsDontFall, pairs_of}
use Rattle.sky_units.specs.SettingsData.{AreSettings, SettingsData}
use Rattle.sky_units.specs.SpotData.{SpotData}
use Rattle.sky_units.specs.TrackletData.{IsTracklet}
use Rattle.sky_units.specs.Tracks.{IsOfNight}
use Rattle.line_fit.specs.Slopes.{AreOfOneDay}
use Rattle.collapse.specs.Groups.{ArePlaces, groups_of, may_join, with_pair}
use Rattle.collapse.proofs.Firsts.{later_of_pair, pair_below, pairs_below, places_all}
use Rattle.collapse.proofs.OnLines.{arc_of_line, each_of_all, each_pair, groups_lie, pairs_lie, pair_grows, pairs_within, rising_of_line, within_pair}
use Rattle.collapse.proofs.Together.{no_spot, two_at}
use Rattle.purge.proofs.Left.{tracklet_left}
use Rattle.purge.specs.Purging.{purge_of}
use Rattle.night_tree.specs.Nights.{in_order, places_of_pair, sets_of, tracklets_of, with_set}
use Rattle.night_tree.specs.Tracklets.{IsGroup, IsSet}
use Rattle.night_tree.proofs.EachTwoOf.{each_two_cons}

-- ---- the sets of each stage
two_spots : (a b : SpotData) → a.epoch <ℤ b.epoch → IsTracklet (a ∷ b ∷ [])
two_spots a b h = record {
  two = omega arith;
  rising = each_two_cons (λ (p q : SpotData). p.epoch <ℤ q.epoch) a (b ∷ []) (All-cons (λ (q : SpotData). a.epoch <ℤ q.epoch) b [] h (All-nil (λ (q : SpotData). a.epoch <ℤ q.epoch))) (λ i j d ij jn. absurd (omega arith));
}

pub pairs_are_sets : (s : SettingsData) (spots : List SpotData) → All (λ pair. IsSet spots (places_of_pair pair)) (pairs_of s spots)
pairs_are_sets s spots =
    let each = each_pair IsTracklet s spots (λ a b h. two_spots a b (later_of_pair s a b h)) in
    let within = pairs_within s spots in
    λ k d kn. record { within = within k d kn; tracklet = each k d kn }

joined_set : (s : SettingsData) (spots : List SpotData) (pair : ℕ × ℕ) (group : List ℕ) → IsSet spots (places_of_pair pair) → IsSet spots group → may_join s spots pair group ≡ true → IsSet spots (with_pair group pair)
joined_set s spots pair group new old joins =
    let within : All (λ p. p < length spots) (with_pair group pair) = within_pair (length spots) pair group new.within old.within in
    let two = old.tracklet.two in
    let before = spots_length spots group old.within no_spot in
    let after = spots_length spots (with_pair group pair) within no_spot in
    let more = pair_grows group pair in
    record { within = within; tracklet = record { two = omega (arith, two, before, after, more); rising = rising_of_line s.line_tol s.rate_ra s.rate_dec (spots_at spots (with_pair group pair)) joins } }

pub groups_are_sets : (s : SettingsData) (spots : List SpotData) → All (IsSet spots) (groups_of s spots)
groups_are_sets s spots = each_of_all (IsSet spots) s spots (pairs_of s spots) [] (pairs_are_sets s spots) (joined_set s spots) (All-nil (IsSet spots))

all_some : {X Y : Type 0} (P : X → Type 0) (Q : Y → Type 0) (f : X → Option Y) (xs : List X) → ((x : X) (y : Y) → P x → f x ≡ Some y → Q y) → All P xs → All Q (filter_map f xs)
all_some P Q f [] step h = All-nil Q
all_some P Q f (x ∷ rest) step h = one (f x) refl (all_some P Q f rest step (All-tail P x rest h))
  where
    one : (o : Option _) → f x ≡ o → All Q (filter_map f rest) → All Q (filter_map f (x ∷ rest))
    one None e others = rw e others
    one (Some y) e others = rw e (All-cons Q y (filter_map f rest) (step x y (All-head P x rest h) e) others)

pub purged_are_sets : (s : SettingsData) (spots : List SpotData) → All (IsSet spots) (filter_map (purge_of s spots) (groups_of s spots))
purged_are_sets s spots = all_some (IsSet spots) (IsSet spots) (purge_of s spots) (groups_of s spots)
    (λ group left h e. let t = tracklet_left s spots group left h.within h.tracklet.rising e in record { within = t.within; tracklet = t.tracklet })
    (groups_are_sets s spots)

pub are_sets : (s : SettingsData) (spots : List SpotData) → All (IsSet spots) (sets_of s spots)
are_sets s spots = elim (cases_Bool (int_eq s.stages (pos 1))) as (λ _. All (IsSet spots) (sets_of s spots)) [
  | inl one ↦ rw one (All-map (IsSet spots) places_of_pair (pairs_of s spots) (pairs_are_sets s spots))
  | inr other ↦ elim (cases_Bool (int_eq s.stages (pos 2))) as (λ _. All (IsSet spots) (sets_of s spots)) [
    | inl two ↦ rw (other, two) (groups_are_sets s spots)
    | inr three ↦ rw (other, three) (purged_are_sets s spots)
  ]
]

-- groups can be purged
pub groups_are_groups : (s : SettingsData) (spots : List SpotData) → AreSettings s → EpochsDontFall spots → AreOfOneDay spots → All (IsGroup spots) (groups_of s spots)
groups_are_groups s spots ranges order day =
    let lie = groups_lie s spots (pairs_of s spots) (pairs_lie s spots ranges day (λ pair h. (pair_below s spots pair order h).0)) in
    let are_places = places_all s spots (length spots) (pairs_of s spots) [] (pairs_below s spots order) (All-nil (ArePlaces (length spots))) in
    λ k d kn.
    let group : List ℕ = get_or (groups_of s spots) k d in
    let near = two_at (λ x y. (y.epoch -ℤ x.epoch) ≤ℤ pos 1000000) spots group (are_places k d kn) day in
    record { within = (are_places k d kn).within; arc = arc_of_line s.line_tol s.rate_ra s.rate_dec (spots_at spots group) (lie k d kn) near; day = near }

-- ---- in order
all_with_set : (P : List ℕ → Type 0) (set : List ℕ) (sets : List (List ℕ)) → P set → All P sets → All P (with_set set sets)
all_with_set P set [] h all = All-cons P set [] h (All-nil P)
all_with_set P set (first ∷ rest) h all = elim (cases_Bool (is_lt (slice_cmp nat_cmp set first))) as (λ _. All P (with_set set (first ∷ rest))) [
  | inl lt ↦ rw lt (All-cons P set (first ∷ rest) h all)
  | inr ge ↦ elim (cases_Bool (is_eq (slice_cmp nat_cmp set first))) as (λ _. All P (with_set set (first ∷ rest))) [
    | inl same ↦ rw (ge, same) all
    | inr gt ↦ rw (ge, gt) (All-cons P first (with_set set rest) (All-head P first rest all) (all_with_set P set rest h (All-tail P first rest all)))
  ]
]

pub all_in_order : (P : List ℕ → Type 0) (sets : List (List ℕ)) → All P sets → All P (in_order sets)
all_in_order P [] h = All-nil P
all_in_order P (set ∷ rest) h = all_with_set P set (in_order rest) (All-head P set rest h) (all_in_order P rest (All-tail P set rest h))

-- ---- the tracklets
pub all_tracklets : (s : SettingsData) (spots : List SpotData) → All IsTracklet (tracklets_of s spots)
all_tracklets s spots =
    let sets = all_in_order (IsSet spots) (sets_of s spots) (are_sets s spots) in
    All-map IsTracklet (spots_at spots) (in_order (sets_of s spots)) (λ k d kn. (sets k d kn).tracklet)

none_no_some : (x : SpotData) → None ≡ Some x → ⊥
none_no_some x h = cc

some_same : (x y : SpotData) → Some x ≡ Some y → x ≡ y
some_same x y h = cc

-- what holds of each spot holds of those at places
get_all : (P : SpotData → Type 0) (spots : List SpotData) (k : ℕ) (spot : SpotData) → All P spots → slice_get spots k ≡ Some spot → P spot
get_all P [] k spot h e = absurd (none_no_some spot e)
get_all P (x ∷ rest) zero spot h e = subst P (some_same x spot e) (All-head P x rest h)
get_all P (x ∷ rest) (suc k) spot h e = get_all P rest k spot (All-tail P x rest h) e

pub all_at : (P : SpotData → Type 0) (spots : List SpotData) (places : List ℕ) → All P spots → All P (spots_at spots places)
all_at P spots places h = all_some (λ (k : ℕ). Unit {0}) P (slice_get spots) places (λ k spot u e. get_all P spots k spot h e) (λ k d l. _)

pub tracklets_are_of : (s : SettingsData) (spots : List SpotData) → All (All (Contains spots)) (tracklets_of s spots)
tracklets_are_of s spots = All-map (All (Contains spots)) (spots_at spots) (in_order (sets_of s spots)) (λ k d kn. all_at (Contains spots) spots (get_or (in_order (sets_of s spots)) k d) (All-contains_itself spots))

-- a spot of a tracklet of a night is a spot of that night
pub of_night : (s : SettingsData) (spots : List SpotData) (spot : SpotData) → IsOfNight (tracklets_of s spots) spot → Contains spots spot
of_night s spots spot w = All-contains (Contains spots) w.0 spot (All-contains (All (Contains spots)) (tracklets_of s spots) w.0 (tracklets_are_of s spots) w.1) w.2
