-- What boxes may hold, and which tracklets are wanted, holds or doesn't; so there is a Bool that tells it.
use Rattle.std.proofs.Common.{◌≡◌, ℕ, ◌≤◌, Bool, true, false, List, [], ◌∷◌, ◌++◌, length, suc, zero, refl, ◌↔◌, arith}
use Rattle.std.specs.Prelude.{ℤ, ◌-ℤ◌, ◌≤ℤ◌, ◌<ℤ◌, IsTrue}
use Rattle.std.proofs.lemmas.Bool.{cases_lt, false≢true}
use Rattle.std.proofs.lemmas.Int.{ints, by_lt_z}
use Rattle.std.proofs.lemmas.List.Elements.{All-cons, All-head, All-nil, All-tail}
use Rattle.std.specs.List.{All}
use mathlib.Core.Logic.{◌⊎◌, inl, inr}
use Rattle.sky_math.specs.Lists.{EachTwo}
use Rattle.sky_units.specs.Arcs.{AreNear, IsArc}
use Rattle.sky_units.specs.Limits.{arc_ticks}
use Rattle.sky_units.specs.SettingsData.{SettingsData}
use Rattle.sky_units.specs.SpotData.{SpotData}
use Rattle.sky_units.specs.TrackletData.{IsTracklet}
use Rattle.sky_units.specs.declared.axis.Axis.{Axis}
use Rattle.sky_units.specs.declared.axis.Axis.TheVariants.{Ra, Dec}
use Rattle.quad_fit.proofs.Decided.{fits_or_not}
use Rattle.box_tree.specs.declared.bounds.Bounds.{Bounds}
use Rattle.box_tree.specs.Boxes.{end_on}
use Rattle.bound_prune.specs.Bounds.{IsOpen, IsOpenRound, May, MayThree, RatesAgree, greatest_distance, least_distance, way_ahead, way_back}
use Rattle.bound_prune.specs.Boxes.{BoxedTracklet}
use Rattle.bound_prune.specs.Wanted.{AreArc, AreArcOfThree, AreWanted, AreWantedThree, HasTolerances}

-- it holds or doesn't
abbrev pub IsDecided : Type 0 → Type 0
IsDecided P = P ⊎ (¬ P)

-- whether it holds
abbrev pub holds : {P : Type 0} → IsDecided P → Bool
holds (inl p) = true
holds (inr n) = false

pub holds-so : {P : Type 0} (d : IsDecided P) → holds d ≡ true → P
holds-so (inl p) e = p
holds-so (inr n) e = absurd (false≢true e)

pub holds-true : {P : Type 0} (d : IsDecided P) → P → holds d ≡ true
holds-true (inl p) q = refl
holds-true (inr n) q = absurd (n q)

-- a Bool that is true exactly where it holds
pub holds-is : {P : Type 0} (d : IsDecided P) (b : Bool) → IsTrue b ↔ P → b ≡ holds d
holds-is (inl p) b t = t.1 p
holds-is (inr n) true t = absurd (n (t.0 refl))
holds-is (inr n) false t = refl

-- ---- parts
reworded : {P Q : Type 0} → (P → Q) → (Q → P) → IsDecided P → IsDecided Q
reworded there back (inl p) = inl (there p)
reworded there back (inr n) = inr (λ q. n (back q))

both : {P Q : Type 0} → IsDecided P → IsDecided Q → IsDecided (P × Q)
both (inl p) (inl q) = inl (p, q)
both (inl p) (inr n) = inr (λ w. n w.1)
both (inr n) d = inr (λ w. n w.0)

-- the second is asked only where the first holds
then : {P Q : Type 0} → IsDecided P → (P → IsDecided Q) → IsDecided (P × Q)
then (inl p) d = both (inl p) (d p)
then (inr n) d = inr (λ w. n w.0)

either : {P Q : Type 0} → IsDecided P → IsDecided Q → IsDecided (P ⊎ Q)
either (inl p) d = inl (inl p)
either (inr n) (inl q) = inl (inr q)
either (inr n) (inr m) = inr (λ w. elim w [ inl p ↦ n p | inr q ↦ m q ])

at_most : (a b : ℤ) → IsDecided (a ≤ℤ b)
at_most a b = by_lt_z b a (λ l. inr (λ h. absurd (omega (arith, ints)))) (λ h. inl h)

less : (a b : ℤ) → IsDecided (a <ℤ b)
less a b = by_lt_z a b (λ l. inl l) (λ h. inr (λ l. absurd (omega (arith, ints))))

same : (a b : ℤ) → IsDecided (a ≡ b)
same a b = by_lt_z a b (λ l. inr (λ e. absurd (omega (arith, ints)))) (λ h. by_lt_z b a (λ l. inr (λ e. absurd (omega (arith, ints)))) (λ k. inl (omega (arith, ints))))

-- ---- of lists
all_or_not : {X : Type 0} → (P : X → Type 0) → ((x : X) → IsDecided (P x)) → (xs : List X) → IsDecided (All P xs)
all_or_not P d [] = inl (All-nil P)
all_or_not P d (x ∷ xs) = reworded (λ h. All-cons P x xs h.0 h.1) (λ h. (All-head P x xs h, All-tail P x xs h)) (both (d x) (all_or_not P d xs))

each_two_tail : {X : Type 0} (R : X → X → Type 0) (x : X) (xs : List X) → EachTwo R (x ∷ xs) → EachTwo R xs
each_two_tail R x xs h = λ i j d ij jn. h (suc i) (suc j) d (omega arith) (omega arith)

each_two_head : {X : Type 0} (R : X → X → Type 0) (x : X) (xs : List X) → EachTwo R (x ∷ xs) → All (R x) xs
each_two_head R x xs h = λ k d kn. h 0 (suc k) d (omega arith) (omega arith)

each_two_cons : {X : Type 0} (R : X → X → Type 0) (x : X) (xs : List X) → All (R x) xs → EachTwo R xs → EachTwo R (x ∷ xs)
each_two_cons R x xs first rest zero zero d ij jn = absurd (omega arith)
each_two_cons R x xs first rest zero (suc j) d ij jn = first j d (omega arith)
each_two_cons R x xs first rest (suc i) zero d ij jn = absurd (omega arith)
each_two_cons R x xs first rest (suc i) (suc j) d ij jn = rest i j d (omega arith) (omega arith)

each_two_or_not : {X : Type 0} → (R : X → X → Type 0) → ((x y : X) → IsDecided (R x y)) → (xs : List X) → IsDecided (EachTwo R xs)
each_two_or_not R d [] = inl (λ i j e ij jl. absurd (omega arith))
each_two_or_not R d (x ∷ xs) = reworded (λ h. each_two_cons R x xs h.0 h.1) (λ h. (each_two_head R x xs h, each_two_tail R x xs h)) (both (all_or_not (R x) (d x) xs) (each_two_or_not R d xs))

-- ---- of spots
near_or_not : (axis : Axis) (a b : SpotData) → IsDecided (AreNear axis a b)
near_or_not axis a b = both (less _ _) (less _ _)

arc_or_not : (spots : List SpotData) → IsDecided (IsArc spots)
arc_or_not spots = reworded (λ h. record { rising = h.0; short = h.1.0; spread = h.1.1 }) (λ h. (h.rising, (h.short, h.spread)))
    (both (each_two_or_not (λ a b. a.epoch <ℤ b.epoch) (λ a b. less a.epoch b.epoch) spots)
    (both (each_two_or_not (λ a b. (b.epoch -ℤ a.epoch) <ℤ arc_ticks) (λ a b. less (b.epoch -ℤ a.epoch) arc_ticks) spots)
    (each_two_or_not (λ a b. AreNear Ra a b × AreNear Dec a b) (λ a b. both (near_or_not Ra a b) (near_or_not Dec a b)) spots)))

tracklet_or_not : (spots : List SpotData) → IsDecided (IsTracklet spots)
tracklet_or_not spots = reworded (λ h. record { two = h.0; rising = h.1 }) (λ h. (h.two, h.rising))
    (both (two_or_not (length spots)) (each_two_or_not (λ a b. a.epoch <ℤ b.epoch) (λ a b. less a.epoch b.epoch) spots))
  where
    two_or_not : (n : ℕ) → IsDecided (2 ≤ n)
    two_or_not n = elim (cases_lt n 2) as (λ _. IsDecided (2 ≤ n)) [ inl l ↦ inr (λ h. absurd (omega arith)) | inr h ↦ inl h ]

-- ---- of boxed tracklets
tolerances_or_not : (settings : SettingsData) (box : BoxedTracklet) → IsDecided (HasTolerances settings box)
tolerances_or_not settings box = reworded (λ h. record { tracklet = h.0; ra = h.1.0; dec = h.1.1 }) (λ h. (h.tracklet, (h.ra, h.dec)))
    (both (tracklet_or_not box.spots) (both (same box.tol_ra settings.tol_ra) (same box.tol_dec settings.tol_dec)))

are_arc_or_not : (settings : SettingsData) (a b : BoxedTracklet) → IsDecided (AreArc settings a b)
are_arc_or_not settings a b = reworded (λ h. record { first = h.0; second = h.1.0; arc = h.1.1 }) (λ h. (h.first, (h.second, h.arc)))
    (both (tolerances_or_not settings a) (both (tolerances_or_not settings b) (arc_or_not (a.spots ++ b.spots))))

are_arc_of_three_or_not : (settings : SettingsData) (a b c : BoxedTracklet) → IsDecided (AreArcOfThree settings a b c)
are_arc_of_three_or_not settings a b c = reworded (λ h. record { first = h.0; second = h.1.0; third = h.1.1.0; arc = h.1.1.1 }) (λ h. (h.first, (h.second, (h.third, h.arc))))
    (both (tolerances_or_not settings a) (both (tolerances_or_not settings b) (both (tolerances_or_not settings c) (arc_or_not (a.spots ++ b.spots ++ c.spots)))))

-- two tracklets are wanted or not
pub wanted_or_not : (settings : SettingsData) (a b : BoxedTracklet) → IsDecided (AreWanted settings a b)
wanted_or_not settings a b = reworded (λ h. record { tested = h.0; fits = h.1 }) (λ h. (h.tested, h.fits))
    (then (are_arc_or_not settings a b) (λ arc. fits_or_not settings (a.spots ++ b.spots) arc.arc.rising))

-- three tracklets are wanted or not
pub three_wanted_or_not : (settings : SettingsData) (a b c : BoxedTracklet) → IsDecided (AreWantedThree settings a b c)
three_wanted_or_not settings a b c = reworded (λ h. record { tested = h.0; fits = h.1 }) (λ h. (h.tested, h.fits))
    (then (are_arc_of_three_or_not settings a b c) (λ arc. fits_or_not settings (a.spots ++ b.spots ++ c.spots) arc.arc.rising))

-- ---- of boxes
rates_or_not : (axis : Axis) (settings : SettingsData) (a b : Bounds) → IsDecided (RatesAgree axis settings a b)
rates_or_not axis settings a b = reworded (λ h. record { slower = h.0; faster = h.1 }) (λ h. (h.slower, h.faster)) (both (at_most _ _) (at_most _ _))

open_or_not : (tol least greatest ahead back : ℤ) → IsDecided (IsOpen tol least greatest ahead back)
open_or_not tol least greatest ahead back = reworded (λ h. record { from = h.0; to = h.1 }) (λ h. (h.from, h.to)) (both (at_most _ _) (at_most _ _))

round_or_not : (tol least greatest ahead back : ℤ) → IsDecided (IsOpenRound tol least greatest ahead back)
round_or_not tol least greatest ahead back = reworded (λ h. record { from = h.0; to = h.1 }) (λ h. (h.from, h.to)) (both (either (at_most _ _) (at_most _ _)) (either (at_most _ _) (at_most _ _)))

-- two boxes may hold tracklets of one object or not
pub may_or_not : (settings : SettingsData) (a b : Bounds) → IsDecided (May settings a b)
may_or_not settings a b = reworded
    (λ h. record { follows = h.0; dec_way = h.1.0; ra_way = h.1.1.0; dec_rates = h.1.1.1.0; ra_rates = h.1.1.1.1 })
    (λ h. (h.follows, (h.dec_way, (h.ra_way, (h.dec_rates, h.ra_rates)))))
    (both (less (end_on a.low 2) (end_on b.high 2))
    (both (open_or_not settings.tol_dec (least_distance Dec a b) (greatest_distance Dec a b) (way_ahead Dec settings a b) (way_back Dec settings a b))
    (both (round_or_not settings.tol_ra (least_distance Ra a b) (greatest_distance Ra a b) (way_ahead Ra settings a b) (way_back Ra settings a b))
    (both (rates_or_not Dec settings a b) (rates_or_not Ra settings a b)))))

-- three boxes may hold tracklets of one object or not
pub three_may_or_not : (settings : SettingsData) (a b c : Bounds) → IsDecided (MayThree settings a b c)
three_may_or_not settings a b c = reworded (λ h. record { first_second = h.0; first_third = h.1.0; second_third = h.1.1 }) (λ h. (h.first_second, (h.first_third, h.second_third)))
    (both (may_or_not settings a b) (both (may_or_not settings a c) (may_or_not settings b c)))
