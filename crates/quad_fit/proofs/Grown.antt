-- What a test tells of spots, and what it leaves for a test of more spots.
use Rattle.std.proofs.Common.{◌≡◌, ◌<◌, ℤ, ◌↔◌, false, List, ◌++◌, length, map, refl, sym, subst, arith}
use Rattle.std.proofs.lemmas.List.{map-append}
use Rattle.std.specs.List.{All, Contains}
use Rattle.std.specs.Prelude.{Option, Some, None, MatchOption, IsTrue, is_some}
use Rattle.std.proofs.lemmas.Bool.{false≢true}
use Rattle.sky_math.specs.Quadratics.{Point, Passes, Admits}
use Rattle.sky_units.specs.Arcs.{IsArc}
use Rattle.sky_units.specs.Motion.{acceleration, tolerance, point_from, points, AxisAdmits, Fits}
use Rattle.sky_units.specs.SettingsData.{AreSettings, SettingsData}
use Rattle.sky_units.specs.SpotData.{SpotData}
use Rattle.sky_units.specs.declared.axis.Axis.{Axis}
use Rattle.sky_units.specs.declared.axis.Axis.TheVariants.{Ra, Dec}
use Rattle.quad_fit.specs.Bases.{GivesBasis, GivesLevel, IsBasis, IsLevelOn}
use Rattle.quad_fit.specs.Curves.{CurveData, quadratic_of}
use Rattle.quad_fit.specs.Levels.{RestsOn}
use Rattle.quad_fit.specs.References.{IsPairOf, IsTripleOf}
use Rattle.quad_fit.specs.declared.growing.Basis.{Basis}
use Rattle.quad_fit.specs.declared.levelling.Levelled.{Levelled}
use Rattle.quad_fit.specs.declared.levelling.Reference.{Reference}
use Rattle.quad_fit.specs.declared.levelling.Reference.TheVariants.{Pair, Triple}
use Rattle.quad_fit.specs.declared.references.Pair as two
use Rattle.quad_fit.specs.declared.references.Triple as three
use Rattle.quad_fit.proofs.Admitted.{few_admitted}
use Rattle.quad_fit.proofs.MarkLists.{points_length}
use Rattle.quad_fit.proofs.Origins.{admitted_anywhere}
use Rattle.quad_fit.proofs.Parts.{still_in, all_joined, three_mapped}

-- ---- more points
pair_still : (xs ys : List Point) (pair : two.Pair) → ((x : Point) → Contains xs x → Contains ys x) → IsPairOf xs pair → IsPairOf ys pair
pair_still xs ys pair more is = record { before = is.before; has_first = more pair.first is.has_first; has_last = more pair.last is.has_last }

triple_still : (xs ys : List Point) (t : three.Triple) → ((x : Point) → Contains xs x → Contains ys x) → IsTripleOf xs t → IsTripleOf ys t
triple_still xs ys t more is = record { is = is.is; has_first = more t.first is.has_first; has_middle = more t.middle is.has_middle; has_last = more t.last is.has_last }

rests_still : (tol : ℤ) (xs ys : List Point) (c : CurveData) (r : Reference) → ((x : Point) → Contains xs x → Contains ys x) → RestsOn tol xs c r → RestsOn tol ys c r
rests_still tol xs ys c (Pair pair) more is = (pair_still xs ys pair more is.0, is.1)
rests_still tol xs ys c (Triple t up) more is = (triple_still xs ys t more is.0, is.1, is.2)

-- ---- more spots
points_still : (axis : Axis) (base : SpotData) (a b c : List SpotData) (x : Point) → Contains (map (point_from axis base) (a ++ c)) x → Contains (map (point_from axis base) (a ++ b ++ c)) x
points_still axis base a b c x has =
    let f : SpotData → Point = point_from axis base in
    let old : Contains (map f a ++ map f c) x = subst (λ (l : List Point). Contains l x) (map-append f a c) has in
    subst (λ (l : List Point). Contains l x) (sym (three_mapped f a b c)) (still_in (map f a) (map f b) (map f c) x old)

pub rests_grown : (axis : Axis) (tol : ℤ) (base : SpotData) (a b c : List SpotData) (curve : CurveData) (r : Reference) →
    RestsOn tol (map (point_from axis base) (a ++ c)) curve r → RestsOn tol (map (point_from axis base) (a ++ b ++ c)) curve r
rests_grown axis tol base a b c curve r is = rests_still tol (map (point_from axis base) (a ++ c)) (map (point_from axis base) (a ++ b ++ c)) curve r (points_still axis base a b c) is

pub level_grown : (axis : Axis) (settings : SettingsData) (base : SpotData) (a b c : List SpotData) (l : Levelled) → IsLevelOn axis settings base (a ++ c) l →
    All (Passes (tolerance axis settings) (quadratic_of l.curve)) (map (point_from axis base) b) → IsLevelOn axis settings base (a ++ b ++ c) l
level_grown axis settings base a b c l known new =
    let f : SpotData → Point = point_from axis base in
    let P : Point → Type 0 = Passes (tolerance axis settings) (quadratic_of l.curve) in
    let old : All P (map f a ++ map f c) = subst (All P) (map-append f a c) known.passes in
    let all : All P (map f a ++ map f b ++ map f c) = all_joined P (map f a) (map f b) (map f c) old new in
    record {
      admitted = known.admitted;
      passes = subst (All P) (sym (three_mapped f a b c)) all;
      rests = rests_grown axis (tolerance axis settings) base a b c l.curve l.reference known.rests;
    }

-- no point outside
pub none_outside : {X : Type 0} (Nowhere : Type 0) (IsIt : X → Type 0) (result : Option X) → MatchOption result Nowhere IsIt → is_some result ≡ false → Nowhere
none_outside Nowhere IsIt None none e = none
none_outside Nowhere IsIt (Some x) is e = absurd (false≢true (sym e))

-- ---- an axis
pub axis_told : (axis : Axis) (settings : SettingsData) (base : SpotData) (spots : List SpotData) (result : Option Levelled) → IsArc spots → Contains spots base →
    MatchOption result (¬ Admits (acceleration axis settings) (tolerance axis settings) (map (point_from axis base) spots)) (IsLevelOn axis settings base spots) →
    GivesLevel axis settings base spots result
axis_told axis settings base spots None arc has not = λ w. not ((admitted_anywhere axis settings base spots arc has).1 w)
axis_told axis settings base spots (Some l) arc has is = is

pub axis_fits : (axis : Axis) (settings : SettingsData) (base : SpotData) (spots : List SpotData) (l : Levelled) → IsArc spots → Contains spots base → IsLevelOn axis settings base spots l → AxisAdmits axis settings spots
axis_fits axis settings base spots l arc has is = (admitted_anywhere axis settings base spots arc has).0 (quadratic_of l.curve, is.admitted, is.passes)

-- ---- both axes
pub basis_fits : (settings : SettingsData) (spots : List SpotData) (basis : Basis) → IsArc spots → IsBasis settings spots basis → Fits settings spots
basis_fits settings spots basis arc is = (axis_fits Ra settings basis.base spots basis.ra arc is.among is.on_ra, axis_fits Dec settings basis.base spots basis.dec arc is.among is.on_dec)

pub few_fit : (settings : SettingsData) (spots : List SpotData) → AreSettings settings → length spots < 2 → Fits settings spots
few_fit settings spots s few = (
  few_admitted settings.acc_ra settings.tol_ra (points Ra spots) s.acc_ra_in_range.from s.tol_ra_in_range.from (omega (arith, points_length Ra spots)),
  few_admitted settings.acc_dec settings.tol_dec (points Dec spots) s.acc_dec_in_range.from s.tol_dec_in_range.from (omega (arith, points_length Dec spots)),
)

-- a test that gives a basis tells whether the spots fit
pub fit_told : (settings : SettingsData) (spots : List SpotData) (result : Option Basis) → GivesBasis settings spots result → IsTrue (is_some result) ↔ Fits settings spots
fit_told settings spots None not = (λ h. absurd (false≢true h), λ w. absurd (not w))
fit_told settings spots (Some basis) is = (λ h. is.0, λ w. refl)
