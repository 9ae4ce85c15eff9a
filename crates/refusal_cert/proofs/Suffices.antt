-- What is admitted of three and of four spots tells what is admitted of all.
use Rattle.std.proofs.Common.{ℕ, ◌<◌, ℤ, pos, neg_ℤ, ◌≤ℤ◌, ◌<ℤ◌, List, [], ◌∷◌, length, map, get_or, refl, subst, arith}
use Rattle.std.proofs.lemmas.Bool.{cases_lt}
use Rattle.std.proofs.lemmas.Int.{ints}
use Rattle.std.proofs.lemmas.List.{get_or-map, length-map}
use Rattle.std.specs.List.{Contains}
use mathlib.Core.Logic.{inl, inr}
use Rattle.sky_math.proofs.Coefficients.{suits_of_passes}
use Rattle.sky_math.proofs.Order.{linear}
use Rattle.sky_math.specs.Lists.{EachTwo}
use Rattle.sky_math.specs.Quadratics.{Admits, Point, Quadratic}
use Rattle.sky_units.proofs.SpotsAtPlaces.{spots_are}
use Rattle.sky_units.specs.Arcs.{IsArc}
use Rattle.sky_units.specs.AtPlaces.{spots_at}
use Rattle.sky_units.specs.Motion.{AxisAdmits, acceleration, point_from, tolerance}
use Rattle.sky_units.specs.Ranges.{IsBetween}
use Rattle.sky_units.specs.SettingsData.{AreSettings, SettingsData}
use Rattle.sky_units.specs.SpotData.{SpotData}
use Rattle.sky_units.specs.declared.axis.Axis.{Axis}
use Rattle.sky_units.specs.declared.axis.Axis.TheVariants.{Ra, Dec}
use Rattle.quad_fit.proofs.MarkLists.{marks_of_arc}
use Rattle.refusal_cert.specs.Certificates.{AdmitsAt, AdmitsEach, ArePlaces, IsChoice}
use Rattle.refusal_cert.specs.Coefficients.{IsAtMost, KeepsLimit, coefficient_of}
use Rattle.refusal_cert.proofs.Alternations.{EachFourHaveCommon, FourHaveCommon}
use Rattle.refusal_cert.proofs.Climbs.{all_admitted}
use Rattle.refusal_cert.proofs.Fractions.{EachKeepsLimit, admits_from, chain, ends_from, greatest, least, limits_from, over, stretch_above}
use Rattle.refusal_cert.proofs.Places.{admits_at, admitted_from, among_at, below}

-- ---- settings
pub record AreLimits (axis : Axis) (settings : SettingsData) : Type 0 where
  pub acc : pos 0 ≤ℤ acceleration axis settings
  pub tol : IsBetween (pos 0) (pos 100000) (tolerance axis settings)

pub limits_are : (axis : Axis) (settings : SettingsData) → AreSettings settings → AreLimits axis settings
limits_are Ra settings s = record { acc = s.acc_ra_in_range.from; tol = s.tol_ra_in_range }
limits_are Dec settings s = record { acc = s.acc_dec_in_range.from; tol = s.tol_dec_in_range }

-- ---- three and four points
scale_above : pos 0 <ℤ pos 2000000000000
scale_above = omega (arith, linear)

pub keeps_of_admits : (acc tol : ℤ) (x y z : Point) → x.time <ℤ y.time → y.time <ℤ z.time → Admits acc tol (x ∷ y ∷ z ∷ []) → KeepsLimit acc (least tol x y z) (greatest tol x y z)
keeps_of_admits acc tol x y z xy yz w =
    let f : Quadratic = w.0 in
    let s = suits_of_passes tol f x y z xy yz (w.2 0 x (omega arith)) (w.2 1 x (omega arith)) (w.2 2 x (omega arith)) in
    let e = ends_from tol f.q f.d x y z s in
    let l = limits_from acc f.q f.d w.1.1 in
    let ps = stretch_above x y z xy yz in (
      chain (least tol x y z) (over f.q f.d) (coefficient_of acc) ps w.1.0 scale_above e.0 l.1,
      chain (coefficient_of (neg_ℤ acc)) (over f.q f.d) (greatest tol x y z) scale_above w.1.0 ps l.0 e.1,
    )

pub common_of_admits : (acc tol : ℤ) (w x y z : Point) → w.time <ℤ x.time → x.time <ℤ y.time → y.time <ℤ z.time → Admits acc tol (w ∷ x ∷ y ∷ z ∷ []) → FourHaveCommon tol w x y z
common_of_admits acc tol w x y z wx xy yz a =
    let f : Quadratic = a.0 in
    let s = suits_of_passes tol f w x y wx xy (a.2 0 w (omega arith)) (a.2 1 w (omega arith)) (a.2 2 w (omega arith)) in
    let t = suits_of_passes tol f x y z xy yz (a.2 1 w (omega arith)) (a.2 2 w (omega arith)) (a.2 3 w (omega arith)) in
    let e = ends_from tol f.q f.d w x y s in
    let h = ends_from tol f.q f.d x y z t in
    let ps = stretch_above w x y wx xy in
    let pt = stretch_above x y z xy yz in (
      chain (least tol w x y) (over f.q f.d) (greatest tol x y z) ps a.1.0 pt e.0 h.1,
      chain (least tol x y z) (over f.q f.d) (greatest tol w x y) pt a.1.0 ps h.0 e.1,
    )

-- ---- choices
pub three_places : (n i j k : ℕ) → i < j → j < k → k < n → IsChoice 0 n 3 (i ∷ j ∷ k ∷ [])
three_places n i j k ij jk kn = ((omega arith, omega arith, (omega arith, omega arith, (omega arith, omega arith, tt))), refl)

pub four_places : (n i j k l : ℕ) → i < j → j < k → k < l → l < n → IsChoice 0 n 4 (i ∷ j ∷ k ∷ l ∷ [])
four_places n i j k l ij jk kl ln = ((omega arith, omega arith, (omega arith, omega arith, (omega arith, omega arith, (omega arith, omega arith, tt)))), refl)

-- what is admitted at some places, as counted from the first spot
points_of : (axis : Axis) (settings : SettingsData) (first : SpotData) (spots : List SpotData) (places : List ℕ) → IsArc spots → Contains spots first → ArePlaces 0 (length spots) places → AdmitsAt axis settings spots places →
    Admits (acceleration axis settings) (tolerance axis settings) (map (point_from axis first) (map (λ p. get_or spots p first) places))
points_of axis settings first spots places arc has h w =
    subst (λ (xs : List SpotData). Admits (acceleration axis settings) (tolerance axis settings) (map (point_from axis first) xs)) (spots_are spots places first (below 0 (length spots) places h))
    (admitted_from axis settings first spots (spots_at spots places) arc has (among_at spots 0 places first h) w)

-- ---- all spots
each_keeps : (axis : Axis) (settings : SettingsData) (first : SpotData) (spots : List SpotData) → IsArc spots → Contains spots first → AdmitsEach 3 axis settings spots →
    EachKeepsLimit (acceleration axis settings) (tolerance axis settings) (map (point_from axis first) spots)
each_keeps axis settings first spots arc has threes = λ i j k d ij jk kn.
    let P : SpotData → Point = point_from axis first in
    let n : k < length spots = omega (arith, length-map spots P, kn) in
    let c = three_places (length spots) i j k ij jk n in
    let w = points_of axis settings first spots (i ∷ j ∷ k ∷ []) arc has c.0 (threes (i ∷ j ∷ k ∷ []) c) in
    let ei = get_or-map P spots i first d (omega arith) in
    let ej = get_or-map P spots j first d (omega arith) in
    let ek = get_or-map P spots k first d n in
    let marks = marks_of_arc axis first spots arc has in
    keeps_of_admits (acceleration axis settings) (tolerance axis settings) (get_or (map P spots) i d) (get_or (map P spots) j d) (get_or (map P spots) k d) (marks.rise i j d ij (omega arith)) (marks.rise j k d jk kn) (rw (ei, ej, ek) w)

each_common : (axis : Axis) (settings : SettingsData) (first : SpotData) (spots : List SpotData) → IsArc spots → Contains spots first → AdmitsEach 4 axis settings spots →
    EachFourHaveCommon (tolerance axis settings) (map (point_from axis first) spots)
each_common axis settings first spots arc has fours = λ i j k l d ij jk kl ln.
    let P : SpotData → Point = point_from axis first in
    let n : l < length spots = omega (arith, length-map spots P, ln) in
    let c = four_places (length spots) i j k l ij jk kl n in
    let w = points_of axis settings first spots (i ∷ j ∷ k ∷ l ∷ []) arc has c.0 (fours (i ∷ j ∷ k ∷ l ∷ []) c) in
    let ei = get_or-map P spots i first d (omega arith) in
    let ej = get_or-map P spots j first d (omega arith) in
    let ek = get_or-map P spots k first d (omega arith) in
    let el = get_or-map P spots l first d n in
    let marks = marks_of_arc axis first spots arc has in
    common_of_admits (acceleration axis settings) (tolerance axis settings) (get_or (map P spots) i d) (get_or (map P spots) j d) (get_or (map P spots) k d) (get_or (map P spots) l d)
    (marks.rise i j d ij (omega arith)) (marks.rise j k d jk (omega arith)) (marks.rise k l d kl ln) (rw (ei, ej, ek, el) w)

no_limit : (acc : ℤ) → pos 0 ≤ℤ acc → IsAtMost (over (pos 0) (pos 1)) (coefficient_of acc)
no_limit acc p = omega (arith, ints)

few_admitted : (acc tol : ℤ) (xs : List Point) → pos 0 ≤ℤ acc → pos 0 ≤ℤ tol → EachTwo (λ x y. x.time <ℤ y.time) xs → length xs < 3 → Admits acc tol xs
few_admitted acc tol xs pa pt rise few =
    admits_from acc tol (pos 0) (pos 1) xs pa pt (omega (arith, linear)) rise (λ i j k d ij jk kn. absurd (omega arith)) (no_limit acc pa) (λ i j k d ij jk kn. absurd (omega arith))

suffice_from : (axis : Axis) (settings : SettingsData) (first : SpotData) (spots : List SpotData) → AreLimits axis settings → IsArc spots → Contains spots first → AdmitsEach 3 axis settings spots → AdmitsEach 4 axis settings spots →
    Admits (acceleration axis settings) (tolerance axis settings) (map (point_from axis first) spots)
suffice_from axis settings first spots s arc has threes fours =
    let xs : List Point = map (point_from axis first) spots in
    let acc = s.acc in
    let range = s.tol in
    let marks = marks_of_arc axis first spots arc has in
    elim (cases_lt (length xs) 3) as (λ _. Admits (acceleration axis settings) (tolerance axis settings) xs) [
      | inl few ↦ few_admitted (acceleration axis settings) (tolerance axis settings) xs acc range.from marks.rise few
      | inr many ↦ all_admitted (acceleration axis settings) (tolerance axis settings) xs (point_from axis first first) acc
          (record { marks = marks; range = range; common = each_common axis settings first spots arc has fours })
          (each_keeps axis settings first spots arc has threes) (omega arith)
    ]

pub suffice : (axis : Axis) (settings : SettingsData) (spots : List SpotData) → AreLimits axis settings → IsArc spots → AdmitsEach 3 axis settings spots → AdmitsEach 4 axis settings spots → AxisAdmits axis settings spots
suffice axis settings [] s arc threes fours = few_admitted (acceleration axis settings) (tolerance axis settings) [] s.acc s.tol.from (λ i j d ij jn. absurd (omega arith)) (omega arith)
suffice axis settings (first ∷ rest) s arc threes fours = suffice_from axis settings first (first ∷ rest) s arc (0, omega arith, refl) threes fours

pub each_admitted : (count : ℕ) (axis : Axis) (settings : SettingsData) (spots : List SpotData) → IsArc spots → AxisAdmits axis settings spots → AdmitsEach count axis settings spots
each_admitted count axis settings [] arc w = λ places c. admits_at_none axis settings places c.0 w
  where
    admits_at_none : (axis : Axis) (settings : SettingsData) (places : List ℕ) → ArePlaces 0 0 places → AxisAdmits axis settings [] → AdmitsAt axis settings [] places
    admits_at_none axis settings [] h w = w
    admits_at_none axis settings (p ∷ rest) h w = absurd (omega (arith, h.1))
each_admitted count axis settings (first ∷ rest) arc w = λ places c. admits_at axis settings (first ∷ rest) 0 places first arc c.0 w
