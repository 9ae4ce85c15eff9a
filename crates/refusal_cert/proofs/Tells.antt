-- What the tests of three and of four spots tell.
use Rattle.std.proofs.Common.{◌≡◌, ℤ, ◌+ℤ◌, ◌-ℤ◌, ◌<ℤ◌, ◌↔◌, List, [], ◌∷◌, refl, ◌∙◌, arith}
use Rattle.std.proofs.lemmas.Int.{ints}
use Rattle.std.proofs.lemmas.List.Elements.{All-cons, All-nil}
use Rattle.std.specs.List.{All, Contains}
use Rattle.sky_math.specs.Lists.{EachThree}
use Rattle.sky_math.specs.Quadratics.{Point}
use Rattle.sky_units.proofs.Between.{offset_between}
use Rattle.sky_units.proofs.Parts.{near_of_arc}
use Rattle.sky_units.specs.Arcs.{AreNear, IsArc}
use Rattle.sky_units.specs.FracData.{FracData}
use Rattle.sky_units.specs.Motion.{AxisAdmits, acceleration, point_from, points, tolerance}
use Rattle.sky_units.specs.SettingsData.{SettingsData}
use Rattle.sky_units.specs.SpotData.{SpotData}
use Rattle.sky_units.specs.declared.axis.Axis.{Axis}
use Rattle.quad_fit.proofs.MarkLists.{marks_of_arc}
use Rattle.refusal_cert.specs.Coefficients.{AreEnds, HaveCommon, KeepsLimit, greatest_coefficient, least_coefficient, step_of}
use Rattle.refusal_cert.proofs.Alternations.{EachFourHaveCommon, FourHaveCommon}
use Rattle.refusal_cert.proofs.Climbs.{all_admitted}
use Rattle.refusal_cert.proofs.Fractions.{greatest, least}
use Rattle.refusal_cert.proofs.Places.{admitted_from, three_cons, two_cons}
use Rattle.refusal_cert.proofs.Suffices.{AreLimits, common_of_admits, keeps_of_admits}

-- ---- steps and points
-- three spots near the one that they are counted from
record AreAround (axis : Axis) (base x y z : SpotData) : Type 0 where
  first : AreNear axis base x
  middle : AreNear axis base y
  last : AreNear axis base z

times_add : (x y z b : ℤ) → (y -ℤ x) +ℤ (z -ℤ y) ≡ (z -ℤ b) -ℤ (x -ℤ b)
times_add x y z b = omega (arith, ints)

time_between : (x y b : ℤ) → y -ℤ x ≡ (y -ℤ b) -ℤ (x -ℤ b)
time_between x y b = omega (arith, ints)

ends_are : (axis : Axis) (tol : ℤ) (base x y z : SpotData) → AreAround axis base x y z →
    (least_coefficient tol (step_of axis x y) (step_of axis y z) ≡ least tol (point_from axis base x) (point_from axis base y) (point_from axis base z))
    × (greatest_coefficient tol (step_of axis x y) (step_of axis y z) ≡ greatest tol (point_from axis base x) (point_from axis base y) (point_from axis base z))
ends_are axis tol base x y z a =
    let sum = times_add x.epoch y.epoch z.epoch base.epoch in
    let one = time_between x.epoch y.epoch base.epoch in
    let two = time_between y.epoch z.epoch base.epoch in
    let rise = offset_between axis base x y a.first a.middle in
    let rise' = offset_between axis base y z a.middle a.last in
    rw (sum, one, two, rise, rise') (refl, refl)

around_of : (axis : Axis) (spots : List SpotData) (base x y z : SpotData) → IsArc spots → Contains spots base → Contains spots x → Contains spots y → Contains spots z → AreAround axis base x y z
around_of axis spots base x y z arc cb cx cy cz = record { first = near_of_arc axis spots base x arc cb cx; middle = near_of_arc axis spots base y arc cb cy; last = near_of_arc axis spots base z arc cb cz }

-- ---- three spots
pub three_told : (axis : Axis) (settings : SettingsData) (x y z : SpotData) (low high : FracData) → AreLimits axis settings → IsArc (x ∷ y ∷ z ∷ []) → AreEnds axis (tolerance axis settings) x y z low high →
    KeepsLimit (acceleration axis settings) low high ↔ AxisAdmits axis settings (x ∷ y ∷ z ∷ [])
three_told axis settings x y z low high s arc ends =
    let spots : List SpotData = x ∷ y ∷ z ∷ [] in
    let P : SpotData → Point = point_from axis x in
    let cx : Contains spots x = (0, omega arith, refl) in
    let cy : Contains spots y = (1, omega arith, refl) in
    let cz : Contains spots z = (2, omega arith, refl) in
    let around = around_of axis spots x x y z arc cx cx cy cz in
    let marks = marks_of_arc axis x spots arc cx in
    let low_is = ends.low_is ∙ (ends_are axis (tolerance axis settings) x x y z around).0 in
    let high_is = ends.high_is ∙ (ends_are axis (tolerance axis settings) x x y z around).1 in
    rw (low_is, high_is) (
      λ k. all_admitted (acceleration axis settings) (tolerance axis settings) (points axis spots) (P x) s.acc
          (record { marks = marks; range = s.tol; common = λ h i j l d hi ij jl ln. absurd (omega arith) })
          (three_cons (λ u v w. KeepsLimit (acceleration axis settings) (least (tolerance axis settings) u v w) (greatest (tolerance axis settings) u v w)) (P x) (P y ∷ P z ∷ [])
          (two_cons (λ v w. KeepsLimit (acceleration axis settings) (least (tolerance axis settings) (P x) v w) (greatest (tolerance axis settings) (P x) v w)) (P y) (P z ∷ [])
          (All-cons (λ w. KeepsLimit (acceleration axis settings) (least (tolerance axis settings) (P x) (P y) w) (greatest (tolerance axis settings) (P x) (P y) w)) (P z) [] k (All-nil (λ w. KeepsLimit (acceleration axis settings) (least (tolerance axis settings) (P x) (P y) w) (greatest (tolerance axis settings) (P x) (P y) w))))
          (λ i j d ij jn. absurd (omega arith)))
          (λ i j l d ij jl ln. absurd (omega arith))) (omega arith),
      λ w. keeps_of_admits (acceleration axis settings) (tolerance axis settings) (P x) (P y) (P z) (marks.rise 0 1 (P x) (omega arith) (omega arith)) (marks.rise 1 2 (P x) (omega arith) (omega arith)) w,
    )

-- ---- four spots
-- three spots of an arc that are admitted leave some coefficient of the limit, as counted from any spot of the arc
part_keeps : (axis : Axis) (settings : SettingsData) (base : SpotData) (spots : List SpotData) (x y z : SpotData) → IsArc spots → Contains spots base → Contains spots x → Contains spots y → Contains spots z → x.epoch <ℤ y.epoch → y.epoch <ℤ z.epoch → AxisAdmits axis settings (x ∷ y ∷ z ∷ []) →
    KeepsLimit (acceleration axis settings) (least (tolerance axis settings) (point_from axis base x) (point_from axis base y) (point_from axis base z)) (greatest (tolerance axis settings) (point_from axis base x) (point_from axis base y) (point_from axis base z))
part_keeps axis settings base spots x y z arc cb cx cy cz xy yz w =
    let inside : All (Contains spots) (x ∷ y ∷ z ∷ []) = All-cons (Contains spots) x (y ∷ z ∷ []) cx (All-cons (Contains spots) y (z ∷ []) cy (All-cons (Contains spots) z [] cz (All-nil (Contains spots)))) in
    keeps_of_admits (acceleration axis settings) (tolerance axis settings) (point_from axis base x) (point_from axis base y) (point_from axis base z) (omega (arith, ints, xy)) (omega (arith, ints, yz))
    (admitted_from axis settings base spots (x ∷ y ∷ z ∷ []) arc cb inside w)

-- each three of four points
four_each : (R : Point → Point → Point → Type 0) (w x y z : Point) → R w x y → R w x z → R w y z → R x y z → EachThree R (w ∷ x ∷ y ∷ z ∷ [])
four_each R w x y z a b c e =
    three_cons R w (x ∷ y ∷ z ∷ [])
    (two_cons (R w) x (y ∷ z ∷ []) (All-cons (R w x) y (z ∷ []) a (All-cons (R w x) z [] b (All-nil (R w x))))
    (two_cons (R w) y (z ∷ []) (All-cons (R w y) z [] c (All-nil (R w y))) (λ i j d ij jn. absurd (omega arith))))
    (three_cons R x (y ∷ z ∷ [])
    (two_cons (R x) y (z ∷ []) (All-cons (R x y) z [] e (All-nil (R x y))) (λ i j d ij jn. absurd (omega arith)))
    (λ i j l d ij jl ln. absurd (omega arith)))

-- there is one four of four points
four_once : (tol : ℤ) (w x y z : Point) → FourHaveCommon tol w x y z → EachFourHaveCommon tol (w ∷ x ∷ y ∷ z ∷ [])
four_once tol w x y z c = λ i j k l d ij jk kl ln.
    let ei : 0 ≡ i = omega arith in
    let ej : 1 ≡ j = omega arith in
    let ek : 2 ≡ k = omega arith in
    let el : 3 ≡ l = omega arith in
    rw (← ei, ← ej, ← ek, ← el) c

-- the axis admits each three of four spots
pub record AdmitsThrees (axis : Axis) (settings : SettingsData) (w x y z : SpotData) : Type 0 where
  pub without_last : AxisAdmits axis settings (w ∷ x ∷ y ∷ [])
  pub without_third : AxisAdmits axis settings (w ∷ x ∷ z ∷ [])
  pub without_second : AxisAdmits axis settings (w ∷ y ∷ z ∷ [])
  pub without_first : AxisAdmits axis settings (x ∷ y ∷ z ∷ [])

pub four_told : (axis : Axis) (settings : SettingsData) (w x y z : SpotData) (low high low' high' : FracData) → AreLimits axis settings → IsArc (w ∷ x ∷ y ∷ z ∷ []) → AdmitsThrees axis settings w x y z →
    AreEnds axis (tolerance axis settings) w x y low high → AreEnds axis (tolerance axis settings) x y z low' high' → HaveCommon low high low' high' ↔ AxisAdmits axis settings (w ∷ x ∷ y ∷ z ∷ [])
four_told axis settings w x y z low high low' high' s arc threes ends ends' =
    let spots : List SpotData = w ∷ x ∷ y ∷ z ∷ [] in
    let acc : ℤ = acceleration axis settings in
    let tol : ℤ = tolerance axis settings in
    let P : SpotData → Point = point_from axis w in
    let cw : Contains spots w = (0, omega arith, refl) in
    let cx : Contains spots x = (1, omega arith, refl) in
    let cy : Contains spots y = (2, omega arith, refl) in
    let cz : Contains spots z = (3, omega arith, refl) in
    let wx = arc.rising 0 1 w (omega arith) (omega arith) in
    let xy = arc.rising 1 2 w (omega arith) (omega arith) in
    let yz = arc.rising 2 3 w (omega arith) (omega arith) in
    let wy = arc.rising 0 2 w (omega arith) (omega arith) in
    let one = around_of axis spots w w x y arc cw cw cx cy in
    let two = around_of axis spots w x y z arc cw cx cy cz in
    let marks = marks_of_arc axis w spots arc cw in
    let e1 = ends.low_is ∙ (ends_are axis tol w w x y one).0 in
    let e2 = ends.high_is ∙ (ends_are axis tol w w x y one).1 in
    let e3 = ends'.low_is ∙ (ends_are axis tol w x y z two).0 in
    let e4 = ends'.high_is ∙ (ends_are axis tol w x y z two).1 in
    rw (e1, e2, e3, e4) (
      λ c. all_admitted acc tol (points axis spots) (P w) s.acc
          (record { marks = marks; range = s.tol; common = four_once tol (P w) (P x) (P y) (P z) c })
          (four_each (λ u v t. KeepsLimit acc (least tol u v t) (greatest tol u v t)) (P w) (P x) (P y) (P z)
          (part_keeps axis settings w spots w x y arc cw cw cx cy wx xy threes.without_last)
          (part_keeps axis settings w spots w x z arc cw cw cx cz wx (arc.rising 1 3 w (omega arith) (omega arith)) threes.without_third)
          (part_keeps axis settings w spots w y z arc cw cw cy cz wy yz threes.without_second)
          (part_keeps axis settings w spots x y z arc cw cx cy cz xy yz threes.without_first)) (omega arith),
      λ a. common_of_admits acc tol (P w) (P x) (P y) (P z) (marks.rise 0 1 (P w) (omega arith) (omega arith)) (marks.rise 1 2 (P w) (omega arith) (omega arith)) (marks.rise 2 3 (P w) (omega arith) (omega arith)) a,
    )
