-- At one leading coefficient each three spots of an arc suffice.
use Rattle.std.proofs.Common.{◌≡◌, ℕ, ◌<◌, ℤ, pos, ◌-ℤ◌, ◌≤ℤ◌, ◌<ℤ◌, List, [], ◌∷◌, length, map, get_or, refl, subst, arith}
use Rattle.std.proofs.lemmas.Int.{ints}
use Rattle.std.proofs.lemmas.List.{get_or-map, get_or_default, length-map}
use Rattle.std.specs.List.{Contains}
use Prim.Native.Nat.{zero, suc}
use Rattle.sky_math.proofs.Coefficients.{passes_with_of_suits, suits_of_passes_with}
use Rattle.sky_math.proofs.Shifts.{moved_point, suits_unmoved}
use Rattle.sky_math.specs.Lists.{EachThree}
use Rattle.sky_math.specs.Quadratics.{Point}
use Rattle.sky_math.specs.Triples.{Suits}
use Rattle.sky_units.proofs.Parts.{near_of_arc, seen_from}
use Rattle.sky_units.specs.Arcs.{AreNear, IsArc}
use Rattle.sky_units.specs.Coefficients.{HasCoefficient}
use Rattle.sky_units.specs.Motion.{offset, point_from, points}
use Rattle.sky_units.specs.SpotData.{SpotData}
use Rattle.sky_units.specs.declared.axis.Axis.{Axis}
use Rattle.quad_fit.specs.MarkRanges.{RiseInTime}
use Rattle.quad_fit.proofs.MarkLists.{times_rise}

three_rise : (x y z : SpotData) → x.epoch <ℤ y.epoch → y.epoch <ℤ z.epoch → (i j : ℕ) (d : SpotData) → i < j → j < 3 → (get_or (x ∷ y ∷ z ∷ []) i d).epoch <ℤ (get_or (x ∷ y ∷ z ∷ []) j d).epoch
three_rise x y z p q zero zero d h k = absurd (omega arith)
three_rise x y z p q zero (suc zero) d h k = p
three_rise x y z p q zero (suc (suc zero)) d h k = omega (arith, ints, p, q)
three_rise x y z p q zero (suc (suc (suc n))) d h k = absurd (omega arith)
three_rise x y z p q (suc zero) zero d h k = absurd (omega arith)
three_rise x y z p q (suc zero) (suc zero) d h k = absurd (omega arith)
three_rise x y z p q (suc zero) (suc (suc zero)) d h k = q
three_rise x y z p q (suc zero) (suc (suc (suc n))) d h k = absurd (omega arith)
three_rise x y z p q (suc (suc i)) j d h k = absurd (omega arith)

suits_along : (tol a b : ℤ) (x y z u v w : Point) → x ≡ u → y ≡ v → z ≡ w → Suits tol a b x y z → Suits tol a b u v w
suits_along tol a b x y z u v w ex ey ez s =
    subst (λ (t : Point). Suits tol a b u v t) ez (subst (λ (t : Point). Suits tol a b u t z) ey (subst (λ (t : Point). Suits tol a b t y z) ex s))

-- what suits three spots seen from the first of them suits them seen from the arc's first
suits_from : (axis : Axis) (tol a b : ℤ) (first x y z : SpotData) → AreNear axis first x → AreNear axis first y → AreNear axis first z → Suits tol a b (point_from axis x x) (point_from axis x y) (point_from axis x z) → Suits tol a b (point_from axis first x) (point_from axis first y) (point_from axis first z)
suits_from axis tol a b first x y z nx ny nz s =
    let c : ℤ = x.epoch -ℤ first.epoch in
    let h : ℤ = offset axis first x in
    let ex : point_from axis x x ≡ moved_point (point_from axis first x) c h = seen_from axis first x x nx nx in
    let ey : point_from axis x y ≡ moved_point (point_from axis first y) c h = seen_from axis first x y nx ny in
    let ez : point_from axis x z ≡ moved_point (point_from axis first z) c h = seen_from axis first x z nx nz in
    suits_unmoved tol a b (point_from axis first x) (point_from axis first y) (point_from axis first z) c h
    (suits_along tol a b (point_from axis x x) (point_from axis x y) (point_from axis x z) (moved_point (point_from axis first x) c h) (moved_point (point_from axis first y) c h) (moved_point (point_from axis first z) c h) ex ey ez s)

suits_of_three : (axis : Axis) (tol a b : ℤ) (x y z : SpotData) → pos 0 <ℤ b → x.epoch <ℤ y.epoch → y.epoch <ℤ z.epoch → HasCoefficient axis tol (x ∷ y ∷ z ∷ []) a b → Suits tol a b (point_from axis x x) (point_from axis x y) (point_from axis x z)
suits_of_three axis tol a b x y z p xy yz w =
    let rise : RiseInTime (points axis (x ∷ y ∷ z ∷ [])) = times_rise axis x (x ∷ y ∷ z ∷ []) (three_rise x y z xy yz) in
    suits_of_passes_with tol a b (points axis (x ∷ y ∷ z ∷ [])) p rise w 0 1 2 (point_from axis x x) (omega arith) (omega arith) (omega arith)

pub three_suffice_law : (axis : Axis) (tol a b : ℤ) (spots : List SpotData) → IsArc spots → pos 0 ≤ℤ tol → pos 0 <ℤ b → EachThree (λ x y z. HasCoefficient axis tol (x ∷ y ∷ z ∷ []) a b) spots → HasCoefficient axis tol spots a b
three_suffice_law axis tol a b [] arc t p each = passes_with_of_suits tol a b [] t p (λ i j d ij jn. absurd (omega arith)) (λ i j k d ij jk kn. absurd (omega arith))
three_suffice_law axis tol a b (first ∷ rest) arc t p each =
    let spots : List SpotData = first ∷ rest in
    passes_with_of_suits tol a b (points axis spots) t p (times_rise axis first spots arc.rising) (λ i j k d ij jk kn.
    let n : k < length spots = omega (arith, length-map spots (point_from axis first), kn) in
    let x : SpotData = get_or spots i first in
    let y : SpotData = get_or spots j first in
    let z : SpotData = get_or spots k first in
    let cf : Contains spots first = (0, omega arith, refl) in
    let cx : Contains spots x = (i, omega arith, get_or_default spots i x first (omega arith)) in
    let cy : Contains spots y = (j, omega arith, get_or_default spots j y first (omega arith)) in
    let cz : Contains spots z = (k, n, get_or_default spots k z first n) in
    let s = suits_of_three axis tol a b x y z p (arc.rising i j first ij (omega arith)) (arc.rising j k first jk n) (each i j k first ij jk n) in
    let u = suits_from axis tol a b first x y z (near_of_arc axis spots first x arc cf cx) (near_of_arc axis spots first y arc cf cy) (near_of_arc axis spots first z arc cf cz) s in
    let ex : get_or (map (point_from axis first) spots) i d ≡ point_from axis first x = get_or-map (point_from axis first) spots i first d (omega arith) in
    let ey : get_or (map (point_from axis first) spots) j d ≡ point_from axis first y = get_or-map (point_from axis first) spots j first d (omega arith) in
    let ez : get_or (map (point_from axis first) spots) k d ≡ point_from axis first z = get_or-map (point_from axis first) spots k first d n in
    rw (ex, ey, ez) u)
