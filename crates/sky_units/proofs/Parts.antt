-- A part of spots that an axis admits is admitted, wherever its spots are counted from.
use Rattle.std.proofs.Common.{◌≡◌, ℕ, ◌<◌, ℤ, ◌-ℤ◌, List, [], ◌∷◌, length, get_or, refl, sym, subst, ap, ◌∙◌, arith}
use Rattle.std.proofs.lemmas.Bool.{cases_order}
use Rattle.std.proofs.lemmas.Int.{ints}
use Rattle.std.proofs.lemmas.List.{get_or-map, length-map, get_or_default}
use Rattle.std.specs.List.{All, Contains}
use mathlib.Core.Logic.{inl, inr}
use Rattle.sky_math.proofs.Shifts.{shifted, moved_point, passes_moved}
use Rattle.sky_math.specs.Quadratics.{Quadratic, Passes}
use Rattle.sky_units.proofs.Between.{offset_same, offset_between}
use Rattle.sky_units.specs.Arcs.{AreNear, IsArc}
use Rattle.sky_units.specs.Motion.{offset, point_from, points, AxisAdmits, tolerance}
use Rattle.sky_units.specs.SettingsData.{SettingsData}
use Rattle.sky_units.specs.SpotData.{SpotData}
use Rattle.sky_units.specs.declared.axis.Axis.{Axis}
use Rattle.sky_units.specs.declared.axis.Axis.TheVariants.{Ra, Dec}

near_itself : (axis : Axis) (a : SpotData) → AreNear axis a a
near_itself axis a = let o = offset_same axis a in (rw o (omega (arith, ints)), rw o (omega (arith, ints)))

-- who is near is near the other way
near_back : (axis : Axis) (a b : SpotData) → AreNear axis a b → AreNear axis b a
near_back axis a b n =
    let e = offset_between axis a b a n (near_itself axis a) in
    let o = offset_same axis a in
    (omega (arith, ints, e, o, n), omega (arith, ints, e, o, n))

near_axis : (axis : Axis) (spots : List SpotData) → IsArc spots → (i j : ℕ) (d : SpotData) → i < j → j < length spots → AreNear axis (get_or spots i d) (get_or spots j d)
near_axis Ra spots arc i j d ij jn = (arc.spread i j d ij jn).0
near_axis Dec spots arc i j d ij jn = (arc.spread i j d ij jn).1

-- each two of an arc are near, in either order
pub near_of_arc : (axis : Axis) (spots : List SpotData) (x y : SpotData) → IsArc spots → Contains spots x → Contains spots y → AreNear axis x y
near_of_arc axis spots x y arc cx cy =
    let i : ℕ = cx.0 in
    let j : ℕ = cy.0 in
    let il : i < length spots = cx.1 in
    let jl : j < length spots = cy.1 in
    let ex : get_or spots i x ≡ x = cx.2 in
    let ey : get_or spots j x ≡ y = get_or_default spots j x y jl ∙ cy.2 in
    elim (cases_order i j) as (λ _. AreNear axis x y) [
      | inl e ↦ let s : x ≡ y = sym ex ∙ ap (λ (n : ℕ). get_or spots n x) e ∙ ey in subst (λ (u : SpotData). AreNear axis x u) s (near_itself axis x)
      | inr c ↦ elim c as (λ _. AreNear axis x y) [
        | inl l ↦ rw (ex, ey) at (near_axis axis spots arc i j x l jl)
        | inr l ↦ near_back axis y x (rw (ex, ey) at (near_axis axis spots arc j i x l il))
      ]
    ]

-- a spot seen from another spot of the arc
pub seen_from : (axis : Axis) (a b x : SpotData) → AreNear axis a b → AreNear axis a x → point_from axis b x ≡ moved_point (point_from axis a x) (b.epoch -ℤ a.epoch) (offset axis a b)
seen_from axis a b x nb nx =
    let t : x.epoch -ℤ b.epoch ≡ (x.epoch -ℤ a.epoch) -ℤ (b.epoch -ℤ a.epoch) = omega (arith, ints) in
    let p : offset axis b x ≡ offset axis a x -ℤ offset axis a b = offset_between axis a b x nb nx in
    rw (t, p) refl

first_contained : (a : SpotData) (rest : List SpotData) → Contains (a ∷ rest) a
first_contained a rest = (0, omega arith, refl)

-- what a quadratic passes of an arc, seen from its first spot, its shifted one passes seen from another spot
part_passed : (axis : Axis) (tol : ℤ) (f : Quadratic) (a : SpotData) (rest : List SpotData) (b : SpotData) (more : List SpotData) → IsArc (a ∷ rest) → All (Contains (a ∷ rest)) (b ∷ more) → All (Passes tol f) (points axis (a ∷ rest)) → All (Passes tol (shifted f (b.epoch -ℤ a.epoch) (offset axis a b))) (points axis (b ∷ more))
part_passed axis tol f a rest b more arc part passes = λ k d h.
    let n : k < length (b ∷ more) = omega (arith, length-map (b ∷ more) (point_from axis b), h) in
    let x : SpotData = get_or (b ∷ more) k b in
    let cx : Contains (a ∷ rest) x = part k b n in
    let cb : Contains (a ∷ rest) b = part 0 b (omega arith) in
    let nb : AreNear axis a b = near_of_arc axis (a ∷ rest) a b arc (first_contained a rest) cb in
    let nx : AreNear axis a x = near_of_arc axis (a ∷ rest) a x arc (first_contained a rest) cx in
    let m : ℕ = cx.0 in
    let ml : m < length (a ∷ rest) = cx.1 in
    let old : Passes tol f (get_or (points axis (a ∷ rest)) m (point_from axis a a)) = passes m (point_from axis a a) (omega (arith, length-map (a ∷ rest) (point_from axis a), ml)) in
    let read : get_or (points axis (a ∷ rest)) m (point_from axis a a) ≡ point_from axis a x = get_or-map (point_from axis a) (a ∷ rest) m x (point_from axis a a) ml ∙ ap (point_from axis a) cx.2 in
    let here : Passes tol f (point_from axis a x) = rw read at old in
    let there : get_or (points axis (b ∷ more)) k d ≡ moved_point (point_from axis a x) (b.epoch -ℤ a.epoch) (offset axis a b) = get_or-map (point_from axis b) (b ∷ more) k b d n ∙ seen_from axis a b x nb nx in
    rw there (passes_moved tol f (point_from axis a x) (b.epoch -ℤ a.epoch) (offset axis a b) here)

-- a part of what an axis admits is admitted
pub part_is_admitted : (axis : Axis) (settings : SettingsData) (spots part : List SpotData) → IsArc spots → All (Contains spots) part → AxisAdmits axis settings spots → AxisAdmits axis settings part
part_is_admitted axis settings spots [] arc inside w = (w.0, w.1, λ k d h. absurd (omega arith))
part_is_admitted axis settings [] (b ∷ more) arc inside w = absurd (let c = inside 0 b (omega arith) in omega (arith, c.1))
part_is_admitted axis settings (a ∷ rest) (b ∷ more) arc inside w =
    (shifted w.0 (b.epoch -ℤ a.epoch) (offset axis a b), w.1, part_passed axis (tolerance axis settings) w.0 a rest b more arc inside w.2)
