-- Whether spots are admitted does not depend on the spot that they are counted from.
use Rattle.std.proofs.Common.{◌≡◌, ◌<◌, ℤ, ◌-ℤ◌, List, [], ◌∷◌, length, map, get_or, refl, ◌∙◌, ◌↔◌, arith}
use Rattle.std.proofs.lemmas.List.{get_or-map, length-map, get_or_default}
use Rattle.std.specs.List.{All, Contains}
use Rattle.sky_math.proofs.Shifts.{shifted, moved_point, passes_moved}
use Rattle.sky_math.specs.Quadratics.{Quadratic, Passes, Admits}
use Rattle.sky_units.proofs.Parts.{near_of_arc, seen_from}
use Rattle.sky_units.specs.Arcs.{IsArc, AreNear}
use Rattle.sky_units.specs.Motion.{offset, point_from, AxisAdmits, acceleration, tolerance}
use Rattle.sky_units.specs.SettingsData.{SettingsData}
use Rattle.sky_units.specs.SpotData.{SpotData}
use Rattle.sky_units.specs.declared.axis.Axis.{Axis}

-- what a quadratic passes as seen from one spot, the shifted one passes as seen from another
passed_from : (axis : Axis) (tol : ℤ) (f : Quadratic) (one other : SpotData) (spots : List SpotData) → IsArc spots → Contains spots one → Contains spots other →
    All (Passes tol f) (map (point_from axis one) spots) → All (Passes tol (shifted f (other.epoch -ℤ one.epoch) (offset axis one other))) (map (point_from axis other) spots)
passed_from axis tol f one other spots arc has has' passes = λ k d h.
    let n : k < length spots = omega (arith, length-map spots (point_from axis other), h) in
    let x : SpotData = get_or spots k one in
    let cx : Contains spots x = (k, n, get_or_default spots k x one n) in
    let near : AreNear axis one other = near_of_arc axis spots one other arc has has' in
    let near' : AreNear axis one x = near_of_arc axis spots one x arc has cx in
    let old : Passes tol f (get_or (map (point_from axis one) spots) k (point_from axis one x)) = passes k (point_from axis one x) (omega (arith, length-map spots (point_from axis one), n)) in
    let read : get_or (map (point_from axis one) spots) k (point_from axis one x) ≡ point_from axis one x = get_or-map (point_from axis one) spots k one (point_from axis one x) n in
    let here : Passes tol f (point_from axis one x) = rw read at old in
    let there : get_or (map (point_from axis other) spots) k d ≡ moved_point (point_from axis one x) (other.epoch -ℤ one.epoch) (offset axis one other) = get_or-map (point_from axis other) spots k one d n ∙ seen_from axis one other x near near' in
    rw there (passes_moved tol f (point_from axis one x) (other.epoch -ℤ one.epoch) (offset axis one other) here)

admitted_from : (axis : Axis) (acc tol : ℤ) (one other : SpotData) (spots : List SpotData) → IsArc spots → Contains spots one → Contains spots other →
    Admits acc tol (map (point_from axis one) spots) → Admits acc tol (map (point_from axis other) spots)
admitted_from axis acc tol one other spots arc has has' w =
    (shifted w.0 (other.epoch -ℤ one.epoch) (offset axis one other), w.1, passed_from axis tol w.0 one other spots arc has has' w.2)

pub admitted_anywhere : (axis : Axis) (settings : SettingsData) (base : SpotData) (spots : List SpotData) → IsArc spots → Contains spots base →
    Admits (acceleration axis settings) (tolerance axis settings) (map (point_from axis base) spots) ↔ AxisAdmits axis settings spots
admitted_anywhere axis settings base [] arc has = absurd (omega (arith, has.1))
admitted_anywhere axis settings base (first ∷ rest) arc has =
    let first_has : Contains (first ∷ rest) first = (0, omega arith, refl) in (
      λ w. admitted_from axis (acceleration axis settings) (tolerance axis settings) base first (first ∷ rest) arc has first_has w,
      λ w. admitted_from axis (acceleration axis settings) (tolerance axis settings) first base (first ∷ rest) arc first_has has w,
    )
