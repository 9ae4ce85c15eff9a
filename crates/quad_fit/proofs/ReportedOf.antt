-- A tight quadratic in lowest terms, counted from the middle epoch and the first position of the spots, is the reported one.
use Rattle.std.proofs.Common.{◌≡◌, ◌∙◌, ◌<◌, ℤ, ◌-ℤ◌, List, [], ◌∷◌, length, map, get_or, refl, sym, subst, ap, arith}
use Rattle.std.proofs.lemmas.Int.{ints}
use Rattle.std.specs.List.{Contains}
use Prim.Native.Nat.{suc}
use Rattle.sky_math.proofs.Shifts.{moved_point}
use Rattle.sky_math.specs.Quadratics.{Point, Quadratic}
use Rattle.sky_units.proofs.Origins.{offset_is}
use Rattle.sky_units.proofs.Parts.{near_of_arc, seen_from}
use Rattle.sky_units.specs.Arcs.{IsArc}
use Rattle.sky_units.specs.Motion.{acceleration, offset, point_from, tolerance}
use Rattle.sky_units.specs.QuadData.{QuadData, quadratic_of}
use Rattle.sky_units.specs.Reported.{IsReported, first_position, middle_epoch, offset_from, point_at, position_of}
use Rattle.sky_units.specs.SettingsData.{SettingsData}
use Rattle.sky_units.specs.SpotData.{SpotData}
use Rattle.sky_units.specs.declared.axis.Axis.{Axis}
use Rattle.quad_fit.specs.Lowering.{IsLowered, IsSeenFrom}
use Rattle.quad_fit.proofs.Tight.{IsTight, all_moved, least_of_tight, tight_lowered, tight_seen}

-- ---- the same points
mapped_same : {X Y Z : Type 0} (f : X → Z) (g : X → Y) (h : Y → Z) (xs : List X) → ((x : X) → Contains xs x → f x ≡ h (g x)) → map f xs ≡ map h (map g xs)
mapped_same f g h [] each = refl
mapped_same f g h (x ∷ xs) each =
    let head : f x ≡ h (g x) = each x (0, omega arith, refl) in
    let tail : map f xs ≡ map h (map g xs) = mapped_same f g h xs (λ y has. each y (suc has.0, omega (arith, has.1), has.2)) in
    rw (head, tail) refl

point_seen : (axis : Axis) (base first x : SpotData) (spots : List SpotData) (origin : ℤ) → IsArc spots → Contains spots base → Contains spots first → Contains spots x →
    point_at axis (position_of axis first) origin x ≡ moved_point (point_from axis base x) (origin -ℤ base.epoch) (offset axis base first)
point_seen axis base first x spots origin arc has has_first has_x =
    let t : x.epoch -ℤ origin ≡ (x.epoch -ℤ base.epoch) -ℤ (origin -ℤ base.epoch) = omega (arith, ints) in
    let s : point_from axis first x ≡ moved_point (point_from axis base x) (first.epoch -ℤ base.epoch) (offset axis base first) =
    seen_from axis base first x (near_of_arc axis spots base first arc has has_first) (near_of_arc axis spots base x arc has has_x) in
    let p : offset_from axis (position_of axis first) x ≡ offset axis base x -ℤ offset axis base first = sym (offset_is axis first x) ∙ ap (λ (y : Point). y.position) s in
    rw (t, p) refl

pub points_seen : (axis : Axis) (base first : SpotData) (spots : List SpotData) (origin : ℤ) → IsArc spots → Contains spots base → Contains spots first →
    map (point_at axis (position_of axis first) origin) spots ≡ all_moved (origin -ℤ base.epoch) (offset axis base first) (map (point_from axis base) spots)
points_seen axis base first spots origin arc has has_first =
    mapped_same (point_at axis (position_of axis first) origin) (point_from axis base) (λ y. moved_point y (origin -ℤ base.epoch) (offset axis base first)) spots
    (λ x has_x. point_seen axis base first x spots origin arc has has_first has_x)

pub first_is : (axis : Axis) (first : SpotData) (spots : List SpotData) → 0 < length spots → first ≡ get_or spots 0 first → first_position axis spots ≡ position_of axis first
first_is axis first [] some e = absurd (omega arith)
first_is axis first (x ∷ rest) some e = ap (position_of axis) (sym e)

-- ---- the reported quadratic
pub reported_of : (axis : Axis) (settings : SettingsData) (spots : List SpotData) (base first : SpotData) (f g : Quadratic) (quad : QuadData) → IsArc spots → Contains spots base → 0 < length spots → first ≡ get_or spots 0 first →
    IsTight (acceleration axis settings) (tolerance axis settings) (map (point_from axis base) spots) f → IsSeenFrom (middle_epoch spots -ℤ base.epoch) (offset axis base first) f g → IsLowered g (quadratic_of quad) →
    quad.base ≡ position_of axis first → quad.start ≡ middle_epoch spots → IsReported axis settings spots quad
reported_of axis settings spots base first f g quad arc has some first_is_it tight seen lowered base_is start_is =
    let acc : ℤ = acceleration axis settings in
    let tol : ℤ = tolerance axis settings in
    let xs : List Point = map (point_from axis base) spots in
    let has_first : Contains spots first = (0, some, sym first_is_it) in
    let there : IsTight acc tol (all_moved (middle_epoch spots -ℤ base.epoch) (offset axis base first) xs) (quadratic_of quad) =
    tight_lowered acc tol (all_moved (middle_epoch spots -ℤ base.epoch) (offset axis base first) xs) g (quadratic_of quad) lowered
    (tight_seen acc tol xs f g (middle_epoch spots -ℤ base.epoch) (offset axis base first) seen tight) in
    let moved : IsTight acc tol (map (point_at axis (position_of axis first) (middle_epoch spots)) spots) (quadratic_of quad) =
    subst (λ ys. IsTight acc tol ys (quadratic_of quad)) (sym (points_seen axis base first spots (middle_epoch spots) arc has has_first)) there in
    let here : IsTight acc tol (map (point_at axis quad.base quad.start) spots) (quadratic_of quad) =
    subst (λ b. IsTight acc tol (map (point_at axis b quad.start) spots) (quadratic_of quad)) (sym base_is)
    (subst (λ s. IsTight acc tol (map (point_at axis (position_of axis first) s) spots) (quadratic_of quad)) (sym start_is) moved) in
    record {
      base_is = base_is ∙ sym (first_is axis first spots some first_is_it);
      start_is = start_is;
      passes = record { admitted = here.admitted; passes = here.passes };
      least = λ k good. least_of_tight acc tol (map (point_at axis quad.base quad.start) spots) (quadratic_of quad) k here good.admitted good.passes;
      lowest = lowered.lowest;
    }
