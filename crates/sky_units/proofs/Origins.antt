-- Whether an axis admits spots does not depend on the origin of time.
use Rattle.std.proofs.Common.{◌≡◌, ℤ, pos, ◌-ℤ◌, List, [], ◌∷◌, map, arith, sym, subst, refl}
use Rattle.std.specs.List.{All}
use Rattle.std.proofs.lemmas.Int.{ints}
use Rattle.std.proofs.lemmas.List.Elements.{All-cons, All-head, All-nil, All-tail}
use Rattle.sky_math.proofs.Shifts.{moved_point, passes_moved, shifted}
use Rattle.sky_math.specs.Quadratics.{Admits, Passes, Point}
use Rattle.sky_units.specs.Motion.{acceleration, offset, point_from, tolerance}
use Rattle.sky_units.specs.Reported.{OriginIsFree, offset_from, point_at, position_of}
use Rattle.sky_units.specs.SpotData.{SpotData}
use Rattle.sky_units.specs.declared.axis.Axis.{Axis}
use Rattle.sky_units.specs.declared.axis.Axis.TheVariants.{Ra, Dec}

pub offset_is : (axis : Axis) (first spot : SpotData) → offset axis first spot ≡ offset_from axis (position_of axis first) spot
offset_is Ra first spot = refl
offset_is Dec first spot = refl

-- a point counted from another time
point_moved : (s t y c : ℤ) → s -ℤ c ≡ t → record { time = t; position = y } ≡ moved_point (record { time = s; position = y }) c (pos 0)
point_moved s t y c e =
    let z : y -ℤ pos 0 ≡ y = omega (arith, ints) in
    rw (e, z) refl

-- what passes points passes them from another origin
pub carried : (acc tol c : ℤ) (g h : SpotData → Point) (spots : List SpotData) → ((spot : SpotData) → h spot ≡ moved_point (g spot) c (pos 0)) → Admits acc tol (map g spots) → Admits acc tol (map h spots)
carried acc tol c g h spots moved (f, admitted, passes) = (shifted f c (pos 0), admitted, each spots passes)
  where
    each : (xs : List SpotData) → All (Passes tol f) (map g xs) → All (Passes tol (shifted f c (pos 0))) (map h xs)
    each [] all = All-nil (Passes tol (shifted f c (pos 0)))
    each (x ∷ xs) all =
        let one : Passes tol (shifted f c (pos 0)) (moved_point (g x) c (pos 0)) = passes_moved tol f (g x) c (pos 0) (All-head (Passes tol f) (g x) (map g xs) all) in
        All-cons (Passes tol (shifted f c (pos 0))) (h x) (map h xs) (subst (Passes tol (shifted f c (pos 0))) (sym (moved x)) one) (each xs (All-tail (Passes tol f) (g x) (map g xs) all))

module _ (axis : Axis) (first : SpotData) (origin : ℤ) where
  there : (spot : SpotData) → point_at axis (position_of axis first) origin spot ≡ moved_point (point_from axis first spot) (origin -ℤ first.epoch) (pos 0)
  there spot =
      let e : (spot.epoch -ℤ first.epoch) -ℤ (origin -ℤ first.epoch) ≡ spot.epoch -ℤ origin = omega (arith, ints) in
      rw (← offset_is axis first spot) (point_moved (spot.epoch -ℤ first.epoch) (spot.epoch -ℤ origin) (offset axis first spot) (origin -ℤ first.epoch) e)

  back : (spot : SpotData) → point_from axis first spot ≡ moved_point (point_at axis (position_of axis first) origin spot) (first.epoch -ℤ origin) (pos 0)
  back spot =
      let e : (spot.epoch -ℤ origin) -ℤ (first.epoch -ℤ origin) ≡ spot.epoch -ℤ first.epoch = omega (arith, ints) in
      rw (offset_is axis first spot) (point_moved (spot.epoch -ℤ origin) (spot.epoch -ℤ first.epoch) (offset_from axis (position_of axis first) spot) (first.epoch -ℤ origin) e)

pub origin_is_free : OriginIsFree
origin_is_free axis settings [] origin = (λ a. a, λ a. a)
origin_is_free axis settings (first ∷ rest) origin = (
  carried (acceleration axis settings) (tolerance axis settings) (origin -ℤ first.epoch) (point_from axis first) (point_at axis (position_of axis first) origin) (first ∷ rest) (there axis first origin),
  carried (acceleration axis settings) (tolerance axis settings) (first.epoch -ℤ origin) (point_at axis (position_of axis first) origin) (point_from axis first) (first ∷ rest) (back axis first origin),
)
