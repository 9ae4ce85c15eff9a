-- Offsets from a first spot tell the offsets between the others.
use Rattle.std.proofs.Common.{◌≡◌, ℤ, pos, negsuc, ◌+ℤ◌, ◌-ℤ◌, ◌*ℤ◌, ◌≤ℤ◌, ◌<ℤ◌, ap, arith}
use Rattle.std.proofs.lemmas.Int.{ints}
use Rattle.sky_math.specs.Circle.{wrapped, full_turn, half_turn}
use Rattle.sky_units.proofs.Turning.{wrapped-is}
use Rattle.sky_units.specs.Arcs.{AreNear}
use Rattle.sky_units.specs.Motion.{offset}
use Rattle.sky_units.specs.SpotData.{SpotData}
use Rattle.sky_units.specs.declared.axis.Axis.{Axis}
use Rattle.sky_units.specs.declared.axis.Axis.TheVariants.{Ra, Dec}

-- what lies within half a turn and differs by whole turns is the wrapped difference
pub wrapped_alone : (d w k : ℤ) → d ≡ w +ℤ (k *ℤ full_turn) → negsuc 179999999 ≤ℤ w → w <ℤ half_turn → wrapped d ≡ w
wrapped_alone d w k e low high =
    let u = wrapped-is d in
    let v : ℤ = wrapped d in
    let j : ℤ = u.turns.0 in
    let f : d ≡ v +ℤ (j *ℤ full_turn) = u.turns.1 in
    let l : negsuc 179999999 ≤ℤ v = u.lowest in
    let h : v <ℤ half_turn = u.highest in
    one_of v w j k (omega (arith, ints, e, f)) l h low high
  where
    one_of : (v w j k : ℤ) → v +ℤ (j *ℤ full_turn) ≡ w +ℤ (k *ℤ full_turn) → negsuc 179999999 ≤ℤ v → v <ℤ half_turn → negsuc 179999999 ≤ℤ w → w <ℤ half_turn → v ≡ w
    one_of v w j k e a b c d = omega (arith, ints)

pub offset_same : (axis : Axis) (a : SpotData) → offset axis a a ≡ pos 0
offset_same Ra a = let z : a.ra -ℤ a.ra ≡ pos 0 = omega (arith, ints) in ap wrapped z
offset_same Dec a = omega (arith, ints)

-- the offset between two spots near a first one is the difference of their offsets from it
pub offset_between : (axis : Axis) (first a b : SpotData) → AreNear axis first a → AreNear axis first b → offset axis a b ≡ offset axis first b -ℤ offset axis first a
offset_between Ra first a b na nb =
    let x : ℤ = wrapped (a.ra -ℤ first.ra) in
    let y : ℤ = wrapped (b.ra -ℤ first.ra) in
    let u = wrapped-is (a.ra -ℤ first.ra) in
    let v = wrapped-is (b.ra -ℤ first.ra) in
    wrapped_alone (b.ra -ℤ a.ra) (y -ℤ x) (v.turns.0 -ℤ u.turns.0) (turned a.ra b.ra first.ra x y u.turns.0 v.turns.0 u.turns.1 v.turns.1) (omega (arith, ints, na, nb)) (omega (arith, ints, na, nb))
  where
    turned : (a b f x y j k : ℤ) → a -ℤ f ≡ x +ℤ (j *ℤ full_turn) → b -ℤ f ≡ y +ℤ (k *ℤ full_turn) → b -ℤ a ≡ (y -ℤ x) +ℤ ((k -ℤ j) *ℤ full_turn)
    turned a b f x y j k p q = omega (arith, ints)
offset_between Dec first a b na nb = omega (arith, ints)
