-- Lifted differences do not depend on the base.
use Rattle.std.proofs.Common.{◌≡◌, ◌∙◌, ℕ, ℤ, pos, neg_ℤ, ◌<◌, ◌+ℤ◌, ◌-ℤ◌, ◌*ℤ◌, List, length, get_or, sym, subst, arith}
use Rattle.std.proofs.lemmas.Int.{ints}
use Rattle.std.proofs.lemmas.Bool.{cases_lt}
use Rattle.std.proofs.lemmas.List.{get_or_default}
use Rattle.std.specs.List.{Contains}
use mathlib.Core.Logic.{inl, inr}
use Rattle.sky_math.specs.Circle.{wrapped, full_turn}
use Rattle.sky_units.proofs.Between.{wrapped_alone, offset_same, offset_between}
use Rattle.sky_units.proofs.Turning.{wrapped-is}
use Rattle.sky_units.specs.Arcs.{AreNear, MeetSpreadRule}
use Rattle.sky_units.specs.Laws.{lifted_difference, LiftedDifferencesAgree}
use Rattle.sky_units.specs.Motion.{offset}
use Rattle.sky_units.specs.SpotData.{SpotData}
use Rattle.sky_units.specs.declared.axis.Axis.{Axis}
use Rattle.sky_units.specs.declared.axis.Axis.TheVariants.{Ra, Dec}

-- near spots are as far from one another both ways
turned_round : (axis : Axis) (a b : SpotData) → AreNear axis a b → offset axis b a ≡ neg_ℤ (offset axis a b)
turned_round Ra a b near =
    let u = wrapped-is (b.ra -ℤ a.ra) in
    let v : ℤ = wrapped (b.ra -ℤ a.ra) in
    wrapped_alone (a.ra -ℤ b.ra) (neg_ℤ v) (neg_ℤ u.turns.0) (back a.ra b.ra v u.turns.0 u.turns.1) (omega (arith, ints, near)) (omega (arith, ints, near))
  where
    back : (a b v k : ℤ) → b -ℤ a ≡ v +ℤ (k *ℤ full_turn) → a -ℤ b ≡ neg_ℤ v +ℤ (neg_ℤ k *ℤ full_turn)
    back a b v k e = omega (arith, ints)
turned_round Dec a b near = omega (arith, ints)

near_back : (axis : Axis) (a b : SpotData) → AreNear axis a b → AreNear axis b a
near_back axis a b near = let e : offset axis b a ≡ neg_ℤ (offset axis a b) = turned_round axis a b near in rw e (omega (arith, ints, near), omega (arith, ints, near))

near_itself : (axis : Axis) (a : SpotData) → AreNear axis a a
near_itself axis a = let e : offset axis a a ≡ pos 0 = offset_same axis a in rw e (omega (arith, ints), omega (arith, ints))

-- one axis of a spread rule
near_on : (axis : Axis) (a b : SpotData) → AreNear Ra a b × AreNear Dec a b → AreNear axis a b
near_on Ra a b near = near.0
near_on Dec a b near = near.1

near_at : (axis : Axis) (spots : List SpotData) (i j : ℕ) (d : SpotData) → MeetSpreadRule spots → i < length spots → j < length spots → AreNear axis (get_or spots i d) (get_or spots j d)
near_at axis spots i j d spread il jl = elim (cases_lt i j) [
  | inl less ↦ near_on axis (get_or spots i d) (get_or spots j d) (spread i j d less jl)
  | inr more ↦ elim (cases_lt j i) [
    | inl less ↦ near_back axis (get_or spots j d) (get_or spots i d) (near_on axis (get_or spots j d) (get_or spots i d) (spread j i d less il))
    | inr same ↦
        let e : i ≡ j = omega arith in
        subst (λ k. AreNear axis (get_or spots i d) (get_or spots k d)) e (near_itself axis (get_or spots i d))
  ]
]

near_members : (axis : Axis) (spots : List SpotData) (a b : SpotData) → MeetSpreadRule spots → Contains spots a → Contains spots b → AreNear axis a b
near_members axis spots a b spread (i, il, ei) (j, jl, ej) =
    let e : get_or spots j a ≡ b = get_or_default spots j a b jl ∙ ej in
    let near : AreNear axis (get_or spots i a) (get_or spots j a) = near_at axis spots i j a spread il jl in
    rw (ei, e) at near

-- against a base near both, a lifted difference is the offset
is_offset : (axis : Axis) (base from to : SpotData) → AreNear axis base from → AreNear axis base to → lifted_difference axis base from to ≡ offset axis from to
is_offset Ra base from to nf nt = let e : offset Ra from to ≡ offset Ra base to -ℤ offset Ra base from = offset_between Ra base from to nf nt in rw e (omega (arith, ints))
is_offset Dec base from to nf nt = omega (arith, ints)

pub lifted_differences_agree : LiftedDifferencesAgree
lifted_differences_agree axis spots base other from to spread b o f t =
    is_offset axis base from to (near_members axis spots base from spread b f) (near_members axis spots base to spread b t)
    ∙ sym (is_offset axis other from to (near_members axis spots other from spread o f) (near_members axis spots other to spread o t))
