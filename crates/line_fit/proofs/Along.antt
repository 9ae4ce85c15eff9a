-- A line through the first of some spots that is near all others.
use Rattle.std.proofs.Common.{◌≡◌, ◌∙◌, ap, subst, ℕ, ◌+◌, ◌<◌, ◌≤◌, ℤ, pos, neg_ℤ, ◌+ℤ◌, ◌-ℤ◌, ◌*ℤ◌, ◌≤ℤ◌, ◌<ℤ◌, true, List, [], ◌∷◌, map, length, get_or, arith}
use Rattle.std.specs.List.{All}
use Rattle.std.proofs.lemmas.Int.{ints}
use Rattle.std.proofs.lemmas.Bool.{cases_lt}
use Rattle.std.proofs.lemmas.List.{get_or-map, get_or_read, length-map}
use borrow.Author.Differences.{same_in, product_is}
use mathlib.Core.Logic.{inl, inr}
use Prim.Native.Nat.{zero, suc}
use Rattle.sky_math.proofs.Order.{linear, mul_le, mul_not_negative}
use Rattle.sky_math.proofs.Ring.{add_mul, mul_comm, sub_mul}
use Rattle.sky_math.specs.Quadratics.{IsWithin}
use Rattle.sky_units.proofs.Between.{offset_same}
use Rattle.sky_units.specs.Arcs.{IsArc}
use Rattle.sky_units.specs.Motion.{offset, point_from, points}
use Rattle.sky_units.specs.SpotData.{SpotData}
use Rattle.sky_units.specs.declared.axis.Axis.{Axis}
use Rattle.line_fit.specs.Lines.{IsNearPoint, per_tick, slopes_meet}
use Rattle.line_fit.specs.Quotients.{IsAtLeast, IsAtMost}
use Rattle.line_fit.specs.Slopes.{AreSuited, Suits}
use Rattle.line_fit.proofs.Tells.{meets_of_some_slope, suits_of_line}

-- within twice a half of the tolerance
near_other : (t h a b o e : ℤ) → pos 0 <ℤ b → (h +ℤ h) ≤ℤ t → ((o -ℤ (h +ℤ h)) *ℤ b) ≤ℤ (a *ℤ e) → (a *ℤ e) ≤ℤ ((o +ℤ (h +ℤ h)) *ℤ b) → IsWithin (t *ℤ b) ((pos 0 +ℤ (a *ℤ e)) -ℤ (o *ℤ b))
near_other t h a b o e pb small low high =
    let wide : (b *ℤ (h +ℤ h)) ≤ℤ (b *ℤ t) = mul_le b (h +ℤ h) t (omega (arith, linear, pb)) small in
    let w : ((h +ℤ h) *ℤ b) ≤ℤ (t *ℤ b) = rw (mul_comm (h +ℤ h) b, mul_comm t b) wide in
    let l : ((o *ℤ b) -ℤ ((h +ℤ h) *ℤ b)) ≤ℤ (a *ℤ e) = rw (sub_mul o (h +ℤ h) b) at low in
    let m : (a *ℤ e) ≤ℤ ((o *ℤ b) +ℤ ((h +ℤ h) *ℤ b)) = rw (add_mul o (h +ℤ h) b) at high in
    (omega (arith, linear, w, l, m), omega (arith, linear, w, l, m))

none_times : (d : ℤ) → pos 0 *ℤ d ≡ pos 0
none_times d = same_in _ _ (omega (arith, product_is (pos 0) d))

near_first : (t a b o e : ℤ) → o ≡ pos 0 → e ≡ pos 0 → pos 0 ≤ℤ (t *ℤ b) → IsWithin (t *ℤ b) ((pos 0 +ℤ (a *ℤ e)) -ℤ (o *ℤ b))
near_first t a b o e eo ee w =
    let x : o *ℤ b ≡ pos 0 = ap (λ z. z *ℤ b) eo ∙ none_times b in
    let y : a *ℤ e ≡ pos 0 = mul_comm a e ∙ ap (λ z. z *ℤ a) ee ∙ none_times a in
    (omega (arith, linear, x, y, w), omega (arith, linear, x, y, w))

pub near_all : (axis : Axis) (tol half a b : ℤ) (spots : List SpotData) → pos 0 <ℤ b → pos 0 ≤ℤ tol → (half +ℤ half) ≤ℤ tol → AreSuited axis half a b spots (length spots) → All (IsNearPoint tol record { p = pos 0; v = a; d = b }) (points axis spots)
near_all axis tol half a b [] pb pt small suits = λ k d h. absurd (omega arith)
near_all axis tol half a b (first ∷ rest) pb pt small suits = λ k d h.
    let spots : List SpotData = first ∷ rest in
    let lk : k < length spots = omega (arith, length-map spots (point_from axis first)) in
    let e : get_or (map (point_from axis first) spots) k d ≡ point_from axis first (get_or spots k first) = get_or-map (point_from axis first) spots k first d lk in
    rw e (each k lk)
  where
    each : (k : ℕ) → k < length (first ∷ rest) → IsNearPoint tol record { p = pos 0; v = a; d = b } (point_from axis first (get_or (first ∷ rest) k first))
    each zero h = near_first tol a b (offset axis first first) (first.epoch -ℤ first.epoch) (offset_same axis first) (omega (arith, ints)) (mul_not_negative tol b pt (omega (arith, linear, pb)))
    each (suc j) h =
        let s : Suits axis half a b first (get_or (first ∷ rest) (suc j) first) = suits (suc j) first (omega arith) h in
        near_other tol half a b (offset axis first (get_or (first ∷ rest) (suc j) first)) ((get_or (first ∷ rest) (suc j) first).epoch -ℤ first.epoch) pb small s.0 s.1

-- one spot more
pub suited_more : (axis : Axis) (tol a b : ℤ) (spots : List SpotData) (n : ℕ) (x y : SpotData) → n < length spots → x ≡ get_or spots 0 x → y ≡ get_or spots n y → AreSuited axis tol a b spots n → Suits axis tol a b x y → AreSuited axis tol a b spots (n + 1)
suited_more axis tol a b spots n x y h ex ey before s = λ i d low high. elim (cases_lt i n) as (λ _. Suits axis tol a b (get_or spots 0 d) (get_or spots i d)) [
  | inl l ↦ before i d low l
  | inr m ↦
      let e : n ≡ i = omega arith in
      let fx : x ≡ get_or spots 0 d = get_or_read spots 0 x (omega arith) ex d in
      let fy : y ≡ get_or spots n d = get_or_read spots n y h ey d in
      subst (λ (k : ℕ). Suits axis tol a b (get_or spots 0 d) (get_or spots k d)) e (rw (← fx, ← fy) s)
]

pub none_suited : (axis : Axis) (tol a b : ℤ) (spots : List SpotData) → AreSuited axis tol a b spots 1
none_suited axis tol a b spots = λ i d low high. absurd (omega arith)

pub suited_all : (axis : Axis) (tol a b : ℤ) (spots : List SpotData) (n : ℕ) → length spots ≤ n → AreSuited axis tol a b spots n → AreSuited axis tol a b spots (length spots)
suited_all axis tol a b spots n h before = λ i d low high. before i d low (omega arith)

-- the slope of such a line is one that all have in common
pub meets_along : (axis : Axis) (tol rate half a b : ℤ) (spots : List SpotData) → IsArc spots → pos 0 <ℤ b → pos 0 ≤ℤ tol → (half +ℤ half) ≤ℤ tol → IsAtMost (per_tick (neg_ℤ rate)) a b → IsAtLeast (per_tick rate) a b →
    AreSuited axis half a b spots (length spots) → slopes_meet axis tol rate spots ≡ true
meets_along axis tol rate half a b spots arc pb pt small from to suits =
    meets_of_some_slope axis tol rate spots arc.rising record {
      a = a;
      b = b;
      positive = pb;
      from = from;
      to = to;
      suits = suits_of_line axis tol record { p = pos 0; v = a; d = b } spots arc.spread (near_all axis tol half a b spots pb pt small suits);
    }
