-- Two spots of a line lie on a line: they reach each other at the greatest rate, but for the tolerance.
use Rattle.std.proofs.Common.{◌≡◌, ℕ, ◌<◌, ℤ, pos, neg_ℤ, ◌+ℤ◌, ◌-ℤ◌, ◌*ℤ◌, ◌≤ℤ◌, ◌<ℤ◌, true, ◌&&◌, List, length, get_or, arith}
use Rattle.std.specs.List.{list_all}
use Rattle.sky_math.proofs.Lines.{at_most_chain}
use Rattle.sky_math.proofs.Order.{linear}
use Rattle.sky_math.proofs.Ring.{add_mul, sub_mul, neg_mul}
use Rattle.sky_math.specs.Quadratics.{IsWithin}
use Rattle.sky_units.specs.Arcs.{HaveRisingEpochs}
use Rattle.sky_units.specs.Motion.{offset}
use Rattle.sky_units.specs.SpotData.{SpotData}
use Rattle.sky_units.specs.declared.axis.Axis.{Axis}
use Rattle.sky_units.specs.declared.axis.Axis.TheVariants.{Ra, Dec}
use Rattle.line_fit.specs.Lines.{each_two, follows_near, lies_on_line, slopes_meet}
use Rattle.line_fit.proofs.Tells.{follow_of_test, some_slope_of_meets}
use Rattle.line_fit.proofs.Twos.{both}

-- how far two spots of a line may be apart, times the ticks of a day
abbrev pub reach : ℤ → ℤ → ℤ → ℤ
reach tol rate ticks = (rate *ℤ ticks) +ℤ ((tol +ℤ tol) *ℤ pos 1000000)

reach_of : (o t e a b rate : ℤ) → pos 0 <ℤ b → pos 0 <ℤ e → (neg_ℤ rate *ℤ b) ≤ℤ (a *ℤ pos 1000000) → (a *ℤ pos 1000000) ≤ℤ (rate *ℤ b) → ((o -ℤ (t +ℤ t)) *ℤ b) ≤ℤ (a *ℤ e) → (a *ℤ e) ≤ℤ ((o +ℤ (t +ℤ t)) *ℤ b) →
    IsWithin (reach t rate e) (o *ℤ pos 1000000)
reach_of o t e a b rate pb pe from to low high =
    let m : pos 0 <ℤ pos 1000000 = omega (arith, linear) in
    let u : ((o -ℤ (t +ℤ t)) *ℤ pos 1000000) ≤ℤ (rate *ℤ e) = at_most_chain (o -ℤ (t +ℤ t)) e a b rate (pos 1000000) pe pb m low to in
    let l : (neg_ℤ rate *ℤ e) ≤ℤ ((o +ℤ (t +ℤ t)) *ℤ pos 1000000) = at_most_chain (neg_ℤ rate) (pos 1000000) a b (o +ℤ (t +ℤ t)) e m pb pe from high in
    let u' = simp (sub_mul) at u in
    let l' = simp (add_mul, neg_mul) at l in
    let s : (t +ℤ t) *ℤ pos 1000000 ≡ (t *ℤ pos 1000000) +ℤ (t *ℤ pos 1000000) = add_mul t t (pos 1000000) in
    (omega (arith, linear, u', l', s), omega (arith, linear, u', l', s))

-- two spots of a line: the later one is within reach of the earlier one on both axes
pub record AreInReach (tol rate_ra rate_dec : ℤ) (x y : SpotData) : Type 0 where
  pub later : x.epoch <ℤ y.epoch
  pub ra : IsWithin (reach tol rate_ra (y.epoch -ℤ x.epoch)) (offset Ra x y *ℤ pos 1000000)
  pub dec : IsWithin (reach tol rate_dec (y.epoch -ℤ x.epoch)) (offset Dec x y *ℤ pos 1000000)

on_axis : (axis : Axis) (tol rate : ℤ) (spots : List SpotData) (i j : ℕ) (d : SpotData) → HaveRisingEpochs spots → slopes_meet axis tol rate spots ≡ true → i < j → j < length spots →
    IsWithin (reach tol rate ((get_or spots j d).epoch -ℤ (get_or spots i d).epoch)) (offset axis (get_or spots i d) (get_or spots j d) *ℤ pos 1000000)
on_axis axis tol rate spots i j d rise meets ij jn =
    let w = some_slope_of_meets axis tol rate spots rise meets in
    let s = w.suits i j d ij jn in
    let r = rise i j d ij jn in
    reach_of (offset axis (get_or spots i d) (get_or spots j d)) tol ((get_or spots j d).epoch -ℤ (get_or spots i d).epoch) w.a w.b rate w.positive (omega (arith, linear, r)) w.from w.to s.0 s.1

pub in_reach : (tol rate_ra rate_dec : ℤ) (spots : List SpotData) (i j : ℕ) (d : SpotData) → lies_on_line tol rate_ra rate_dec spots ≡ true → i < j → j < length spots → AreInReach tol rate_ra rate_dec (get_or spots i d) (get_or spots j d)
in_reach tol rate_ra rate_dec spots i j d h ij jn =
    let u = both (list_all follows_near (each_two spots) && slopes_meet Ra tol rate_ra spots) (slopes_meet Dec tol rate_dec spots) h in
    let v = both (list_all follows_near (each_two spots)) (slopes_meet Ra tol rate_ra spots) u.0 in
    let f = follow_of_test spots v.0 in
    record { later = f.0 i j d ij jn; ra = on_axis Ra tol rate_ra spots i j d f.0 v.1 ij jn; dec = on_axis Dec tol rate_dec spots i j d f.0 u.1 ij jn }
