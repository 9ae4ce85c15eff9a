-- No tracklets that fit are lost: all boxes that hold the boxes of tracklets that fit may hold them.
use Rattle.std.proofs.Common.{◌≡◌, ℕ, ◌+◌, ◌≤◌, List, [], ◌∷◌, ◌++◌, length, length-append, sym, subst, arith, lit<}
use Rattle.std.specs.Prelude.{ℤ, pos, neg_ℤ, ◌+ℤ◌, ◌-ℤ◌, ◌*ℤ◌, ◌≤ℤ◌, ◌<ℤ◌}
use Rattle.std.specs.List.{Contains}
use Rattle.std.proofs.lemmas.Int.{ints, clamps, by_lt_z}
use mathlib.Core.Logic.{◌⊎◌, inl, inr}
use Rattle.sky_math.proofs.Order.{linear, mul_le}
use Rattle.sky_math.proofs.Ring.{mul_comm}
use Rattle.sky_math.specs.Circle.{full_turn}
use Rattle.sky_math.specs.Quadratics.{Quadratic}
use Rattle.sky_units.proofs.Between.{offset_same, offset_between}
use Rattle.sky_units.proofs.Parts.{near_of_arc, part_is_admitted}
use Rattle.sky_units.proofs.Turning.{wrapped-is}
use Rattle.sky_units.specs.Arcs.{AreNear, IsArc, quarter_turn}
use Rattle.sky_units.specs.Limits.{arc_ticks}
use Rattle.sky_units.specs.Motion.{acceleration, tolerance, offset, AxisAdmits, Fits}
use Rattle.sky_units.specs.SettingsData.{SettingsData}
use Rattle.sky_units.specs.SpotData.{SpotData}
use Rattle.sky_units.specs.declared.axis.Axis.{Axis}
use Rattle.sky_units.specs.declared.axis.Axis.TheVariants.{Ra, Dec}
use Rattle.box_tree.specs.declared.bounds.Bounds.{Bounds}
use Rattle.box_tree.specs.Boxes.{Covers, end_on}
use Rattle.bound_prune.specs.Bounds.{longest, shortest, lasting, kept_within, two_turns, gained_in, way, way_ahead, way_back, Reaches, IsOpen, IsOpenRound, RatesAgree, May, MayThree, place_axis, rate_axis}
use Rattle.bound_prune.specs.Boxes.{BoxedTracklet, box_low, box_high, first_of, last_of, least_rate, greatest_rate}
use Rattle.bound_prune.specs.FourSpots.{Four, Stands, four_of, stands_before, stands_first, stands_last}
use Rattle.bound_prune.specs.Motions.{Seen, Rated, acc_not_negative, bounded, day, two_days}
use Rattle.bound_prune.specs.Rounding.{floor_most, ceiling_least, covered, farthest}
use Rattle.bound_prune.specs.Wanted.{AreWanted, AreWantedThree, HasTolerances}

-- ---- what a box that holds a tracklet says of it on an axis
abbrev place_on : Axis → SpotData → ℤ
place_on Ra spot = spot.ra
place_on Dec spot = spot.dec

record Holds (axis : Axis) (settings : SettingsData) (box : Bounds) (first last : SpotData) : Type 0 where
  begins : end_on box.low 2 ≤ℤ first.epoch
  ends : last.epoch ≤ℤ end_on box.high 2
  place_from : end_on box.low (place_axis axis) ≤ℤ place_on axis first
  place_to : place_on axis first ≤ℤ end_on box.high (place_axis axis)
  least : end_on box.low (rate_axis axis) ≤ℤ least_rate axis (tolerance axis settings) first last
  greatest : greatest_rate axis (tolerance axis settings) first last ≤ℤ end_on box.high (rate_axis axis)

holds_ra : (settings : SettingsData) (x : BoxedTracklet) (box : Bounds) → x.tol_ra ≡ settings.tol_ra → Covers 5 (box_low x) (box_high x) box → Holds Ra settings box (first_of x.spots) (last_of x.spots)
holds_ra settings x box e h = record {
  begins = h.from 2 (lit< tt);
  ends = h.to 2 (lit< tt);
  place_from = h.from 0 (lit< tt);
  place_to = h.to 0 (lit< tt);
  least = subst (λ (tol : ℤ). end_on box.low 3 ≤ℤ least_rate Ra tol (first_of x.spots) (last_of x.spots)) e (h.from 3 (lit< tt));
  greatest = subst (λ (tol : ℤ). greatest_rate Ra tol (first_of x.spots) (last_of x.spots) ≤ℤ end_on box.high 3) e (h.to 3 (lit< tt));
}

holds_dec : (settings : SettingsData) (x : BoxedTracklet) (box : Bounds) → x.tol_dec ≡ settings.tol_dec → Covers 5 (box_low x) (box_high x) box → Holds Dec settings box (first_of x.spots) (last_of x.spots)
holds_dec settings x box e h = record {
  begins = h.from 2 (lit< tt);
  ends = h.to 2 (lit< tt);
  place_from = h.from 1 (lit< tt);
  place_to = h.to 1 (lit< tt);
  least = subst (λ (tol : ℤ). end_on box.low 4 ≤ℤ least_rate Dec tol (first_of x.spots) (last_of x.spots)) e (h.from 4 (lit< tt));
  greatest = subst (λ (tol : ℤ). greatest_rate Dec tol (first_of x.spots) (last_of x.spots) ≤ℤ end_on box.high 4) e (h.to 4 (lit< tt));
}

-- ---- times
-- the times of two tracklets lie within those of their boxes
record Timed (x y : Bounds) (a b c d : SpotData) : Type 0 where
  follows : end_on x.low 2 <ℤ end_on y.high 2
  short : shortest x y ≤ℤ (c.epoch -ℤ a.epoch)
  long : (c.epoch -ℤ a.epoch) ≤ℤ longest x y
  whole : (d.epoch -ℤ a.epoch) ≤ℤ longest x y
  lasts : ((b.epoch -ℤ a.epoch) +ℤ (d.epoch -ℤ c.epoch)) ≤ℤ (lasting x +ℤ lasting y)

ends_covered : (low high from to : ℤ) → low ≤ℤ from → to ≤ℤ high → (to -ℤ from) <ℤ arc_ticks → (to -ℤ from) ≤ℤ kept_within (pos 0) (arc_ticks -ℤ pos 1) (high -ℤ low)
unfolding kept_within
ends_covered low high from to h k l = omega (arith, ints, clamps)

short_covered : (high low most from end to : ℤ) → from <ℤ end → end <ℤ to → end ≤ℤ high → low ≤ℤ to → kept_within (pos 0) most (low -ℤ high) ≤ℤ (to -ℤ from)
unfolding kept_within
short_covered high low most from end to h k l m = omega (arith, ints, clamps)

both_covered : (m n k l : ℤ) → m ≤ℤ k → n ≤ℤ l → (m +ℤ n) ≤ℤ (k +ℤ l)
both_covered m n k l p q = omega (arith, ints)

timed : (x y : Bounds) (a b c d : SpotData) → a.epoch <ℤ b.epoch → b.epoch <ℤ c.epoch → c.epoch <ℤ d.epoch → (d.epoch -ℤ a.epoch) <ℤ arc_ticks →
    end_on x.low 2 ≤ℤ a.epoch → b.epoch ≤ℤ end_on x.high 2 → end_on y.low 2 ≤ℤ c.epoch → d.epoch ≤ℤ end_on y.high 2 → Timed x y a b c d
timed x y a b c d h1 h2 h3 h4 k1 k2 k3 k4 =
    let e = ends_covered (end_on x.low 2) (end_on y.high 2) a.epoch d.epoch k1 k4 h4 in
    record {
      follows = omega (arith, ints);
      short = short_covered (end_on x.high 2) (end_on y.low 2) (longest x y) a.epoch b.epoch c.epoch h1 h2 k2 k3;
      long = omega (arith, ints);
      whole = e;
      lasts = both_covered (b.epoch -ℤ a.epoch) (d.epoch -ℤ c.epoch) (lasting x) (lasting y)
          (ends_covered (end_on x.low 2) (end_on x.high 2) a.epoch b.epoch k1 k2 (omega (arith, ints)))
          (ends_covered (end_on y.low 2) (end_on y.high 2) c.epoch d.epoch k3 k4 (omega (arith, ints)));
    }

-- ---- rates
rated : (axis : Axis) (tol : ℤ) (a b : SpotData) (low high : ℤ) → a.epoch <ℤ b.epoch → low ≤ℤ least_rate axis tol a b → greatest_rate axis tol a b ≤ℤ high → Rated tol (b.epoch -ℤ a.epoch) (offset axis a b) low high
rated axis tol a b low high later least greatest =
    let n : ℤ = b.epoch -ℤ a.epoch in
    let x : ℤ = offset axis a b -ℤ (tol +ℤ tol) in
    let y : ℤ = offset axis a b +ℤ (tol +ℤ tol) in
    let p : pos 0 <ℤ n = omega (arith, ints) in
    let f = floor_most (x *ℤ day) n p in
    let g = ceiling_least (y *ℤ day) n p in
    let m1 : (n *ℤ low) ≤ℤ (n *ℤ least_rate axis tol a b) = mul_le n low (least_rate axis tol a b) (omega (arith, ints)) least in
    let m2 : (n *ℤ greatest_rate axis tol a b) ≤ℤ (n *ℤ high) = mul_le n (greatest_rate axis tol a b) high (omega (arith, ints)) greatest in
    let e1 : x *ℤ day ≡ day *ℤ x = mul_comm x day in
    let e2 : y *ℤ day ≡ day *ℤ y = mul_comm y day in
    record {
      least = first_of_three (n *ℤ low) (n *ℤ least_rate axis tol a b) (x *ℤ day) (day *ℤ x) m1 f e1;
      greatest = last_of_three (day *ℤ y) (y *ℤ day) (n *ℤ greatest_rate axis tol a b) (n *ℤ high) e2 g m2;
    }
  where
    first_of_three : (p q r s : ℤ) → p ≤ℤ q → q ≤ℤ r → r ≡ s → p ≤ℤ s
    first_of_three p q r s h k e = omega (arith, ints)

    last_of_three : (p q r s : ℤ) → q ≡ p → q ≤ℤ r → r ≤ℤ s → p ≤ℤ s
    last_of_three p q r s e h k = omega (arith, ints)

-- ---- what an admitted quadratic says of the four spots
-- how the tracklets a to b and c to d differ on an axis, in these rates
record Flown (acc tol : ℤ) (axis : Axis) (a b c d : SpotData) (low1 high1 low2 high2 gain most : ℤ) : Type 0 where
  ahead : (two_days *ℤ (offset axis a c -ℤ (tol +ℤ tol))) ≤ℤ (((high1 +ℤ high2) +ℤ gain) *ℤ (c.epoch -ℤ a.epoch))
  back : (two_days *ℤ (neg_ℤ (offset axis a c) -ℤ (tol +ℤ tol))) ≤ℤ ((neg_ℤ (low1 +ℤ low2) +ℤ gain) *ℤ (c.epoch -ℤ a.epoch))
  slower : (day *ℤ (low1 -ℤ high2)) ≤ℤ (acc *ℤ most)
  faster : (day *ℤ (low2 -ℤ high1)) ≤ℤ (acc *ℤ most)

-- the whole is an arc that the axis admits
flown : (axis : Axis) (settings : SettingsData) (whole : List SpotData) (a b c d : SpotData) (low1 high1 low2 high2 gain most : ℤ) → IsArc whole → AxisAdmits axis settings whole → Four whole a b c d →
    Rated (tolerance axis settings) (b.epoch -ℤ a.epoch) (offset axis a b) low1 high1 → Rated (tolerance axis settings) (d.epoch -ℤ c.epoch) (offset axis c d) low2 high2 →
    (acceleration axis settings *ℤ ((b.epoch -ℤ a.epoch) +ℤ (d.epoch -ℤ c.epoch))) ≤ℤ (two_days *ℤ gain) → (d.epoch -ℤ a.epoch) ≤ℤ most →
    Flown (acceleration axis settings) (tolerance axis settings) axis a b c d low1 high1 low2 high2 gain most
flown axis settings whole a b c d low1 high1 low2 high2 gain most arc admits four r1 r2 enough long =
    let acc : ℤ = acceleration axis settings in
    let tol : ℤ = tolerance axis settings in
    let w = part_is_admitted axis settings whole (a ∷ b ∷ c ∷ d ∷ []) arc four.among admits in
    let f : Quadratic = w.0 in
    let in_a : Contains whole a = four.among 0 a (lit< tt) in
    let in_c : Contains whole c = four.among 2 a (lit< tt) in
    let in_d : Contains whole d = four.among 3 a (lit< tt) in
    let l = four.lasts in
    let o = four.follows in
    let e = four.ends in
    let seen : Seen acc tol f.p f.v f.q f.d (a.epoch -ℤ a.epoch) (b.epoch -ℤ a.epoch) (c.epoch -ℤ a.epoch) (d.epoch -ℤ a.epoch) (offset axis a a) (offset axis a b) (offset axis a c) (offset axis a d) = record {
      positive = w.1.0;
      bends = w.1.1;
      first = w.2 0 (record { time = pos 0; position = pos 0 }) (lit< tt);
      second = w.2 1 (record { time = pos 0; position = pos 0 }) (lit< tt);
      third = w.2 2 (record { time = pos 0; position = pos 0 }) (lit< tt);
      fourth = w.2 3 (record { time = pos 0; position = pos 0 }) (lit< tt);
      lasts = omega (arith, ints);
      follows = omega (arith, ints);
      ends = omega (arith, ints);
    } in
    let z : offset axis a a ≡ pos 0 = offset_same axis a in
    let t1 : (b.epoch -ℤ a.epoch) -ℤ (a.epoch -ℤ a.epoch) ≡ b.epoch -ℤ a.epoch = omega (arith, ints) in
    let t2 : (d.epoch -ℤ a.epoch) -ℤ (c.epoch -ℤ a.epoch) ≡ d.epoch -ℤ c.epoch = omega (arith, ints) in
    let t3 : (c.epoch -ℤ a.epoch) -ℤ (a.epoch -ℤ a.epoch) ≡ c.epoch -ℤ a.epoch = omega (arith, ints) in
    let t4 : (d.epoch -ℤ a.epoch) -ℤ (a.epoch -ℤ a.epoch) ≡ d.epoch -ℤ a.epoch = omega (arith, ints) in
    let m1 : offset axis a b -ℤ offset axis a a ≡ offset axis a b = omega (arith, ints) in
    let m2 : offset axis a d -ℤ offset axis a c ≡ offset axis c d = sym (offset_between axis a c d (near_of_arc axis whole a c arc in_a in_c) (near_of_arc axis whole a d arc in_a in_d)) in
    let m3 : offset axis a c -ℤ offset axis a a ≡ offset axis a c = omega (arith, ints) in
    let s1 : Rated tol ((b.epoch -ℤ a.epoch) -ℤ (a.epoch -ℤ a.epoch)) (offset axis a b -ℤ offset axis a a) low1 high1 = rw (t1, m1) r1 in
    let s2 : Rated tol ((d.epoch -ℤ a.epoch) -ℤ (c.epoch -ℤ a.epoch)) (offset axis a d -ℤ offset axis a c) low2 high2 = rw (t2, m2) r2 in
    let is = bounded acc tol f.p f.v f.q f.d (a.epoch -ℤ a.epoch) (b.epoch -ℤ a.epoch) (c.epoch -ℤ a.epoch) (d.epoch -ℤ a.epoch) (offset axis a a) (offset axis a b) (offset axis a c) (offset axis a d) low1 high1 low2 high2 gain most seen s1 s2 (rw (t1, t2) enough) (rw t4 long) in
    let ahead = is.ahead in
    let back = is.back in
    record { ahead = rw (m3, t3) at ahead; back = rw (m3, t3) at back; slower = is.slower; faster = is.faster }

-- ---- ways
reaches_least : (tol least x led : ℤ) → least ≤ℤ x → (two_days *ℤ (x -ℤ (tol +ℤ tol))) ≤ℤ led → Reaches tol least led
reaches_least tol least x led h k =
    let m : (two_days *ℤ (least -ℤ (tol +ℤ tol))) ≤ℤ (two_days *ℤ (x -ℤ (tol +ℤ tol))) = mul_le two_days (least -ℤ (tol +ℤ tol)) (x -ℤ (tol +ℤ tol)) (omega (arith, ints)) (omega (arith, linear)) in
    omega (arith, linear)

least_kept : (from x : ℤ) → from ≤ℤ x → neg_ℤ quarter_turn <ℤ x → kept_within (neg_ℤ two_turns) two_turns from ≤ℤ x
unfolding kept_within
least_kept from x h low = omega (arith, ints, clamps)

greatest_kept : (to x : ℤ) → x ≤ℤ to → x <ℤ quarter_turn → neg_ℤ (kept_within (neg_ℤ two_turns) two_turns to) ≤ℤ neg_ℤ x
unfolding kept_within
greatest_kept to x h high = omega (arith, ints, clamps)

turned_ahead : (from to x k : ℤ) → from ≤ℤ (x +ℤ (k *ℤ full_turn)) → (x +ℤ (k *ℤ full_turn)) ≤ℤ to → neg_ℤ quarter_turn <ℤ x → x <ℤ quarter_turn → x <ℤ kept_within (neg_ℤ two_turns) two_turns from →
    (full_turn -ℤ kept_within (neg_ℤ two_turns) two_turns to) ≤ℤ neg_ℤ x
unfolding kept_within
turned_ahead from to x k h l low high less = omega (arith, ints, clamps)

turned_back : (from to x k : ℤ) → from ≤ℤ (x +ℤ (k *ℤ full_turn)) → (x +ℤ (k *ℤ full_turn)) ≤ℤ to → neg_ℤ quarter_turn <ℤ x → x <ℤ quarter_turn → kept_within (neg_ℤ two_turns) two_turns to <ℤ x →
    (full_turn +ℤ kept_within (neg_ℤ two_turns) two_turns from) ≤ℤ x
unfolding kept_within
turned_back from to x k h l low high less = omega (arith, ints, clamps)

turned_round : (x y : ℤ) → x ≤ℤ y → neg_ℤ y ≤ℤ neg_ℤ x
turned_round x y h = omega (arith, ints)

is_open : (tol from to x ahead back : ℤ) → from ≤ℤ x → x ≤ℤ to → neg_ℤ quarter_turn <ℤ x → x <ℤ quarter_turn →
    (two_days *ℤ (x -ℤ (tol +ℤ tol))) ≤ℤ ahead → (two_days *ℤ (neg_ℤ x -ℤ (tol +ℤ tol))) ≤ℤ back →
    IsOpen tol (kept_within (neg_ℤ two_turns) two_turns from) (kept_within (neg_ℤ two_turns) two_turns to) ahead back
is_open tol from to x ahead back h k low high p q = record {
  from = reaches_least tol (kept_within (neg_ℤ two_turns) two_turns from) x ahead (least_kept from x h low) p;
  to = reaches_least tol (neg_ℤ (kept_within (neg_ℤ two_turns) two_turns to)) (neg_ℤ x) back (greatest_kept to x k high) q;
}

is_open_round : (tol from to x k ahead back : ℤ) → from ≤ℤ (x +ℤ (k *ℤ full_turn)) → (x +ℤ (k *ℤ full_turn)) ≤ℤ to → neg_ℤ quarter_turn <ℤ x → x <ℤ quarter_turn →
    (two_days *ℤ (x -ℤ (tol +ℤ tol))) ≤ℤ ahead → (two_days *ℤ (neg_ℤ x -ℤ (tol +ℤ tol))) ≤ℤ back →
    IsOpenRound tol (kept_within (neg_ℤ two_turns) two_turns from) (kept_within (neg_ℤ two_turns) two_turns to) ahead back
is_open_round tol from to x k ahead back h l low high p q =
    let least : ℤ = kept_within (neg_ℤ two_turns) two_turns from in
    let greatest : ℤ = kept_within (neg_ℤ two_turns) two_turns to in
    record {
      from = by_lt_z {P = Reaches tol least ahead ⊎ Reaches tol (full_turn -ℤ greatest) back} x least
          (λ less. inr (reaches_least tol (full_turn -ℤ greatest) (neg_ℤ x) back (turned_ahead from to x k h l low high less) q))
          (λ at_most. inl (reaches_least tol least x ahead at_most p));
      to = by_lt_z {P = Reaches tol (neg_ℤ greatest) back ⊎ Reaches tol (full_turn +ℤ least) ahead} greatest x
          (λ less. inr (reaches_least tol (full_turn +ℤ least) x ahead (turned_back from to x k h l low high less) p))
          (λ at_least. inl (reaches_least tol (neg_ℤ greatest) (neg_ℤ x) back (turned_round x greatest at_least) q));
    }

-- ---- an axis
gain_covers : (axis : Axis) (settings : SettingsData) (ticks : ℤ) → (acceleration axis settings *ℤ ticks) ≤ℤ (two_days *ℤ gained_in axis settings ticks)
unfolding gained_in
gain_covers axis settings ticks = covered (acceleration axis settings *ℤ ticks)

way_covers : (rates : ℤ) (x y : Bounds) (time : ℤ) → shortest x y ≤ℤ time → time ≤ℤ longest x y → (rates *ℤ time) ≤ℤ way rates x y
unfolding way
way_covers rates x y time from to = farthest rates (shortest x y) time (longest x y) from to

-- the bounds of an axis on the offset from the first spot of one tracklet to that of the other
record Led (axis : Axis) (settings : SettingsData) (x y : Bounds) (distance : ℤ) : Type 0 where
  ahead : (two_days *ℤ (distance -ℤ (tolerance axis settings +ℤ tolerance axis settings))) ≤ℤ way_ahead axis settings x y
  back : (two_days *ℤ (neg_ℤ distance -ℤ (tolerance axis settings +ℤ tolerance axis settings))) ≤ℤ way_back axis settings x y
  rates : RatesAgree axis settings x y

led : (axis : Axis) (settings : SettingsData) (whole : List SpotData) (a b c d : SpotData) (x y : Bounds) → pos 0 ≤ℤ acceleration axis settings → IsArc whole → AxisAdmits axis settings whole → Four whole a b c d → Timed x y a b c d →
    Holds axis settings x a b → Holds axis settings y c d → Led axis settings x y (offset axis a c)
led axis settings whole a b c d x y p arc admits four time in_x in_y =
    let acc : ℤ = acceleration axis settings in
    let tol : ℤ = tolerance axis settings in
    let spent : ℤ = (b.epoch -ℤ a.epoch) +ℤ (d.epoch -ℤ c.epoch) in
    let gain : ℤ = gained_in axis settings (lasting x +ℤ lasting y) in
    let low1 : ℤ = end_on x.low (rate_axis axis) in
    let high1 : ℤ = end_on x.high (rate_axis axis) in
    let low2 : ℤ = end_on y.low (rate_axis axis) in
    let high2 : ℤ = end_on y.high (rate_axis axis) in
    let more : (acc *ℤ spent) ≤ℤ (acc *ℤ (lasting x +ℤ lasting y)) = mul_le acc spent (lasting x +ℤ lasting y) p time.lasts in
    let cover : (acc *ℤ (lasting x +ℤ lasting y)) ≤ℤ (two_days *ℤ gain) = gain_covers axis settings (lasting x +ℤ lasting y) in
    let r1 = rated axis tol a b low1 high1 four.lasts in_x.least in_x.greatest in
    let r2 = rated axis tol c d low2 high2 four.ends in_y.least in_y.greatest in
    let f = flown axis settings whole a b c d low1 high1 low2 high2 gain (longest x y) arc admits four r1 r2 (at_most (acc *ℤ spent) (acc *ℤ (lasting x +ℤ lasting y)) (two_days *ℤ gain) more cover) time.whole in
    record {
      ahead = at_most (two_days *ℤ (offset axis a c -ℤ (tol +ℤ tol))) (((high1 +ℤ high2) +ℤ gain) *ℤ (c.epoch -ℤ a.epoch)) (way_ahead axis settings x y) f.ahead
          (way_covers ((high1 +ℤ high2) +ℤ gain) x y (c.epoch -ℤ a.epoch) time.short time.long);
      back = at_most (two_days *ℤ (neg_ℤ (offset axis a c) -ℤ (tol +ℤ tol))) ((neg_ℤ (low1 +ℤ low2) +ℤ gain) *ℤ (c.epoch -ℤ a.epoch)) (way_back axis settings x y) f.back
          (way_covers (neg_ℤ (low1 +ℤ low2) +ℤ gain) x y (c.epoch -ℤ a.epoch) time.short time.long);
      rates = record { slower = f.slower; faster = f.faster };
    }
  where
    at_most : (p q r : ℤ) → p ≤ℤ q → q ≤ℤ r → p ≤ℤ r
    at_most p q r h k = omega (arith, ints)

-- ---- tracklets
may_of : (settings : SettingsData) (x y : Bounds) (a b c d : SpotData) → Timed x y a b c d → Led Ra settings x y (offset Ra a c) → Led Dec settings x y (offset Dec a c) →
    Holds Ra settings x a b → Holds Ra settings y c d → Holds Dec settings x a b → Holds Dec settings y c d → AreNear Ra a c → AreNear Dec a c → May settings x y
may_of settings x y a b c d time ra dec ra_x ra_y dec_x dec_y near_ra near_dec =
    let is = wrapped-is (c.ra -ℤ a.ra) in
    let turned : c.ra -ℤ a.ra ≡ offset Ra a c +ℤ (is.turns.0 *ℤ full_turn) = is.turns.1 in
    record {
      follows = time.follows;
      dec_way = is_open settings.tol_dec (end_on y.low 1 -ℤ end_on x.high 1) (end_on y.high 1 -ℤ end_on x.low 1) (c.dec -ℤ a.dec) (way_ahead Dec settings x y) (way_back Dec settings x y)
          (no_more (end_on y.low 1) (end_on x.high 1) a.dec c.dec dec_y.place_from dec_x.place_to) (no_less (end_on y.high 1) (end_on x.low 1) a.dec c.dec dec_y.place_to dec_x.place_from) near_dec.0 near_dec.1 dec.ahead dec.back;
      ra_way = is_open_round settings.tol_ra (end_on y.low 0 -ℤ end_on x.high 0) (end_on y.high 0 -ℤ end_on x.low 0) (offset Ra a c) is.turns.0 (way_ahead Ra settings x y) (way_back Ra settings x y)
          (rw (← turned) (no_more (end_on y.low 0) (end_on x.high 0) a.ra c.ra ra_y.place_from ra_x.place_to)) (rw (← turned) (no_less (end_on y.high 0) (end_on x.low 0) a.ra c.ra ra_y.place_to ra_x.place_from)) near_ra.0 near_ra.1 ra.ahead ra.back;
      dec_rates = dec.rates;
      ra_rates = ra.rates;
    }
  where
    no_more : (low high from to : ℤ) → low ≤ℤ to → from ≤ℤ high → (low -ℤ high) ≤ℤ (to -ℤ from)
    no_more low high from to h k = omega (arith, ints)

    no_less : (high low from to : ℤ) → to ≤ℤ high → low ≤ℤ from → (to -ℤ from) ≤ℤ (high -ℤ low)
    no_less high low from to h k = omega (arith, ints)

-- the greatest acceleration isn't negative where something is admitted
not_negative : (axis : Axis) (settings : SettingsData) (whole : List SpotData) → AxisAdmits axis settings whole → pos 0 ≤ℤ acceleration axis settings
not_negative axis settings whole w = acc_not_negative (acceleration axis settings) w.0.d (pos 2000000000000 *ℤ w.0.q) w.1.0 w.1.1

-- two tracklets of an arc that fits
pub two_of_arc : (settings : SettingsData) (whole : List SpotData) (s t : BoxedTracklet) (n m : ℕ) (x y : Bounds) → IsArc whole → Fits settings whole → HasTolerances settings s → HasTolerances settings t →
    Stands whole s.spots n → Stands whole t.spots m → n + length s.spots ≤ m → Covers 5 (box_low s) (box_high s) x → Covers 5 (box_low t) (box_high t) y → May settings x y
two_of_arc settings whole s t n m x y arc fits has_s has_t at_s at_t order in_x in_y =
    let a : SpotData = first_of s.spots in
    let b : SpotData = last_of s.spots in
    let c : SpotData = first_of t.spots in
    let d : SpotData = last_of t.spots in
    let four = four_of whole s.spots t.spots n m arc has_s.tracklet.two has_t.tracklet.two at_s at_t order in
    let ra_x = holds_ra settings s x has_s.ra in_x in
    let ra_y = holds_ra settings t y has_t.ra in_y in
    let dec_x = holds_dec settings s x has_s.dec in_x in
    let dec_y = holds_dec settings t y has_t.dec in_y in
    let time = timed x y a b c d four.lasts four.follows four.ends four.short ra_x.begins ra_x.ends ra_y.begins ra_y.ends in
    let in_a : Contains whole a = four.among 0 a (lit< tt) in
    let in_c : Contains whole c = four.among 2 a (lit< tt) in
    may_of settings x y a b c d time
    (led Ra settings whole a b c d x y (not_negative Ra settings whole fits.0) arc fits.0 four time ra_x ra_y)
    (led Dec settings whole a b c d x y (not_negative Dec settings whole fits.1) arc fits.1 four time dec_x dec_y)
    ra_x ra_y dec_x dec_y (near_of_arc Ra whole a c arc in_a in_c) (near_of_arc Dec whole a c arc in_a in_c)

-- boxes that hold two wanted tracklets may hold them
pub two_may : (settings : SettingsData) (s t : BoxedTracklet) (x y : Bounds) → AreWanted settings s t → Covers 5 (box_low s) (box_high s) x → Covers 5 (box_low t) (box_high t) y → May settings x y
two_may settings s t x y w in_x in_y =
    two_of_arc settings (s.spots ++ t.spots) s t 0 (length s.spots) x y w.tested.arc w.fits w.tested.first w.tested.second
    (stands_first s.spots t.spots) (stands_last s.spots t.spots) (omega arith) in_x in_y

-- and so may boxes that hold three wanted tracklets
pub three_may : (settings : SettingsData) (s t u : BoxedTracklet) (x y z : Bounds) → AreWantedThree settings s t u → Covers 5 (box_low s) (box_high s) x → Covers 5 (box_low t) (box_high t) y → Covers 5 (box_low u) (box_high u) z → MayThree settings x y z
three_may settings s t u x y z w in_x in_y in_z =
    let whole : List SpotData = s.spots ++ t.spots ++ u.spots in
    let at_s = stands_before (s.spots ++ t.spots) s.spots u.spots 0 (stands_first s.spots t.spots) in
    let at_t = stands_before (s.spots ++ t.spots) t.spots u.spots (length s.spots) (stands_last s.spots t.spots) in
    let at_u = stands_last (s.spots ++ t.spots) u.spots in
    record {
      first_second = two_of_arc settings whole s t 0 (length s.spots) x y w.tested.arc w.fits w.tested.first w.tested.second at_s at_t (omega arith) in_x in_y;
      first_third = two_of_arc settings whole s u 0 (length (s.spots ++ t.spots)) x z w.tested.arc w.fits w.tested.first w.tested.third at_s at_u (omega (arith, length-append s.spots t.spots)) in_x in_z;
      second_third = two_of_arc settings whole t u (length s.spots) (length (s.spots ++ t.spots)) y z w.tested.arc w.fits w.tested.second w.tested.third at_t at_u (omega (arith, length-append s.spots t.spots)) in_y in_z;
    }
