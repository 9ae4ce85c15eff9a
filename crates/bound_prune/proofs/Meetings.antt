-- Boxes that meet, the one not over before the other begins, may hold tracklets of one object.
use Rattle.std.proofs.Common.{arith}
use Rattle.std.specs.Prelude.{ℤ, pos, neg_ℤ, ◌+ℤ◌, ◌-ℤ◌, ◌*ℤ◌, ◌≤ℤ◌, ◌<ℤ◌}
use Rattle.std.specs.Int.{int_div_euclid, int_max}
use Rattle.std.proofs.lemmas.Int.{ints, clamps}
use mathlib.Core.Logic.{inl}
use Rattle.sky_units.specs.Motion.{acceleration}
use Rattle.sky_units.specs.Ranges.{IsBetween}
use Rattle.sky_units.specs.SettingsData.{AreSettings, SettingsData}
use Rattle.sky_units.specs.declared.axis.Axis.{Axis}
use Rattle.sky_units.specs.declared.axis.Axis.TheVariants.{Ra, Dec}
use Rattle.box_tree.specs.Boxes.{end_on}
use Rattle.box_tree.specs.declared.bounds.Bounds.{Bounds}
use Rattle.bound_prune.specs.Bounds.{May, RatesAgree, Reaches, ahead_with, back_with, gained_in, greatest_distance, kept_within, lasting, least_distance, longest, shortest, two_turns, way, way_ahead, way_back}
use Rattle.bound_prune.specs.Meets.{LeadBothWays, Meet, Overlap}
use Rattle.bound_prune.proofs.Cuts.{gained_is, no_more_at_most, product_within, quotient_within, way_is}
use Rattle.bound_prune.proofs.Saturated.{kept_range}

-- a kept number lies on the same side of 0
kept_below : (z : ℤ) → z ≤ℤ pos 0 → kept_within (neg_ℤ two_turns) two_turns z ≤ℤ pos 0
unfolding kept_within
kept_below z h = omega (arith, ints, clamps)

kept_above : (z : ℤ) → pos 0 ≤ℤ z → pos 0 ≤ℤ kept_within (neg_ℤ two_turns) two_turns z
unfolding kept_within
kept_above z h = omega (arith, ints, clamps)

-- ---- numbers that are not negative
time_within : (a b : Bounds) → IsBetween (pos 0) (pos 29999999) (longest a b)
time_within a b = kept_range (pos 0) (pos 29999999) (end_on b.high 2 -ℤ end_on a.low 2) (omega (arith, ints))

last_within : (a b : Bounds) → IsBetween (pos 0) (pos 59999998) (lasting a +ℤ lasting b)
last_within a b =
    let p = kept_range (pos 0) (pos 29999999) (end_on a.high 2 -ℤ end_on a.low 2) (omega (arith, ints)) in
    let q = kept_range (pos 0) (pos 29999999) (end_on b.high 2 -ℤ end_on b.low 2) (omega (arith, ints)) in
    both (lasting a) (lasting b) p q
  where
    both : (x y : ℤ) → IsBetween (pos 0) (pos 29999999) x → IsBetween (pos 0) (pos 29999999) y → IsBetween (pos 0) (pos 59999998) (x +ℤ y)
    both x y p q =
        let pf = p.from in
        let pt = p.to in
        let qf = q.from in
        let qt = q.to in
        record { from = omega (arith, ints); to = omega (arith, ints) }

accelerates : (axis : Axis) (settings : SettingsData) → AreSettings settings → IsBetween (pos 0) (pos 1000000) (acceleration axis settings)
accelerates Ra settings s = s.acc_ra_in_range
accelerates Dec settings s = s.acc_dec_in_range

no_loss : (axis : Axis) (settings : SettingsData) (ticks : ℤ) → AreSettings settings → IsBetween (pos 0) (pos 59999998) ticks → pos 0 ≤ℤ gained_in axis settings ticks
no_loss axis settings ticks s t =
    let p = product_within (acceleration axis settings) ticks (pos 1000000) (pos 59999998) (omega (arith, ints)) (accelerates axis settings s) t in
    let q = quotient_within (acceleration axis settings *ℤ ticks) p in
    let from = q.from in
    rw (gained_is axis settings ticks) (one_more (int_div_euclid (acceleration axis settings *ℤ ticks) (pos 2000000)) from)
  where
    one_more : (z : ℤ) → pos 0 ≤ℤ z → pos 0 ≤ℤ (z +ℤ pos 1)
    one_more z h = omega (arith, ints)

-- ---- ways
-- rates that lead on reach a place that lies no farther on
reached : (tol distance rates : ℤ) (a b : Bounds) → pos 0 ≤ℤ tol → distance ≤ℤ pos 0 → pos 0 ≤ℤ rates → Reaches tol distance (way rates a b)
reached tol distance rates a b t d r =
    let time = time_within a b in
    let p = product_within rates (longest a b) rates (pos 29999999) (omega (arith, ints)) (record { from = r; to = omega (arith, ints) }) time in
    let from : pos 0 ≤ℤ (rates *ℤ longest a b) = p.from in
    rw (← way_is rates a b) (within tol distance (rates *ℤ shortest a b) (rates *ℤ longest a b) t d from)
  where
    within : (tol distance x y : ℤ) → pos 0 ≤ℤ tol → distance ≤ℤ pos 0 → pos 0 ≤ℤ y → (pos 2000000 *ℤ (distance -ℤ (tol +ℤ tol))) ≤ℤ int_max x y
    within tol distance x y t d h = omega (arith, ints, clamps)

ahead_on : (x g : ℤ) → pos 0 ≤ℤ x → pos 0 ≤ℤ g → pos 0 ≤ℤ (x +ℤ g)
ahead_on x g h k = omega (arith, ints)

back_on : (x g : ℤ) → x ≤ℤ pos 0 → pos 0 ≤ℤ g → pos 0 ≤ℤ (neg_ℤ x +ℤ g)
back_on x g h k = omega (arith, ints)

nothing_back : (z : ℤ) → pos 0 ≤ℤ z → neg_ℤ z ≤ℤ pos 0
nothing_back z h = omega (arith, ints)

below : (x y : ℤ) → x ≤ℤ y → (x -ℤ y) ≤ℤ pos 0
below x y h = omega (arith, ints)

above : (x y : ℤ) → y ≤ℤ x → pos 0 ≤ℤ (x -ℤ y)
above x y h = omega (arith, ints)

module _ (settings : SettingsData) (s : AreSettings settings) (a b : Bounds) where
  gain : (axis : Axis) → pos 0 ≤ℤ gained_in axis settings (lasting a +ℤ lasting b)
  gain axis = no_loss axis settings (lasting a +ℤ lasting b) s (last_within a b)

  dec_ahead : Overlap 1 a b → LeadBothWays 4 a b → Reaches settings.tol_dec (least_distance Dec a b) (way_ahead Dec settings a b)
  dec_ahead o l = reached settings.tol_dec (least_distance Dec a b) (ahead_with Dec (gained_in Dec settings (lasting a +ℤ lasting b)) a b) a b s.tol_dec_in_range.from (kept_below (end_on b.low 1 -ℤ end_on a.high 1) (below (end_on b.low 1) (end_on a.high 1) o.to)) (ahead_on (end_on a.high 4 +ℤ end_on b.high 4) (gained_in Dec settings (lasting a +ℤ lasting b)) l.ahead (gain Dec))

  dec_back : Overlap 1 a b → LeadBothWays 4 a b → Reaches settings.tol_dec (neg_ℤ (greatest_distance Dec a b)) (way_back Dec settings a b)
  dec_back o l = reached settings.tol_dec (neg_ℤ (greatest_distance Dec a b)) (back_with Dec (gained_in Dec settings (lasting a +ℤ lasting b)) a b) a b s.tol_dec_in_range.from (nothing_back (greatest_distance Dec a b) (kept_above (end_on b.high 1 -ℤ end_on a.low 1) (above (end_on b.high 1) (end_on a.low 1) o.from))) (back_on (end_on a.low 4 +ℤ end_on b.low 4) (gained_in Dec settings (lasting a +ℤ lasting b)) l.back (gain Dec))

  ra_ahead : Overlap 0 a b → LeadBothWays 3 a b → Reaches settings.tol_ra (least_distance Ra a b) (way_ahead Ra settings a b)
  ra_ahead o l = reached settings.tol_ra (least_distance Ra a b) (ahead_with Ra (gained_in Ra settings (lasting a +ℤ lasting b)) a b) a b s.tol_ra_in_range.from (kept_below (end_on b.low 0 -ℤ end_on a.high 0) (below (end_on b.low 0) (end_on a.high 0) o.to)) (ahead_on (end_on a.high 3 +ℤ end_on b.high 3) (gained_in Ra settings (lasting a +ℤ lasting b)) l.ahead (gain Ra))

  ra_back : Overlap 0 a b → LeadBothWays 3 a b → Reaches settings.tol_ra (neg_ℤ (greatest_distance Ra a b)) (way_back Ra settings a b)
  ra_back o l = reached settings.tol_ra (neg_ℤ (greatest_distance Ra a b)) (back_with Ra (gained_in Ra settings (lasting a +ℤ lasting b)) a b) a b s.tol_ra_in_range.from (nothing_back (greatest_distance Ra a b) (kept_above (end_on b.high 0 -ℤ end_on a.low 0) (above (end_on b.high 0) (end_on a.low 0) o.from))) (back_on (end_on a.low 3 +ℤ end_on b.low 3) (gained_in Ra settings (lasting a +ℤ lasting b)) l.back (gain Ra))

  turned : (axis : Axis) → pos 0 ≤ℤ (acceleration axis settings *ℤ longest a b)
  turned axis = (product_within (acceleration axis settings) (longest a b) (pos 1000000) (pos 29999999) (omega (arith, ints)) (accelerates axis settings s) (time_within a b)).from

  dec_agree : Overlap 4 a b → RatesAgree Dec settings a b
  dec_agree o = record {
    slower = no_more_at_most (end_on a.low 4) (end_on b.high 4) (acceleration Dec settings *ℤ longest a b) o.from (turned Dec);
    faster = no_more_at_most (end_on b.low 4) (end_on a.high 4) (acceleration Dec settings *ℤ longest a b) o.to (turned Dec);
  }

  ra_agree : Overlap 3 a b → RatesAgree Ra settings a b
  ra_agree o = record {
    slower = no_more_at_most (end_on a.low 3) (end_on b.high 3) (acceleration Ra settings *ℤ longest a b) o.from (turned Ra);
    faster = no_more_at_most (end_on b.low 3) (end_on a.high 3) (acceleration Ra settings *ℤ longest a b) o.to (turned Ra);
  }

  pub meeting_may : end_on a.low 2 <ℤ end_on b.high 2 → Meet a b → May settings a b
  meeting_may follows m = record {
    follows = follows;
    dec_way = record { from = dec_ahead m.dec m.dec_ways; to = dec_back m.dec m.dec_ways };
    ra_way = record { from = inl (ra_ahead m.ra m.ra_ways); to = inl (ra_back m.ra m.ra_ways) };
    dec_rates = dec_agree m.dec_rates;
    ra_rates = ra_agree m.ra_rates;
  }
