-- Tracklets that may be of one object lie, in declination, in the range that the span of a night leaves.
use Rattle.std.proofs.Common.{◌≡◌, ℕ, ◌+◌, ◌<◌, List, [], ◌∷◌, ◌++◌, length, get_or, take, refl, ap, sym, subst, ◌∙◌, arith}
use Rattle.std.proofs.lemmas.List.{take_more}
use Rattle.std.proofs.lemmas.List.Elements.{Contains-push_cases}
use Rattle.std.specs.List.{Contains}
use mathlib.Core.Logic.{◌⊎◌, inl, inr}
use Rattle.sky_units.specs.Ranges.{IsBetween, IsDeclination, IsEpoch}
use Rattle.std.specs.Prelude.{ℤ, pos, negsuc, neg_ℤ, ◌+ℤ◌, ◌-ℤ◌, ◌*ℤ◌, ◌≤ℤ◌, ◌<ℤ◌}
use Rattle.std.specs.Int.{int_div_euclid, int_max, int_min}
use Rattle.std.proofs.lemmas.Int.{ints, clamps}
use Rattle.sky_math.proofs.Order.{linear, mul_le, mul_not_negative}
use Rattle.sky_math.proofs.Ring.{mul_comm, ring}
use Rattle.sky_units.specs.SettingsData.{SettingsData}
use Rattle.sky_units.specs.declared.axis.Axis.TheVariants.{Dec}
use Rattle.bound_prune.specs.Bounds.{May, Reaches, gained_in, greatest_distance, kept_within, lasting, least_distance, longest, shortest, way, way_ahead, way_back}
use Rattle.bound_prune.specs.EndsData.{AreInRange, AreUsual, EndsData, bounds_of}
use Rattle.bound_prune.specs.SpanData.{IsSpan, LiesIn, SpanData}
use Rattle.bound_prune.specs.Spans.{AreTimesAcross, HasReached, HoldNear, HoldRates, IsWidest}
use Rattle.bound_prune.specs.declared.rates.Rates.{Rates}
use Rattle.bound_prune.specs.declared.spans.DecRange.{DecRange}
use Rattle.bound_prune.specs.declared.times.Times.{Times}
use Rattle.bound_prune.specs.declared.travel.Travel.{Travel}
use Rattle.bound_prune.proofs.Cuts.{gained_is, way_is}
use Rattle.bound_prune.proofs.Travels.{dec_apart}

-- ---- what the acceleration adds
quotient_close : (z : ℤ) → pos 0 ≤ℤ z → ((pos 2000000 *ℤ int_div_euclid z (pos 2000000)) ≤ℤ z) × (z <ℤ ((pos 2000000 *ℤ int_div_euclid z (pos 2000000)) +ℤ pos 2000000))
quotient_close (pos n) h = (omega (arith, ints), omega (arith, ints))
quotient_close (negsuc n) h = absurd (omega (arith, ints))

no_fewer : (z y q r : ℤ) → z ≤ℤ y → (pos 2000000 *ℤ q) ≤ℤ z → y <ℤ ((pos 2000000 *ℤ r) +ℤ pos 2000000) → (q +ℤ pos 1) ≤ℤ (r +ℤ pos 1)
no_fewer z y q r h low high = omega (arith, ints)

-- more in more time
gained_more : (settings : SettingsData) (x y : ℤ) → pos 0 ≤ℤ settings.acc_dec → pos 0 ≤ℤ x → x ≤ℤ y → gained_in Dec settings x ≤ℤ gained_in Dec settings y
gained_more settings x y p px h =
    let m : (settings.acc_dec *ℤ x) ≤ℤ (settings.acc_dec *ℤ y) = mul_le settings.acc_dec x y p h in
    let a : pos 0 ≤ℤ (settings.acc_dec *ℤ x) = mul_not_negative settings.acc_dec x p px in
    let b : pos 0 ≤ℤ (settings.acc_dec *ℤ y) = omega (arith, linear, m, a) in
    rw (gained_is Dec settings x, gained_is Dec settings y) (no_fewer (settings.acc_dec *ℤ x) (settings.acc_dec *ℤ y) (int_div_euclid (settings.acc_dec *ℤ x) (pos 2000000)) (int_div_euclid (settings.acc_dec *ℤ y) (pos 2000000)) m (quotient_close (settings.acc_dec *ℤ x) a).0 (quotient_close (settings.acc_dec *ℤ y) b).1)

half_of : (x p z q : ℤ) → (pos 1000000 *ℤ x) ≤ℤ p → z ≡ p +ℤ p → z <ℤ ((pos 2000000 *ℤ q) +ℤ pos 2000000) → x ≤ℤ (q +ℤ pos 1)
half_of x p z q h is high = omega (arith, ints)

-- a turn of rates in some time is what is gained in twice the time
turned_by : (settings : SettingsData) (x l : ℤ) → pos 0 ≤ℤ settings.acc_dec → pos 0 ≤ℤ l → (pos 1000000 *ℤ x) ≤ℤ (settings.acc_dec *ℤ l) → x ≤ℤ gained_in Dec settings (l +ℤ l)
turned_by settings x l p pl h =
    let z_is : settings.acc_dec *ℤ (l +ℤ l) ≡ (settings.acc_dec *ℤ l) +ℤ (settings.acc_dec *ℤ l) = simp ring in
    let a : pos 0 ≤ℤ (settings.acc_dec *ℤ l) = mul_not_negative settings.acc_dec l p pl in
    let b : pos 0 ≤ℤ (settings.acc_dec *ℤ (l +ℤ l)) = omega (arith, linear, z_is, a) in
    rw (gained_is Dec settings (l +ℤ l)) (half_of x (settings.acc_dec *ℤ l) (settings.acc_dec *ℤ (l +ℤ l)) (int_div_euclid (settings.acc_dec *ℤ (l +ℤ l)) (pos 2000000)) h z_is (quotient_close (settings.acc_dec *ℤ (l +ℤ l)) b).1)

-- ---- times
longest_most : (af bl first last : ℤ) → first ≤ℤ af → bl ≤ℤ last → kept_within (pos 0) (pos 29999999) (bl -ℤ af) ≤ℤ kept_within (pos 0) (pos 29999999) (last -ℤ first)
unfolding kept_within
longest_most af bl first last h k = omega (arith, ints, clamps)

shortest_least : (af al bf bl first last : ℤ) → af ≤ℤ last → al ≤ℤ last → first ≤ℤ bf → first ≤ℤ bl → kept_within (pos 0) (pos 29999999) (first -ℤ last) ≤ℤ kept_within (pos 0) (kept_within (pos 0) (pos 29999999) (bl -ℤ af)) (bf -ℤ al)
unfolding kept_within
shortest_least af al bf bl first last h k m n = omega (arith, ints, clamps)

pub not_negative : (most z : ℤ) → pos 0 ≤ℤ kept_within (pos 0) most z
unfolding kept_within
not_negative most z = omega (arith, ints, clamps)

no_more : (most z : ℤ) → pos 0 ≤ℤ most → kept_within (pos 0) most z ≤ℤ most
unfolding kept_within
no_more most z p = omega (arith, ints, clamps)

-- ---- ways
second_of : (x a b : ℤ) → x ≤ℤ b → x ≤ℤ int_max a b
second_of x a b h = omega (arith, ints, clamps)

first_of : (x a b : ℤ) → x ≤ℤ a → x ≤ℤ int_max a b
first_of x a b h = omega (arith, ints, clamps)

both_within : (a b most : ℤ) → a ≤ℤ most → b ≤ℤ most → int_max a b ≤ℤ most
both_within a b most h k = omega (arith, ints, clamps)

at_time : (rates short time long : ℤ) → short ≤ℤ time → time ≤ℤ long → (rates *ℤ time) ≤ℤ int_max (rates *ℤ short) (rates *ℤ long)
at_time (pos n) short time long h k = second_of (pos n *ℤ time) (pos n *ℤ short) (pos n *ℤ long) (mul_le (pos n) time long (omega (arith, ints)) k)
at_time (negsuc n) short time long h k =
    let m : (neg_ℤ (negsuc n) *ℤ short) ≤ℤ (neg_ℤ (negsuc n) *ℤ time) = mul_le (neg_ℤ (negsuc n)) short time (omega (arith, ints)) h in
    let e1 : neg_ℤ (negsuc n) *ℤ short ≡ neg_ℤ (negsuc n *ℤ short) = mirrored (negsuc n) short in
    let e2 : neg_ℤ (negsuc n) *ℤ time ≡ neg_ℤ (negsuc n *ℤ time) = mirrored (negsuc n) time in
    first_of (negsuc n *ℤ time) (negsuc n *ℤ short) (negsuc n *ℤ long) (omega (arith, linear, m, e1, e2))
  where
    mirrored : (a b : ℤ) → neg_ℤ a *ℤ b ≡ neg_ℤ (a *ℤ b)
    mirrored a b = simp ring

-- greater rates lead no less far in time
faster_leads : (rates wide time : ℤ) → pos 0 ≤ℤ time → rates ≤ℤ wide → (rates *ℤ time) ≤ℤ (wide *ℤ time)
faster_leads rates wide time p h =
    let m : (time *ℤ rates) ≤ℤ (time *ℤ wide) = mul_le time rates wide p h in
    let e1 : rates *ℤ time ≡ time *ℤ rates = mul_comm rates time in
    let e2 : wide *ℤ time ≡ time *ℤ wide = mul_comm wide time in
    omega (arith, linear, m, e1, e2)

no_farther : (a b c : ℤ) → a ≤ℤ b → b ≤ℤ c → a ≤ℤ c
no_farther a b c h k = omega (arith, linear)

led_within : (rates wide s l short long : ℤ) → rates ≤ℤ wide → pos 0 ≤ℤ s → short ≤ℤ s → s ≤ℤ l → l ≤ℤ long → int_max (rates *ℤ s) (rates *ℤ l) ≤ℤ int_max (wide *ℤ short) (wide *ℤ long)
led_within rates wide s l short long h p a b c =
    both_within (rates *ℤ s) (rates *ℤ l) (int_max (wide *ℤ short) (wide *ℤ long))
    (no_farther (rates *ℤ s) (wide *ℤ s) (int_max (wide *ℤ short) (wide *ℤ long)) (faster_leads rates wide s p h) (at_time wide short s long a (no_farther s l long b c)))
    (no_farther (rates *ℤ l) (wide *ℤ l) (int_max (wide *ℤ short) (wide *ℤ long)) (faster_leads rates wide l (no_farther (pos 0) s l p b) h) (at_time wide short l long (no_farther short s l a b) c))

way_within : (from to : SpanData) (a b : EndsData) (times : Times) (rates wide : ℤ) → LiesIn from a → LiesIn to b → AreTimesAcross from to times → rates ≤ℤ wide → way rates (bounds_of a) (bounds_of b) ≤ℤ int_max (wide *ℤ times.shortest) (wide *ℤ times.longest)
way_within from to a b times rates wide f t across h =
    let long : longest (bounds_of a) (bounds_of b) ≤ℤ times.longest = subst (λ (z : ℤ). longest (bounds_of a) (bounds_of b) ≤ℤ z) (sym across.longest) (longest_most a.first_epoch b.last_epoch from.first_epoch to.last_epoch f.begins_after t.ends_before) in
    let short : times.shortest ≤ℤ shortest (bounds_of a) (bounds_of b) = subst (λ (z : ℤ). z ≤ℤ shortest (bounds_of a) (bounds_of b)) (sym across.shortest) (shortest_least a.first_epoch a.last_epoch b.first_epoch b.last_epoch to.first_epoch from.last_epoch f.begins_before f.ends_before t.begins_after t.ends_after) in
    subst (λ (z : ℤ). z ≤ℤ int_max (wide *ℤ times.shortest) (wide *ℤ times.longest)) (way_is rates (bounds_of a) (bounds_of b))
    (led_within rates wide (shortest (bounds_of a) (bounds_of b)) (longest (bounds_of a) (bounds_of b)) times.shortest times.longest h
    (not_negative (longest (bounds_of a) (bounds_of b)) (b.first_epoch -ℤ a.last_epoch)) short
    (no_more (longest (bounds_of a) (bounds_of b)) (b.first_epoch -ℤ a.last_epoch) (not_negative (pos 29999999) (b.last_epoch -ℤ a.first_epoch))) long)

sum_more : (a b c d g k : ℤ) → b ≤ℤ d → g ≤ℤ k → ((a +ℤ b) +ℤ g) ≤ℤ ((a +ℤ d) +ℤ k)
sum_more a b c d g k h l = omega (arith, linear)

both_last : (a b from to times : ℤ) → a ≤ℤ from → b ≤ℤ to → times ≡ from +ℤ to → (a +ℤ b) ≤ℤ times
both_last a b from to times h k e = omega (arith, linear)

sum_not_negative : (a b : ℤ) → pos 0 ≤ℤ a → pos 0 ≤ℤ b → pos 0 ≤ℤ (a +ℤ b)
sum_not_negative a b p q = omega (arith, linear)

-- what is gained while two tracklets last
gained_within : (settings : SettingsData) (from to : SpanData) (a b : EndsData) (times : Times) → pos 0 ≤ℤ settings.acc_dec → LiesIn from a → LiesIn to b → AreTimesAcross from to times → gained_in Dec settings (lasting (bounds_of a) +ℤ lasting (bounds_of b)) ≤ℤ gained_in Dec settings times.lasting
gained_within settings from to a b times p f t across =
    gained_more settings (lasting (bounds_of a) +ℤ lasting (bounds_of b)) times.lasting p
    (sum_not_negative (lasting (bounds_of a)) (lasting (bounds_of b)) (not_negative (pos 29999999) (a.last_epoch -ℤ a.first_epoch)) (not_negative (pos 29999999) (b.last_epoch -ℤ b.first_epoch)))
    (both_last (lasting (bounds_of a)) (lasting (bounds_of b)) from.lasting to.lasting times.lasting f.lasts t.lasts across.lasting)

-- ---- rates
-- a turn of rates within the longest time between two tracklets
turn_within : (settings : SettingsData) (from to : SpanData) (a b : EndsData) (times : Times) (x : ℤ) → pos 0 ≤ℤ settings.acc_dec → LiesIn from a → LiesIn to b → AreTimesAcross from to times → (pos 1000000 *ℤ x) ≤ℤ (settings.acc_dec *ℤ longest (bounds_of a) (bounds_of b)) → x ≤ℤ gained_in Dec settings (times.longest +ℤ times.longest)
turn_within settings from to a b times x p f t across h =
    let long : longest (bounds_of a) (bounds_of b) ≤ℤ times.longest = subst (λ (z : ℤ). longest (bounds_of a) (bounds_of b) ≤ℤ z) (sym across.longest) (longest_most a.first_epoch b.last_epoch from.first_epoch to.last_epoch f.begins_after t.ends_before) in
    let order = across.in_order in
    turned_by settings x times.longest p (no_farther (pos 0) times.shortest times.longest order.from order.order)
    (no_farther (pos 1000000 *ℤ x) (settings.acc_dec *ℤ longest (bounds_of a) (bounds_of b)) (settings.acc_dec *ℤ times.longest) h (mul_le settings.acc_dec (longest (bounds_of a) (bounds_of b)) times.longest p long))

above_by : (x y turned : ℤ) → (x -ℤ y) ≤ℤ turned → x ≤ℤ (y +ℤ turned)
above_by x y turned h = omega (arith, linear)

below_by : (x y turned : ℤ) → (x -ℤ y) ≤ℤ turned → (x -ℤ turned) ≤ℤ y
below_by x y turned h = omega (arith, linear)

-- ---- what is reached
least_is : (a b : EndsData) → AreInRange a → AreInRange b → least_distance Dec (bounds_of a) (bounds_of b) ≡ b.dec -ℤ a.dec
least_is a b p q = dec_apart a.dec b.dec p.dec q.dec

reached : (tol d e w v : ℤ) → d ≡ e → w ≤ℤ v → Reaches tol d w → Reaches tol e v
reached tol d e w v same more h = subst (λ (z : ℤ). Reaches tol z v) same (no_farther (pos 2000000 *ℤ (d -ℤ (tol +ℤ tol))) w v h more)

ways_reach : (settings : SettingsData) (a b : EndsData) (ahead back : ℤ) → AreInRange a → AreInRange b → May settings (bounds_of a) (bounds_of b) →
    way_ahead Dec settings (bounds_of a) (bounds_of b) ≤ℤ ahead → way_back Dec settings (bounds_of a) (bounds_of b) ≤ℤ back → Reaches settings.tol_dec (b.dec -ℤ a.dec) ahead × Reaches settings.tol_dec (neg_ℤ (b.dec -ℤ a.dec)) back
ways_reach settings a b ahead back p q may one two = (
  reached settings.tol_dec (least_distance Dec (bounds_of a) (bounds_of b)) (b.dec -ℤ a.dec) (way_ahead Dec settings (bounds_of a) (bounds_of b)) ahead (least_is a b p q) one may.dec_way.from,
  reached settings.tol_dec (neg_ℤ (greatest_distance Dec (bounds_of a) (bounds_of b))) (neg_ℤ (b.dec -ℤ a.dec)) (way_back Dec settings (bounds_of a) (bounds_of b)) back (ap neg_ℤ (least_is a b p q)) two may.dec_way.to,
)

back_more : (a b d g k : ℤ) → d ≤ℤ b → g ≤ℤ k → (neg_ℤ (a +ℤ b) +ℤ g) ≤ℤ (neg_ℤ (a +ℤ d) +ℤ k)
back_more a b d g k h l = omega (arith, linear)

back_more_first : (a b d g k : ℤ) → d ≤ℤ a → g ≤ℤ k → (neg_ℤ (a +ℤ b) +ℤ g) ≤ℤ (neg_ℤ (b +ℤ d) +ℤ k)
back_more_first a b d g k h l = omega (arith, linear)

ahead_more_first : (a b d g k : ℤ) → a ≤ℤ d → g ≤ℤ k → ((a +ℤ b) +ℤ g) ≤ℤ ((b +ℤ d) +ℤ k)
ahead_more_first a b d g k h l = omega (arith, linear)

-- a later tracklet of a night
pub reached_after : (settings : SettingsData) (from to : SpanData) (a b : EndsData) (times : Times) (travel : Travel) → pos 0 ≤ℤ settings.acc_dec → LiesIn from a → LiesIn to b → AreTimesAcross from to times →
    IsWidest settings a.dec_rates to.rates_apart times travel → May settings (bounds_of a) (bounds_of b) → Reaches settings.tol_dec (b.dec -ℤ a.dec) travel.ahead × Reaches settings.tol_dec (neg_ℤ (b.dec -ℤ a.dec)) travel.back
reached_after settings from to a b times travel p f t across widest may =
    let q = f.in_range in
    let r = t.in_range in
    let turned : ℤ = gained_in Dec settings (times.longest +ℤ times.longest) in
    let held : HoldRates widest.wide b.dec_rates = widest.holds b.dec_rates r.dec_rates (record {
      faster = above_by b.dec_rates.least a.dec_rates.greatest turned (turn_within settings from to a b times (b.dec_rates.least -ℤ a.dec_rates.greatest) p f t across may.dec_rates.faster);
      slower = below_by a.dec_rates.least b.dec_rates.greatest turned (turn_within settings from to a b times (a.dec_rates.least -ℤ b.dec_rates.greatest) p f t across may.dec_rates.slower);
      apart_by = t.apart;
    }) in
    let gained : ℤ = gained_in Dec settings (lasting (bounds_of a) +ℤ lasting (bounds_of b)) in
    let more : ℤ = gained_in Dec settings times.lasting in
    let g = gained_within settings from to a b times p f t across in
    ways_reach settings a b travel.ahead travel.back q r may
    (subst (λ (z : ℤ). way_ahead Dec settings (bounds_of a) (bounds_of b) ≤ℤ z) (sym widest.led.ahead)
    (way_within from to a b times ((a.dec_rates.greatest +ℤ b.dec_rates.greatest) +ℤ gained) ((a.dec_rates.greatest +ℤ widest.wide.greatest) +ℤ more) f t across (sum_more a.dec_rates.greatest b.dec_rates.greatest (pos 0) widest.wide.greatest gained more held.greatest g)))
    (subst (λ (z : ℤ). way_back Dec settings (bounds_of a) (bounds_of b) ≤ℤ z) (sym widest.led.back)
    (way_within from to a b times (neg_ℤ (a.dec_rates.least +ℤ b.dec_rates.least) +ℤ gained) (neg_ℤ (a.dec_rates.least +ℤ widest.wide.least) +ℤ more) f t across (back_more a.dec_rates.least b.dec_rates.least widest.wide.least gained more held.least g)))

-- an earlier one
pub reached_before : (settings : SettingsData) (from to : SpanData) (a b : EndsData) (times : Times) (travel : Travel) → pos 0 ≤ℤ settings.acc_dec → LiesIn from a → LiesIn to b → AreTimesAcross from to times →
    IsWidest settings b.dec_rates from.rates_apart times travel → May settings (bounds_of a) (bounds_of b) → Reaches settings.tol_dec (a.dec -ℤ b.dec) travel.back × Reaches settings.tol_dec (neg_ℤ (a.dec -ℤ b.dec)) travel.ahead
reached_before settings from to a b times travel p f t across widest may =
    let q = f.in_range in
    let r = t.in_range in
    let turned : ℤ = gained_in Dec settings (times.longest +ℤ times.longest) in
    let held : HoldRates widest.wide a.dec_rates = widest.holds a.dec_rates q.dec_rates (record {
      faster = above_by a.dec_rates.least b.dec_rates.greatest turned (turn_within settings from to a b times (a.dec_rates.least -ℤ b.dec_rates.greatest) p f t across may.dec_rates.slower);
      slower = below_by b.dec_rates.least a.dec_rates.greatest turned (turn_within settings from to a b times (b.dec_rates.least -ℤ a.dec_rates.greatest) p f t across may.dec_rates.faster);
      apart_by = f.apart;
    }) in
    let gained : ℤ = gained_in Dec settings (lasting (bounds_of a) +ℤ lasting (bounds_of b)) in
    let more : ℤ = gained_in Dec settings times.lasting in
    let g = gained_within settings from to a b times p f t across in
    let both = ways_reach settings a b travel.ahead travel.back q r may
    (subst (λ (z : ℤ). way_ahead Dec settings (bounds_of a) (bounds_of b) ≤ℤ z) (sym widest.led.ahead)
    (way_within from to a b times ((a.dec_rates.greatest +ℤ b.dec_rates.greatest) +ℤ gained) ((b.dec_rates.greatest +ℤ widest.wide.greatest) +ℤ more) f t across (ahead_more_first a.dec_rates.greatest b.dec_rates.greatest widest.wide.greatest gained more held.greatest g)))
    (subst (λ (z : ℤ). way_back Dec settings (bounds_of a) (bounds_of b) ≤ℤ z) (sym widest.led.back)
    (way_within from to a b times (neg_ℤ (a.dec_rates.least +ℤ b.dec_rates.least) +ℤ gained) (neg_ℤ (b.dec_rates.least +ℤ widest.wide.least) +ℤ more) f t across (back_more_first a.dec_rates.least b.dec_rates.least widest.wide.least gained more held.least g))) in (
      turned_round settings.tol_dec (neg_ℤ (b.dec -ℤ a.dec)) (a.dec -ℤ b.dec) travel.back (omega (arith, linear)) both.1,
      turned_round settings.tol_dec (b.dec -ℤ a.dec) (neg_ℤ (a.dec -ℤ b.dec)) travel.ahead (omega (arith, linear)) both.0,
    )
  where
    turned_round : (tol d e w : ℤ) → d ≡ e → Reaches tol d w → Reaches tol e w
    turned_round tol d e w same h = subst (λ (z : ℤ). Reaches tol z w) same h

-- ---- spans that the code makes
abbrev pub span_by : ℤ → ℤ → ℤ → ℤ → SpanData
span_by first last lasts apart = record { first_epoch = first; last_epoch = last; lasting = lasts; rates_apart = apart }

pub same_span : (a b c d k l m n : ℤ) → a ≡ k → b ≡ l → c ≡ m → d ≡ n → span_by a b c d ≡ span_by k l m n
same_span a b c d k l m n s1 s2 s3 s4 = rw (s1, s2, s3, s4) refl

least_first : (a b : ℤ) → int_min a b ≤ℤ a
least_first a b = omega (arith, ints, clamps)

least_second : (a b : ℤ) → int_min a b ≤ℤ b
least_second a b = omega (arith, ints, clamps)

most_first : (a b : ℤ) → a ≤ℤ int_max a b
most_first a b = omega (arith, ints, clamps)

most_second : (a b : ℤ) → b ≤ℤ int_max a b
most_second a b = omega (arith, ints, clamps)

between_least : (low high a b : ℤ) → IsBetween low high a → IsBetween low high b → IsBetween low high (int_min a b)
between_least low high a b p q =
    let af = p.from in
    let bf = q.from in
    let at = p.to in
    record { from = omega (arith, ints, clamps); to = no_farther (int_min a b) a high (least_first a b) at }

between_most : (low high a b : ℤ) → IsBetween low high a → IsBetween low high b → IsBetween low high (int_max a b)
between_most low high a b p q = record { from = no_farther low a (int_max a b) p.from (most_first a b); to = both_within a b high p.to q.to }

pub own_span : (first last lasts apart : ℤ) → IsEpoch first → IsEpoch last → IsBetween (pos 0) (pos 29999999) lasts → apart ≤ℤ pos 2000000000000000 → IsSpan (span_by (int_min first last) (int_max first last) lasts (int_max apart (pos 0)))
own_span first last lasts apart p q l h = record {
  first_epoch = between_least (pos 0) (pos 200000000000) first last p q;
  last_epoch = between_most (pos 0) (pos 200000000000) first last p q;
  order = no_farther (int_min first last) first (int_max first last) (least_first first last) (most_first first last);
  lasting = l;
  rates_apart = record { from = most_second apart (pos 0); to = both_within apart (pos 0) (pos 2000000000000000) h (omega (arith, ints)) };
}

pub own_lies : (e : EndsData) → AreInRange e → LiesIn (span_by (int_min e.first_epoch e.last_epoch) (int_max e.first_epoch e.last_epoch) (lasting (bounds_of e)) (int_max (e.dec_rates.greatest -ℤ e.dec_rates.least) (pos 0))) e
own_lies e p = record {
  in_range = p;
  begins_after = least_first e.first_epoch e.last_epoch;
  begins_before = most_first e.first_epoch e.last_epoch;
  ends_after = least_second e.first_epoch e.last_epoch;
  ends_before = most_second e.first_epoch e.last_epoch;
  lasts = omega (arith, linear);
  apart = most_first (e.dec_rates.greatest -ℤ e.dec_rates.least) (pos 0);
}

abbrev pub union : SpanData → SpanData → SpanData
union s t = span_by (int_min s.first_epoch t.first_epoch) (int_max s.last_epoch t.last_epoch) (int_max s.lasting t.lasting) (int_max s.rates_apart t.rates_apart)

pub union_span : (s t : SpanData) → IsSpan s → IsSpan t → IsSpan (union s t)
union_span s t p q = record {
  first_epoch = between_least (pos 0) (pos 200000000000) s.first_epoch t.first_epoch p.first_epoch q.first_epoch;
  last_epoch = between_most (pos 0) (pos 200000000000) s.last_epoch t.last_epoch p.last_epoch q.last_epoch;
  order = no_farther (int_min s.first_epoch t.first_epoch) s.first_epoch (int_max s.last_epoch t.last_epoch) (least_first s.first_epoch t.first_epoch) (no_farther s.first_epoch s.last_epoch (int_max s.last_epoch t.last_epoch) p.order (most_first s.last_epoch t.last_epoch));
  lasting = between_most (pos 0) (pos 29999999) s.lasting t.lasting p.lasting q.lasting;
  rates_apart = between_most (pos 0) (pos 2000000000000000) s.rates_apart t.rates_apart p.rates_apart q.rates_apart;
}

pub union_holds : (s t : SpanData) (one : EndsData) → LiesIn s one ⊎ LiesIn t one → LiesIn (union s t) one
union_holds s t one (inl h) = record {
  in_range = h.in_range;
  begins_after = no_farther (int_min s.first_epoch t.first_epoch) s.first_epoch one.first_epoch (least_first s.first_epoch t.first_epoch) h.begins_after;
  begins_before = no_farther one.first_epoch s.last_epoch (int_max s.last_epoch t.last_epoch) h.begins_before (most_first s.last_epoch t.last_epoch);
  ends_after = no_farther (int_min s.first_epoch t.first_epoch) s.first_epoch one.last_epoch (least_first s.first_epoch t.first_epoch) h.ends_after;
  ends_before = no_farther one.last_epoch s.last_epoch (int_max s.last_epoch t.last_epoch) h.ends_before (most_first s.last_epoch t.last_epoch);
  lasts = no_farther (lasting (bounds_of one)) s.lasting (int_max s.lasting t.lasting) h.lasts (most_first s.lasting t.lasting);
  apart = no_farther (one.dec_rates.greatest -ℤ one.dec_rates.least) s.rates_apart (int_max s.rates_apart t.rates_apart) h.apart (most_first s.rates_apart t.rates_apart);
}
union_holds s t one (inr h) = record {
  in_range = h.in_range;
  begins_after = no_farther (int_min s.first_epoch t.first_epoch) t.first_epoch one.first_epoch (least_second s.first_epoch t.first_epoch) h.begins_after;
  begins_before = no_farther one.first_epoch t.last_epoch (int_max s.last_epoch t.last_epoch) h.begins_before (most_second s.last_epoch t.last_epoch);
  ends_after = no_farther (int_min s.first_epoch t.first_epoch) t.first_epoch one.last_epoch (least_second s.first_epoch t.first_epoch) h.ends_after;
  ends_before = no_farther one.last_epoch t.last_epoch (int_max s.last_epoch t.last_epoch) h.ends_before (most_second s.last_epoch t.last_epoch);
  lasts = no_farther (lasting (bounds_of one)) t.lasting (int_max s.lasting t.lasting) h.lasts (most_second s.lasting t.lasting);
  apart = no_farther (one.dec_rates.greatest -ℤ one.dec_rates.least) t.rates_apart (int_max s.rates_apart t.rates_apart) h.apart (most_second s.rates_apart t.rates_apart);
}

-- one more of a list
pub spans_more : (xs : List EndsData) (i : ℕ) (x : EndsData) (old own new : SpanData) → x ≡ get_or xs i x → i < length xs → ((one : EndsData) → Contains (take i xs) one → LiesIn old one) → LiesIn own x →
    ((one : EndsData) → LiesIn old one ⊎ LiesIn own one → LiesIn new one) → (one : EndsData) → Contains (take (i + 1) xs) one → LiesIn new one
spans_more xs i x old own new is l before here more one c =
    elim (Contains-push_cases (take i xs) x one (subst (λ (list : List EndsData). Contains list one) (take_more xs i x l ∙ ap (λ (z : EndsData). take i xs ++ z ∷ []) (sym is)) c)) [
      | inl d ↦ more one (inl (before one d))
      | inr e ↦ more one (inr (subst (LiesIn own) e here))
    ]

-- ---- times
pub kept_order : (x y : ℤ) → x ≤ℤ y → kept_within (pos 0) (pos 29999999) x ≤ℤ kept_within (pos 0) (pos 29999999) y
unfolding kept_within
kept_order x y h = omega (arith, ints, clamps)

-- ---- rates
pub wide_usual : (least greatest more : ℤ) → IsBetween (neg_ℤ (pos 1000000000000000)) (pos 1000000000000000) least → IsBetween (neg_ℤ (pos 1000000000000000)) (pos 1000000000000000) greatest → pos 0 ≤ℤ more →
    AreUsual (record { least = int_max (least -ℤ more) (neg_ℤ (pos 1000000000000000)); greatest = int_min (greatest +ℤ more) (pos 1000000000000000) })
wide_usual least greatest more p q h =
    let lt = p.to in
    let gf = q.from in
    record {
      least = record { from = most_second (least -ℤ more) (neg_ℤ (pos 1000000000000000)); to = both_within (least -ℤ more) (neg_ℤ (pos 1000000000000000)) (pos 1000000000000000) (omega (arith, linear, lt, h)) (omega (arith, ints)) };
      greatest = record { from = omega (arith, ints, clamps); to = least_second (greatest +ℤ more) (pos 1000000000000000) };
    }

pub wide_holds : (rates : Rates) (apart turned : ℤ) → HoldNear rates apart turned (record { least = int_max (rates.least -ℤ (apart +ℤ turned)) (neg_ℤ (pos 1000000000000000)); greatest = int_min (rates.greatest +ℤ (apart +ℤ turned)) (pos 1000000000000000) })
wide_holds rates apart turned others usual near =
    let f = near.faster in
    let s = near.slower in
    let a = near.apart_by in
    let lf = usual.least.from in
    let gt = usual.greatest.to in
    record {
      least = both_within (rates.least -ℤ (apart +ℤ turned)) (neg_ℤ (pos 1000000000000000)) others.least (omega (arith, linear, s, a)) lf;
      greatest = at_most_both others.greatest (rates.greatest +ℤ (apart +ℤ turned)) (pos 1000000000000000) (omega (arith, linear, f, a)) gt;
    }
  where
    at_most_both : (x a b : ℤ) → x ≤ℤ a → x ≤ℤ b → x ≤ℤ int_min a b
    at_most_both x a b h k = omega (arith, ints, clamps)

-- ---- ranges
kept_above : (x way : ℤ) → x ≤ℤ way → x ≤ℤ pos 1000000000000000000 → x ≤ℤ kept_within (neg_ℤ (pos 1000000000000000000)) (pos 1000000000000000000) way
unfolding kept_within
kept_above x way h k = omega (arith, ints, clamps)

pub reached_in_range : (tol dec ahead back : ℤ) → IsDeclination dec → IsBetween (pos 0) (pos 100000) tol → HasReached tol dec ahead back (record {
  least = (pos 2000000 *ℤ (dec -ℤ (tol +ℤ tol))) -ℤ kept_within (neg_ℤ (pos 1000000000000000000)) (pos 1000000000000000000) back;
  greatest = (pos 2000000 *ℤ (dec +ℤ (tol +ℤ tol))) +ℤ kept_within (neg_ℤ (pos 1000000000000000000)) (pos 1000000000000000000) ahead;
})
reached_in_range tol dec ahead back d t other o one two =
    let df = d.from in
    let dt = d.to in
    let tf = t.from in
    let of = o.from in
    let ot = o.to in
    let a : (pos 2000000 *ℤ ((other -ℤ dec) -ℤ (tol +ℤ tol))) ≤ℤ kept_within (neg_ℤ (pos 1000000000000000000)) (pos 1000000000000000000) ahead = kept_above (pos 2000000 *ℤ ((other -ℤ dec) -ℤ (tol +ℤ tol))) ahead one (omega (arith, ints)) in
    let b : (pos 2000000 *ℤ (neg_ℤ (other -ℤ dec) -ℤ (tol +ℤ tol))) ≤ℤ kept_within (neg_ℤ (pos 1000000000000000000)) (pos 1000000000000000000) back = kept_above (pos 2000000 *ℤ (neg_ℤ (other -ℤ dec) -ℤ (tol +ℤ tol))) back two (omega (arith, ints)) in
    record { from = below other dec tol (kept_within (neg_ℤ (pos 1000000000000000000)) (pos 1000000000000000000) back) b; to = above other dec tol (kept_within (neg_ℤ (pos 1000000000000000000)) (pos 1000000000000000000) ahead) a }
  where
    above : (x d t k : ℤ) → (pos 2000000 *ℤ ((x -ℤ d) -ℤ (t +ℤ t))) ≤ℤ k → (pos 2000000 *ℤ x) ≤ℤ ((pos 2000000 *ℤ (d +ℤ (t +ℤ t))) +ℤ k)
    above x d t k h = omega (arith, ints)

    below : (x d t k : ℤ) → (pos 2000000 *ℤ (neg_ℤ (x -ℤ d) -ℤ (t +ℤ t))) ≤ℤ k → ((pos 2000000 *ℤ (d -ℤ (t +ℤ t))) -ℤ k) ≤ℤ (pos 2000000 *ℤ x)
    below x d t k h = omega (arith, ints)

-- ---- the same by equal numbers
pub same_near : (rates : Rates) (a b c d : ℤ) (wide : Rates) → a ≡ c → b ≡ d → HoldNear rates a b wide → HoldNear rates c d wide
same_near rates a b c d wide e f h = subst (λ (z : ℤ). HoldNear rates c z wide) f (subst (λ (z : ℤ). HoldNear rates z b wide) e h)

abbrev pub range_by : ℤ → ℤ → DecRange
range_by least greatest = record { least = least; greatest = greatest }

pub same_range : (a b c d : ℤ) → a ≡ c → b ≡ d → range_by a b ≡ range_by c d
same_range a b c d e f = rw (e, f) refl

pub same_reach : (tol dec ahead back t d a b : ℤ) (range : DecRange) → tol ≡ t → dec ≡ d → ahead ≡ a → back ≡ b → HasReached tol dec ahead back range → HasReached t d a b range
same_reach tol dec ahead back t d a b range e f g h r =
    subst (λ (z : ℤ). HasReached t d a z range) h (subst (λ (z : ℤ). HasReached t d z back range) g (subst (λ (z : ℤ). HasReached t z ahead back range) f (subst (λ (z : ℤ). HasReached z dec ahead back range) e r)))
