-- No pair is lost: boxes that hold the two spots of a pair may hold a pair.
use Rattle.std.proofs.Common.{◌≡◌, ℕ, ◌<◌, ℤ, pos, negsuc, neg_ℤ, ◌+ℤ◌, ◌-ℤ◌, ◌*ℤ◌, ◌≤ℤ◌, ◌<ℤ◌, Bool, true, false, ◌&&◌, ◌||◌, refl, arith, lit<}
use Rattle.std.specs.Int.{int_min}
use Rattle.std.specs.Int.RustNames.{int_div}
use Rattle.std.specs.Int.Signed.{le_z, lt_z}
use Rattle.std.proofs.lemmas.Int.{ints, by_lt_z}
use Rattle.sky_math.specs.Circle.{wrapped, full_turn}
use Rattle.sky_math.proofs.Order.{mul_le, mul_lt}
use Rattle.sky_math.proofs.Ring.{mul_comm}
use Rattle.sky_units.proofs.Turning.{wrapped-is}
use Rattle.sky_units.specs.SpotData.{SpotData}
use Rattle.sky_units.specs.SettingsData.{SettingsData}
use Rattle.sky_units.specs.Pairs.{are_pair, keeps_rate}
use Rattle.box_tree.specs.declared.bounds.Bounds.{Bounds}
use Rattle.box_tree.specs.Boxes.{Covers}
use Rattle.pair_finder.specs.Pruning.{place_on, may_hold_pair, comes_near, comes_near_round, least_difference, greatest_difference, most_ticks, reach}

both_true : (b c : Bool) → (b && c) ≡ true → (b ≡ true) × (c ≡ true)
both_true true c h = (refl, h)
both_true false c h = absurd (cc)

both : (b c : Bool) → b ≡ true → c ≡ true → (b && c) ≡ true
both b c p q = rw (p, q) refl

passed : (a b : ℤ) → le_z a b ≡ true → a ≤ℤ b
passed a b h = grind (arith, ints)

passes : (a b : ℤ) → a ≤ℤ b → le_z a b ≡ true
passes a b h = grind (arith, ints)

passed_less : (a b : ℤ) → lt_z a b ≡ true → a <ℤ b
passed_less a b h = grind (arith, ints)

-- a difference within a reach that is no less than 0
quotient_keeps : (p m : ℤ) → pos 0 ≤ℤ p → neg_ℤ p ≤ℤ (m *ℤ pos 1000000) → (m *ℤ pos 1000000) ≤ℤ p → (neg_ℤ (int_div p (pos 1000000)) ≤ℤ m) × (m ≤ℤ int_div p (pos 1000000))
quotient_keeps (pos n) m h low high = (omega (arith, ints), omega (arith, ints))
quotient_keeps (negsuc n) m h low high = absurd (omega (arith, ints))

zero_times : (t : ℤ) → t *ℤ pos 0 ≡ pos 0
zero_times (pos n) = grind (arith, ints)
zero_times (negsuc n) = grind (arith, ints)

-- a rate that allows some difference in more than no time is not below 0
rate_not_negative : (rate t m : ℤ) → pos 0 <ℤ t → neg_ℤ (rate *ℤ t) ≤ℤ m → m ≤ℤ (rate *ℤ t) → pos 0 ≤ℤ rate
rate_not_negative rate t m p low high = by_lt_z rate (pos 0)
    (λ (less : rate <ℤ pos 0).
    let below : (t *ℤ rate) <ℤ (t *ℤ pos 0) = mul_lt t rate (pos 0) p less in
    let zero_is : t *ℤ pos 0 ≡ pos 0 = zero_times t in
    let e : t *ℤ rate ≡ rate *ℤ t = mul_comm t rate in
    absurd (omega (arith, ints)))
    (λ (h : pos 0 ≤ℤ rate). h)

-- what keeps the rate lies within the reach of more ticks
within_reach : (rate t most m : ℤ) → pos 0 <ℤ t → t ≤ℤ most → keeps_rate rate t m ≡ true → (neg_ℤ (reach rate most) ≤ℤ m) × (m ≤ℤ reach rate most)
within_reach rate t most m p le h =
    let parts = both_true (le_z (neg_ℤ (rate *ℤ t)) (m *ℤ pos 1000000)) (le_z (m *ℤ pos 1000000) (rate *ℤ t)) h in
    let low : neg_ℤ (rate *ℤ t) ≤ℤ (m *ℤ pos 1000000) = passed _ _ parts.0 in
    let high : (m *ℤ pos 1000000) ≤ℤ (rate *ℤ t) = passed _ _ parts.1 in
    let rises : pos 0 ≤ℤ rate = rate_not_negative rate t (m *ℤ pos 1000000) p low high in
    let more : (rate *ℤ t) ≤ℤ (rate *ℤ most) = mul_le rate t most rises le in
    quotient_keeps (rate *ℤ most) m (omega (arith, ints)) (omega (arith, ints)) (omega (arith, ints))

near : (r least greatest m : ℤ) → neg_ℤ r ≤ℤ m → m ≤ℤ r → least ≤ℤ m → m ≤ℤ greatest → comes_near r least greatest ≡ true
near r least greatest m low high from to = both (le_z least r) (le_z (neg_ℤ r) greatest) (passes least r (omega (arith, ints))) (passes (neg_ℤ r) greatest (omega (arith, ints)))

either : (a b c d : ℤ) → (b <ℤ a → c ≤ℤ d) → (le_z a b || le_z c d) ≡ true
either a b c d h = by_lt_z b a
    (λ (less : b <ℤ a). let e = passes c d (h less) in rw e (any_or_true (le_z a b)))
    (λ (no_less : a ≤ℤ b). let e = passes a b no_less in rw e refl)
  where
    any_or_true : (x : Bool) → (x || true) ≡ true
    any_or_true true = refl
    any_or_true false = refl

-- a difference that is, less whole turns, within the reach
near_round : (r least greatest d : ℤ) → neg_ℤ r ≤ℤ wrapped d → wrapped d ≤ℤ r → least ≤ℤ d → d ≤ℤ greatest → comes_near_round r least greatest ≡ true
near_round r least greatest d low high from to =
    let is = wrapped-is d in
    let turned : d ≡ wrapped d +ℤ (is.turns.0 *ℤ full_turn) = is.turns.1 in
    both (le_z least r || le_z (full_turn -ℤ r) greatest) (le_z (neg_ℤ r) greatest || le_z least (r -ℤ full_turn))
    (either least r (full_turn -ℤ r) greatest (λ less. ahead r least greatest d (wrapped d) is.turns.0 turned low high from to less))
    (either (neg_ℤ r) greatest least (r -ℤ full_turn) (λ less. behind r least greatest d (wrapped d) is.turns.0 turned low high from to less))
  where
    ahead : (r least greatest d w k : ℤ) → d ≡ w +ℤ (k *ℤ full_turn) → neg_ℤ r ≤ℤ w → w ≤ℤ r → least ≤ℤ d → d ≤ℤ greatest → r <ℤ least → (full_turn -ℤ r) ≤ℤ greatest
    ahead r least greatest d w k e low high from to less = omega (arith, ints)

    behind : (r least greatest d w k : ℤ) → d ≡ w +ℤ (k *ℤ full_turn) → neg_ℤ r ≤ℤ w → w ≤ℤ r → least ≤ℤ d → d ≤ℤ greatest → greatest <ℤ neg_ℤ r → least ≤ℤ (r -ℤ full_turn)
    behind r least greatest d w k e low high from to less = omega (arith, ints)

-- what lies in two boxes differs by what their ends say
record Between (a b : SpotData) (box_a box_b : Bounds) (axis : ℕ) : Type 0 where
  least : least_difference box_a box_b axis ≤ℤ (place_on b axis -ℤ place_on a axis)
  greatest : (place_on b axis -ℤ place_on a axis) ≤ℤ greatest_difference box_a box_b axis

between : (a b : SpotData) (box_a box_b : Bounds) → Covers 3 (place_on a) (place_on a) box_a → Covers 3 (place_on b) (place_on b) box_b → (axis : ℕ) → axis < 3 → Between a b box_a box_b axis
between a b box_a box_b in_a in_b axis h =
    let a_from = in_a.from axis h in
    let a_to = in_a.to axis h in
    let b_from = in_b.from axis h in
    let b_to = in_b.to axis h in
    record { least = omega (arith, ints); greatest = omega (arith, ints) }

from_some : (t g : ℤ) → pos 0 <ℤ t → t ≤ℤ g → pos 1 ≤ℤ g
from_some t g p h = omega (arith, ints)

in_turn : (a b c : ℤ) → a ≤ℤ b → b ≤ℤ c → a ≤ℤ c
in_turn a b c h k = omega (arith, ints)

least_of_two : (t x y : ℤ) → t ≤ℤ x → t ≤ℤ y → t ≤ℤ int_min x y
least_of_two t x y h k = grind (arith, ints)

-- the four tests of a pair, one by one
record Kept (s : SettingsData) (a b : SpotData) : Type 0 where
  later : a.epoch <ℤ b.epoch
  gap : (b.epoch -ℤ a.epoch) ≤ℤ s.pair_gap
  ra : keeps_rate s.rate_ra (b.epoch -ℤ a.epoch) (wrapped (b.ra -ℤ a.ra)) ≡ true
  dec : keeps_rate s.rate_dec (b.epoch -ℤ a.epoch) (b.dec -ℤ a.dec) ≡ true

four : (p q r t : Bool) → (p && q && r && t) ≡ true → (p ≡ true) × (q ≡ true) × (r ≡ true) × (t ≡ true)
four true true true true h = (refl, refl, refl, refl)
four true true true false h = absurd (cc)
four true true false t h = absurd (cc)
four true false r t h = absurd (cc)
four false q r t h = absurd (cc)

all_four : (p q r t : Bool) → p ≡ true → q ≡ true → r ≡ true → t ≡ true → (p && q && r && t) ≡ true
all_four p q r t e1 e2 e3 e4 = rw (e1, e2, e3, e4) refl

kept : (s : SettingsData) (a b : SpotData) → are_pair s a b ≡ true → Kept s a b
kept s a b w =
    let parts = four (lt_z a.epoch b.epoch) (le_z (b.epoch -ℤ a.epoch) s.pair_gap) (keeps_rate s.rate_ra (b.epoch -ℤ a.epoch) (wrapped (b.ra -ℤ a.ra))) (keeps_rate s.rate_dec (b.epoch -ℤ a.epoch) (b.dec -ℤ a.dec)) w in
    record { later = passed_less a.epoch b.epoch parts.0; gap = passed (b.epoch -ℤ a.epoch) s.pair_gap parts.1; ra = parts.2; dec = parts.3 }

pub no_pair_is_lost : (s : SettingsData) (a b : SpotData) (box_a box_b : Bounds) → are_pair s a b ≡ true → Covers 3 (place_on a) (place_on a) box_a → Covers 3 (place_on b) (place_on b) box_b → may_hold_pair s box_a box_b ≡ true
no_pair_is_lost s a b box_a box_b w in_a in_b =
    let keeps = kept s a b w in
    let in_time = between a b box_a box_b in_a in_b 0 (lit< tt) in
    let in_dec = between a b box_a box_b in_a in_b 1 (lit< tt) in
    let in_ra = between a b box_a box_b in_a in_b 2 (lit< tt) in
    let from : least_difference box_a box_b 0 ≤ℤ (b.epoch -ℤ a.epoch) = in_time.least in
    let to : (b.epoch -ℤ a.epoch) ≤ℤ greatest_difference box_a box_b 0 = in_time.greatest in
    let few : (b.epoch -ℤ a.epoch) ≤ℤ most_ticks s box_a box_b = least_of_two (b.epoch -ℤ a.epoch) (greatest_difference box_a box_b 0) s.pair_gap to keeps.gap in
    let some : pos 0 <ℤ (b.epoch -ℤ a.epoch) = let later = keeps.later in omega (arith, ints) in
    let one : pos 1 ≤ℤ greatest_difference box_a box_b 0 = from_some (b.epoch -ℤ a.epoch) (greatest_difference box_a box_b 0) some to in
    let soon : least_difference box_a box_b 0 ≤ℤ s.pair_gap = in_turn (least_difference box_a box_b 0) (b.epoch -ℤ a.epoch) s.pair_gap from keeps.gap in
    let ra = within_reach s.rate_ra (b.epoch -ℤ a.epoch) (most_ticks s box_a box_b) (wrapped (b.ra -ℤ a.ra)) some few keeps.ra in
    let dec = within_reach s.rate_dec (b.epoch -ℤ a.epoch) (most_ticks s box_a box_b) (b.dec -ℤ a.dec) some few keeps.dec in
    all_four (le_z (pos 1) (greatest_difference box_a box_b 0)) (le_z (least_difference box_a box_b 0) s.pair_gap)
    (comes_near (reach s.rate_dec (most_ticks s box_a box_b)) (least_difference box_a box_b 1) (greatest_difference box_a box_b 1))
    (comes_near_round (reach s.rate_ra (most_ticks s box_a box_b)) (least_difference box_a box_b 2) (greatest_difference box_a box_b 2))
    (passes (pos 1) (greatest_difference box_a box_b 0) one)
    (passes (least_difference box_a box_b 0) s.pair_gap soon)
    (near (reach s.rate_dec (most_ticks s box_a box_b)) (least_difference box_a box_b 1) (greatest_difference box_a box_b 1) (b.dec -ℤ a.dec) dec.0 dec.1 in_dec.least in_dec.greatest)
    (near_round (reach s.rate_ra (most_ticks s box_a box_b)) (least_difference box_a box_b 2) (greatest_difference box_a box_b 2) (b.ra -ℤ a.ra) ra.0 ra.1 in_ra.least in_ra.greatest)
