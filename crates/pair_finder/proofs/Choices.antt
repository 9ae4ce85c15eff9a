-- Tests one after another give what the definitions say.
use Rattle.std.proofs.Common.{◌≡◌, ◌<◌, ◌-◌, ◌^◌, min, w64, inl, inr, ℤ, pos, negsuc, neg_ℤ, ◌-ℤ◌, ◌≤ℤ◌, Bool, true, false, ◌&&◌, ◌||◌, refl, arith}
use Rattle.std.specs.Int.{int_min, saturate_signed}
use Rattle.std.specs.Int.Signed.{le_z}
use Rattle.std.proofs.lemmas.Bool.{cases_lt}
use Rattle.std.proofs.lemmas.Int.{ints}
use Rattle.sky_math.specs.Circle.{full_turn}
use Rattle.sky_units.specs.Ranges.{IsBetween}
use Rattle.sky_units.specs.SettingsData.{SettingsData}
use Rattle.box_tree.specs.declared.bounds.Bounds.{Bounds}
use Rattle.pair_finder.specs.Pruning.{comes_near, comes_near_round, least_difference, greatest_difference, may_hold_pair, most_ticks, reach}

pub not_second : (a b c d : Bool) → b ≡ false → false ≡ (a && b && c && d)
not_second true b c d e = rw e refl
not_second false b c d e = refl

pub not_third : (a b c d : Bool) → c ≡ false → false ≡ (a && b && c && d)
not_third true true c d e = rw e refl
not_third true false c d e = refl
not_third false b c d e = refl

pub the_fourth : (a b c d : Bool) → a ≡ true → b ≡ true → c ≡ true → d ≡ (a && b && c && d)
the_fourth a b c d ea eb ec = rw (ea, eb, ec) refl

-- the four tests of two boxes
abbrev pub in_time : Bounds → Bounds → Bool
in_time a b = le_z (pos 1) (greatest_difference a b 0)

abbrev pub in_gap : SettingsData → Bounds → Bounds → Bool
in_gap s a b = le_z (least_difference a b 0) s.pair_gap

abbrev pub in_dec : SettingsData → Bounds → Bounds → Bool
in_dec s a b = comes_near (reach s.rate_dec (most_ticks s a b)) (least_difference a b 1) (greatest_difference a b 1)

abbrev pub in_ra : SettingsData → Bounds → Bounds → Bool
in_ra s a b = comes_near_round (reach s.rate_ra (most_ticks s a b)) (least_difference a b 2) (greatest_difference a b 2)

pub past_the_gap : (s : SettingsData) (a b : Bounds) → in_gap s a b ≡ false → false ≡ may_hold_pair s a b
past_the_gap s a b e = not_second (in_time a b) (in_gap s a b) (in_dec s a b) (in_ra s a b) e

pub far_in_dec : (s : SettingsData) (a b : Bounds) → in_dec s a b ≡ false → false ≡ may_hold_pair s a b
far_in_dec s a b e = not_third (in_time a b) (in_gap s a b) (in_dec s a b) (in_ra s a b) e

pub left_to_ra : (s : SettingsData) (a b : Bounds) → in_time a b ≡ true → in_gap s a b ≡ true → in_dec s a b ≡ true → in_ra s a b ≡ may_hold_pair s a b
left_to_ra s a b one two three = the_fourth (in_time a b) (in_gap s a b) (in_dec s a b) (in_ra s a b) one two three

pub the_second : (a b : Bool) → a ≡ true → b ≡ (a && b)
the_second a b e = rw e refl

-- least ≤ r and -r ≤ greatest
pub both_near : (p q x y : Bool) → p ≡ true → q ≡ true → true ≡ ((p || x) && (q || y))
both_near p q x y ep eq = rw (ep, eq) refl

-- least ≤ r and not -r ≤ greatest
pub from_behind : (p q x y : Bool) → p ≡ true → q ≡ false → y ≡ ((p || x) && (q || y))
from_behind p q x y ep eq = rw (ep, eq) refl

-- not least ≤ r: then least ≤ r - turn fails, and turn - r ≤ greatest says that -r ≤ greatest
pub from_ahead : (r least greatest : ℤ) → le_z least r ≡ false →
    le_z (full_turn -ℤ r) greatest ≡ ((le_z least r || le_z (full_turn -ℤ r) greatest) && (le_z (neg_ℤ r) greatest || le_z least (r -ℤ full_turn)))
from_ahead r least greatest e = rw e (decided (le_z (full_turn -ℤ r) greatest) (le_z (neg_ℤ r) greatest) (le_z least (r -ℤ full_turn)) (λ (w : le_z (full_turn -ℤ r) greatest ≡ true). grind (arith, ints)))
  where
    decided : (x q y : Bool) → (x ≡ true → q ≡ true) → x ≡ ((false || x) && (q || y))
    decided true q y h = let e = h refl in rw e refl
    decided false q y h = refl

-- a number of at least 1 that is cut at the greatest value is as good for a minimum with a small one
pub least_of_cut : (z gap : ℤ) → pos 1 ≤ℤ z → gap ≤ℤ pos 1000000 → int_min (saturate_signed w64 z) gap ≡ int_min z gap
least_of_cut (pos n) (pos g) h k = elim (cases_lt n (2 ^ 63)) [
  | inl small ↦ let e : min n (2 ^ 63 - 1) ≡ n = omega arith in rw e refl
  | inr large ↦
      let e : min n (2 ^ 63 - 1) ≡ 2 ^ 63 - 1 = omega arith in
      let g_small : g < 2 ^ 63 - 1 = omega (arith, ints) in
      let g_less : g < n = omega arith in
      rw e (grind (arith, ints, g_small, g_less))
]
least_of_cut (pos n) (negsuc g) h k = grind (arith, ints)
least_of_cut (negsuc n) gap h k = absurd (omega (arith, ints))

pub least_within : (z gap : ℤ) → pos 1 ≤ℤ z → pos 0 ≤ℤ gap → gap ≤ℤ pos 1000000 → IsBetween (pos 0) (pos 1000000) (int_min z gap)
least_within z gap h k l = record { from = grind (arith, ints); to = grind (arith, ints) }
