-- What machine numbers tell of whole numbers: differences that are cut at the ends of a range, products and quotients that fit.
use Rattle.std.proofs.Common.{◌≡◌, ◌<◌, ◌≤◌, ◌-◌, ◌^◌, ◌↔◌, min, w64, ◌∙◌, ◌*◌, SFits, refl, arith, to_z, of_z, true}
use Rattle.std.specs.Prelude.{ℤ, pos, negsuc, neg_ℤ, ◌+ℤ◌, ◌-ℤ◌, ◌*ℤ◌, ◌≤ℤ◌, ◌<ℤ◌, IsTrue}
use Rattle.std.specs.Int.{int_div_euclid, int_min, int_max, saturate_signed, w128}
use Rattle.std.specs.Int.RustNames.{unsigned_abs}
use Rattle.std.specs.Int.Signed.{le_z}
use Rattle.std.proofs.lemmas.Bool.{cases_lt}
use Rattle.std.proofs.lemmas.Int.{ints, clamps, fits_signed_from_abs, to_z-of_z}
use mathlib.Core.Logic.{inl, inr}
use Rattle.sky_math.proofs.Order.{linear, mul_le, product_most}
use Rattle.sky_math.proofs.Ring.{mul_comm, ring}
use Rattle.sky_units.specs.Motion.{acceleration}
use Rattle.sky_units.specs.Ranges.{IsBetween}
use Rattle.sky_units.specs.SettingsData.{SettingsData}
use Rattle.sky_units.specs.declared.axis.Axis.{Axis}
use Rattle.box_tree.specs.declared.bounds.Bounds.{Bounds}
use Rattle.bound_prune.specs.Bounds.{gained_in, kept_within, longest, shortest, way}

passed : (a b : ℤ) → le_z a b ≡ true → a ≤ℤ b
passed a b h = grind (arith, ints)

passes : (a b : ℤ) → a ≤ℤ b → le_z a b ≡ true
passes a b h = grind (arith, ints)

-- a comparison tells of another one that holds with it
pub tells : (a b : ℤ) (P : Type 0) → (a ≤ℤ b → P) → (P → a ≤ℤ b) → IsTrue (le_z a b) ↔ P
tells a b P there back = (λ t. there (passed a b t), λ p. passes a b (back p))

-- a positive number that is cut at the greatest value is as good for a minimum with a small one
least_of_cut : (z most : ℤ) → pos 0 <ℤ z → pos 0 ≤ℤ most → most ≤ℤ pos 1000000000 → int_min (saturate_signed w64 z) most ≡ int_min z most
least_of_cut (pos n) (pos g) h j k = elim (cases_lt n (2 ^ 63)) [
  | inl small ↦ let e : min n (2 ^ 63 - 1) ≡ n = omega arith in rw e refl
  | inr large ↦
      let e : min n (2 ^ 63 - 1) ≡ 2 ^ 63 - 1 = omega arith in
      let g_small : g < 2 ^ 63 - 1 = omega (arith, ints) in
      let g_less : g < n = omega arith in
      rw e (grind (arith, ints, g_small, g_less))
]
least_of_cut (pos n) (negsuc g) h j k = absurd (omega (arith, ints))
least_of_cut (negsuc n) most h j k = absurd (omega (arith, ints))

-- how far one number is above another one, cut at 100,000,000
pub apart_cut : (one other apart : ℤ) → other <ℤ one → apart ≡ int_min (saturate_signed w64 (one -ℤ other)) (pos 100000000) → apart ≡ int_min (one -ℤ other) (pos 100000000)
apart_cut one other apart less e = e ∙ least_of_cut (one -ℤ other) (pos 100000000) (omega (arith, ints)) (omega (arith, ints)) (omega (arith, ints))

pub apart_within : (d apart : ℤ) → pos 0 <ℤ d → apart ≡ int_min d (pos 100000000) → IsBetween (pos 0) (pos 100000000) apart
apart_within d apart p e = record { from = omega (arith, ints, clamps); to = omega (arith, ints, clamps) }

pub apart_most : (d most apart : ℤ) → pos 0 <ℤ d → most ≤ℤ pos 29999999000000 → apart ≡ int_min d (pos 100000000) → (pos 1000000 *ℤ apart) ≤ℤ most → (pos 1000000 *ℤ d) ≤ℤ most
apart_most d most apart p m e h = omega (arith, ints, clamps)

pub most_apart : (d most apart : ℤ) → apart ≡ int_min d (pos 100000000) → (pos 1000000 *ℤ d) ≤ℤ most → (pos 1000000 *ℤ apart) ≤ℤ most
most_apart d most apart e h = omega (arith, ints, clamps)

pub no_more_at_most : (one other most : ℤ) → one ≤ℤ other → pos 0 ≤ℤ most → (pos 1000000 *ℤ (one -ℤ other)) ≤ℤ most
no_more_at_most one other most h p = omega (arith, ints)

-- products in a range
pub product_within : (a b m n : ℤ) → pos 0 ≤ℤ n → IsBetween (pos 0) m a → IsBetween (pos 0) n b → IsBetween (pos 0) (m *ℤ n) (a *ℤ b)
product_within a b m n p h k =
    let a0 = h.from in
    let am = h.to in
    let b0 = k.from in
    let bn = k.to in
    let low : (a *ℤ pos 0) ≤ℤ (a *ℤ b) = mul_le a (pos 0) b a0 b0 in
    let zero : pos 0 ≡ a *ℤ pos 0 = zero_times a in
    let one : (a *ℤ b) ≤ℤ (a *ℤ n) = mul_le a b n a0 bn in
    let two : (n *ℤ a) ≤ℤ (n *ℤ m) = mul_le n a m p am in
    let e1 : a *ℤ n ≡ n *ℤ a = mul_comm a n in
    let e2 : n *ℤ m ≡ m *ℤ n = mul_comm n m in
    record { from = omega (arith, linear, low, zero); to = omega (arith, linear, one, two, e1, e2) }
  where
    zero_times : (t : ℤ) → pos 0 ≡ t *ℤ pos 0
    zero_times (pos n) = grind (arith, ints)
    zero_times (negsuc n) = grind (arith, ints)

-- a small number is what the machine has for it
pub plain : (z : ℤ) → IsBetween (negsuc 999999999999999999) (pos 1000000000000000000) z → to_z w64 (of_z w64 z) ≡ z
plain z h = let from = h.from in let to = h.to in omega (arith, ints)

pub widened : (low high z : ℤ) → negsuc 999999999999999999 ≤ℤ low → high ≤ℤ pos 1000000000000000000 → IsBetween low high z → IsBetween (negsuc 999999999999999999) (pos 1000000000000000000) z
widened low high z p q h = let from = h.from in let to = h.to in record { from = omega (arith, ints); to = omega (arith, ints) }

-- what an acceleration adds
pub gained_is : (axis : Axis) (settings : SettingsData) (ticks : ℤ) → gained_in axis settings ticks ≡ int_div_euclid (acceleration axis settings *ℤ ticks) (pos 2000000) +ℤ pos 1
unfolding gained_in
gained_is axis settings ticks = refl

pub quotient_within : (z : ℤ) → IsBetween (pos 0) (pos 59999998000000) z → IsBetween (pos 0) (pos 29999999) (int_div_euclid z (pos 2000000))
quotient_within (pos n) h = let to = h.to in record { from = omega (arith, ints); to = omega (arith, ints) }
quotient_within (negsuc n) h = absurd (let from = h.from in omega (arith, ints))

-- ways
pub way_is : (rates : ℤ) (a b : Bounds) → int_max (rates *ℤ shortest a b) (rates *ℤ longest a b) ≡ way rates a b
unfolding way
way_is rates a b = refl

pub most_is_second : (x y : ℤ) → x ≤ℤ y → y ≡ int_max x y
most_is_second x y h = omega (arith, ints, clamps)

pub most_is_first : (x y : ℤ) → y ≤ℤ x → x ≡ int_max x y
most_is_first x y h = omega (arith, ints, clamps)

pub longest_leads : (rates short long : ℤ) → pos 0 ≤ℤ rates → short ≤ℤ long → rates *ℤ long ≡ int_max (rates *ℤ short) (rates *ℤ long)
longest_leads rates short long p h = most_is_second (rates *ℤ short) (rates *ℤ long) (mul_le rates short long p h)

pub shortest_leads : (rates short long : ℤ) → rates <ℤ pos 0 → short ≤ℤ long → rates *ℤ short ≡ int_max (rates *ℤ short) (rates *ℤ long)
shortest_leads rates short long p h =
    let m : (neg_ℤ rates *ℤ short) ≤ℤ (neg_ℤ rates *ℤ long) = mul_le (neg_ℤ rates) short long (omega (arith, ints)) h in
    let e1 : neg_ℤ rates *ℤ short ≡ neg_ℤ (rates *ℤ short) = simp ring in
    let e2 : neg_ℤ rates *ℤ long ≡ neg_ℤ (rates *ℤ long) = simp ring in
    most_is_first (rates *ℤ short) (rates *ℤ long) (omega (arith, linear, m, e1, e2))

-- a product of a machine number and a time fits into 128 bits
pub wide_plain : (rates time : ℤ) → SFits w64 rates → IsBetween (pos 0) (pos 29999999) time → to_z w128 (of_z w128 (rates *ℤ time)) ≡ rates *ℤ time
wide_plain rates time f h =
    let from = h.from in
    let to = h.to in
    let small : unsigned_abs rates ≤ 9223372036854775808 = omega (arith, ints) in
    let few : unsigned_abs time ≤ 29999999 = omega (arith, ints) in
    let size : unsigned_abs (rates *ℤ time) ≤ 9223372036854775808 * 29999999 = product_most rates time 9223372036854775808 29999999 small few in
    to_z-of_z w128 (rates *ℤ time) (fits_signed_from_abs w128 (rates *ℤ time) (omega (arith, size)))

-- a number that is cut at the ends of a range
pub kept_is : (least most z : ℤ) → int_max least (int_min z most) ≡ kept_within least most z
unfolding kept_within
kept_is least most z = refl

-- and one within it
pub kept_same : (least most z : ℤ) → least ≤ℤ z → z ≤ℤ most → kept_within least most z ≡ z
unfolding kept_within
kept_same least most z h k = omega (arith, ints, clamps)
