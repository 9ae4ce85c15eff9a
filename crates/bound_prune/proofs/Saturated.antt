-- Sums and differences that are cut at the ends of the machine's numbers, where what they decide is decided far from these ends.
use Rattle.std.proofs.Common.{◌≡◌, ℕ, ◌-◌, ◌^◌, ◌↔◌, min, w64, ap, ◌∙◌, arith}
use Rattle.std.specs.Prelude.{ℤ, pos, negsuc, neg_ℤ, ◌+ℤ◌, ◌-ℤ◌, ◌*ℤ◌, ◌≤ℤ◌, ◌<ℤ◌}
use Rattle.std.specs.Int.{int_max, saturate_signed}
use Rattle.std.proofs.lemmas.Int.{ints, clamps, by_lt_z}
use mathlib.Core.Logic.{inl, inr}
use borrow.Author.Differences.{same_in, product_is}
use Rattle.sky_math.proofs.Order.{linear, mul_le}
use Rattle.sky_math.proofs.Ring.{ring}
use Rattle.sky_units.specs.Ranges.{IsBetween}
use Rattle.bound_prune.specs.Bounds.{kept_within}
use Rattle.bound_prune.specs.Times.{StandsFor}
use Rattle.bound_prune.proofs.Cuts.{longest_leads, shortest_leads}

abbrev top : ℤ
top = pos 9223372036854775807

abbrev bottom : ℤ
bottom = negsuc 9223372036854775807

cut_same : (z : ℤ) → bottom ≤ℤ z → z ≤ℤ top → saturate_signed w64 z ≡ z
cut_same (pos n) h k = let e : min n (2 ^ 63 - 1) ≡ n = omega (arith, ints) in ap (λ (m : ℕ). pos m) e
cut_same (negsuc n) h k = let e : min n (2 ^ 63 - 1) ≡ n = omega (arith, ints) in ap (λ (m : ℕ). negsuc m) e

cut_high : (z : ℤ) → top <ℤ z → saturate_signed w64 z ≡ top
cut_high (pos n) h = let e : min n (2 ^ 63 - 1) ≡ 9223372036854775807 = omega (arith, ints) in ap (λ (m : ℕ). pos m) e
cut_high (negsuc n) h = absurd (omega (arith, ints))

cut_low : (z : ℤ) → z <ℤ bottom → saturate_signed w64 z ≡ bottom
cut_low (pos n) h = absurd (omega (arith, ints))
cut_low (negsuc n) h = let e : min n (2 ^ 63 - 1) ≡ 9223372036854775807 = omega (arith, ints) in ap (λ (m : ℕ). negsuc m) e

pub kept_range : (least most z : ℤ) → least ≤ℤ most → IsBetween least most (kept_within least most z)
unfolding kept_within
kept_range least most z h = record { from = omega (arith, ints, clamps); to = omega (arith, ints, clamps) }

-- ---- what two cut steps give
pub sum_stands : (x g s r : ℤ) → IsBetween (pos 1) (pos 30000000) g → s ≡ saturate_signed w64 x → r ≡ saturate_signed w64 (s +ℤ g) → StandsFor (x +ℤ g) r
sum_stands x g s r range s_is r_is =
    let from = range.from in
    let to = range.to in
    by_lt_z {P = StandsFor (x +ℤ g) r} x bottom
    (λ (low : x <ℤ bottom).
    let e : s ≡ bottom = s_is ∙ cut_low x low in
    let f : r ≡ s +ℤ g = r_is ∙ cut_same (s +ℤ g) (omega (arith, ints, e, from)) (omega (arith, ints, e, to)) in
    inr (inr (omega (arith, ints, low, to), omega (arith, ints, e, f, to))))
    (λ (no_less : bottom ≤ℤ x). by_lt_z {P = StandsFor (x +ℤ g) r} top x
    (λ (high : top <ℤ x).
    let e : s ≡ top = s_is ∙ cut_high x high in
    let f : r ≡ top = r_is ∙ cut_high (s +ℤ g) (omega (arith, ints, e, from)) in
    inr (inl (omega (arith, ints, high, from), omega (arith, ints, f))))
    (λ (no_more : x ≤ℤ top).
    let e : s ≡ x = s_is ∙ cut_same x no_less no_more in
    by_lt_z {P = StandsFor (x +ℤ g) r} top (s +ℤ g)
    (λ (high : top <ℤ (s +ℤ g)).
    let f : r ≡ top = r_is ∙ cut_high (s +ℤ g) high in
    inr (inl (omega (arith, ints, e, high), omega (arith, ints, f))))
    (λ (fits : (s +ℤ g) ≤ℤ top).
    let f : r ≡ s +ℤ g = r_is ∙ cut_same (s +ℤ g) (omega (arith, ints, e, no_less, from)) fits in
    inl (omega (arith, ints, e, f)))))

pub difference_stands : (x g s r : ℤ) → IsBetween (pos 1) (pos 30000000) g → s ≡ saturate_signed w64 x → r ≡ saturate_signed w64 (g -ℤ s) → StandsFor (neg_ℤ x +ℤ g) r
difference_stands x g s r range s_is r_is =
    let from = range.from in
    let to = range.to in
    by_lt_z {P = StandsFor (neg_ℤ x +ℤ g) r} x bottom
    (λ (low : x <ℤ bottom).
    let e : s ≡ bottom = s_is ∙ cut_low x low in
    let f : r ≡ top = r_is ∙ cut_high (g -ℤ s) (omega (arith, ints, e, from)) in
    inr (inl (omega (arith, ints, low, from), omega (arith, ints, f))))
    (λ (no_less : bottom ≤ℤ x). by_lt_z {P = StandsFor (neg_ℤ x +ℤ g) r} top x
    (λ (high : top <ℤ x).
    let e : s ≡ top = s_is ∙ cut_high x high in
    let f : r ≡ g -ℤ s = r_is ∙ cut_same (g -ℤ s) (omega (arith, ints, e, from)) (omega (arith, ints, e, to)) in
    inr (inr (omega (arith, ints, high, to), omega (arith, ints, e, f, to))))
    (λ (no_more : x ≤ℤ top).
    let e : s ≡ x = s_is ∙ cut_same x no_less no_more in
    by_lt_z {P = StandsFor (neg_ℤ x +ℤ g) r} top (g -ℤ s)
    (λ (high : top <ℤ (g -ℤ s)).
    let f : r ≡ top = r_is ∙ cut_high (g -ℤ s) high in
    inr (inl (omega (arith, ints, e, high), omega (arith, ints, f))))
    (λ (fits : (g -ℤ s) ≤ℤ top).
    let f : r ≡ g -ℤ s = r_is ∙ cut_same (g -ℤ s) (omega (arith, ints, e, no_more, from)) fits in
    inl (omega (arith, ints, e, f)))))

-- ---- what great rates decide
no_time : (rates : ℤ) → rates *ℤ pos 0 ≡ pos 0
no_time rates = same_in _ _ (omega (arith, product_is rates (pos 0)))

one_tick : (rates : ℤ) → rates *ℤ pos 1 ≡ rates
one_tick rates = same_in _ _ (omega (arith, product_is rates (pos 1)))

-- great rates ahead reach everything near in some time, and nothing ahead in none
up : (rates long wanted : ℤ) → pos 4611686018427387904 ≤ℤ rates → pos 0 <ℤ long → wanted ≤ℤ pos 4000000000000000 → wanted ≤ℤ (rates *ℤ long)
up rates long wanted great some near =
    let m : (rates *ℤ pos 1) ≤ℤ (rates *ℤ long) = mul_le rates (pos 1) long (omega (arith, ints)) (omega (arith, ints)) in
    let one = one_tick rates in
    omega (arith, linear, m, one, great, near)

-- and great rates back nothing near in some time
down : (rates short wanted : ℤ) → rates ≤ℤ neg_ℤ (pos 4611686018427387904) → pos 0 <ℤ short → neg_ℤ (pos 4000000000000000) ≤ℤ wanted → wanted ≤ℤ (rates *ℤ short) → ⊥
down rates short wanted great some near h =
    let m : (neg_ℤ rates *ℤ pos 1) ≤ℤ (neg_ℤ rates *ℤ short) = mul_le (neg_ℤ rates) (pos 1) short (omega (arith, ints)) (omega (arith, ints)) in
    let one = one_tick (neg_ℤ rates) in
    let e : neg_ℤ rates *ℤ short ≡ neg_ℤ (rates *ℤ short) = simp ring in
    absurd (omega (arith, linear, m, one, e, great, near, h))

same_at_none : (rates exact time wanted : ℤ) → time ≡ pos 0 → wanted ≤ℤ (rates *ℤ time) → wanted ≤ℤ (exact *ℤ time)
same_at_none rates exact time wanted e h =
    let a : rates *ℤ time ≡ pos 0 = ap (λ (t : ℤ). rates *ℤ t) e ∙ no_time rates in
    let b : exact *ℤ time ≡ pos 0 = ap (λ (t : ℤ). exact *ℤ t) e ∙ no_time exact in
    omega (arith, linear, a, b, h)

both_up : (rates exact short long wanted : ℤ) → pos 4611686018427387904 ≤ℤ rates → pos 4611686018427387904 ≤ℤ exact → pos 0 ≤ℤ short → short ≤ℤ long → wanted ≤ℤ pos 4000000000000000 →
    wanted ≤ℤ int_max (rates *ℤ short) (rates *ℤ long) → wanted ≤ℤ int_max (exact *ℤ short) (exact *ℤ long)
both_up rates exact short long wanted p q from order near h =
    let a = longest_leads rates short long (omega (arith, ints)) order in
    let b = longest_leads exact short long (omega (arith, ints)) order in
    let g : wanted ≤ℤ (rates *ℤ long) = rw a h in
    rw (← b) (by_lt_z {P = wanted ≤ℤ (exact *ℤ long)} (pos 0) long (λ some. up exact long wanted q some near) (λ none. same_at_none rates exact long wanted (omega (arith, ints)) g))

both_down : (rates exact short long wanted : ℤ) → rates ≤ℤ neg_ℤ (pos 4611686018427387904) → exact ≤ℤ neg_ℤ (pos 4611686018427387904) → pos 0 ≤ℤ short → short ≤ℤ long → neg_ℤ (pos 4000000000000000) ≤ℤ wanted →
    wanted ≤ℤ int_max (rates *ℤ short) (rates *ℤ long) → wanted ≤ℤ int_max (exact *ℤ short) (exact *ℤ long)
both_down rates exact short long wanted p q from order near h =
    let a = shortest_leads rates short long (omega (arith, ints)) order in
    let b = shortest_leads exact short long (omega (arith, ints)) order in
    let g : wanted ≤ℤ (rates *ℤ short) = rw a h in
    rw (← b) (by_lt_z {P = wanted ≤ℤ (exact *ℤ short)} (pos 0) short (λ some. absurd (down rates short wanted p some near g)) (λ none. same_at_none rates exact short wanted (omega (arith, ints)) g))

-- what a rate decides, what stands for it decides
pub stand_alike : (exact rates short long wanted : ℤ) → StandsFor exact rates → pos 0 ≤ℤ short → short ≤ℤ long → IsBetween (neg_ℤ (pos 4000000000000000)) (pos 4000000000000000) wanted →
    (wanted ≤ℤ int_max (rates *ℤ short) (rates *ℤ long)) ↔ (wanted ≤ℤ int_max (exact *ℤ short) (exact *ℤ long))
stand_alike exact rates short long wanted stands from order near = elim stands [
  | inl e ↦ (λ h. rw e at h, λ h. rw e h)
  | inr great ↦ elim great [
    | inl ahead ↦ (both_up rates exact short long wanted ahead.1 ahead.0 from order near.to, both_up exact rates short long wanted ahead.0 ahead.1 from order near.to)
    | inr back ↦ (both_down rates exact short long wanted back.1 back.0 from order near.from, both_down exact rates short long wanted back.0 back.1 from order near.from)
  ]
]
