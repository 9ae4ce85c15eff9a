-- Four points by turns beyond a curve: the coefficients of the first three and those of the last three have nothing in common.
use Rattle.std.proofs.Common.{◌≡◌, ℕ, ◌<◌, ℤ, neg_ℤ, ◌+ℤ◌, ◌-ℤ◌, ◌*ℤ◌, ◌≤ℤ◌, ◌<ℤ◌, List, length, get_or, sym, subst, ◌∙◌, arith}
use Rattle.std.proofs.lemmas.Bool.{cases_order}
use Rattle.std.proofs.lemmas.List.{get_or_default}
use Rattle.std.specs.List.{Contains}
use mathlib.Core.Logic.{inl, inr}
use Rattle.sky_math.proofs.Order.{linear, mul_le, mul_lt}
use Rattle.sky_math.proofs.Ring.{mul_neg, ring}
use Rattle.sky_math.specs.Quadratics.{Point, Quadratic, residual}
use Rattle.sky_math.specs.Triples.{bend, stretch}
use Rattle.quad_fit.specs.MarkRanges.{RiseInTime}
use Rattle.quad_fit.specs.References.{IsTripleOf}
use Rattle.quad_fit.specs.declared.references.Triple.{Triple}
use Rattle.refusal_cert.specs.Coefficients.{HaveCommon, IsAtMost, KeepsLimit}
use Rattle.refusal_cert.proofs.Fractions.{EachKeepsLimit, greatest, least, over}

-- the residuals of three points, each times the time between the other two, leave only the leading coefficient
combined : (p v q d si yi sj yj sk yk : ℤ) →
    (((sj -ℤ si) *ℤ (((p +ℤ (v *ℤ sk)) +ℤ (q *ℤ (sk *ℤ sk))) -ℤ (yk *ℤ d))) -ℤ ((sk -ℤ si) *ℤ (((p +ℤ (v *ℤ sj)) +ℤ (q *ℤ (sj *ℤ sj))) -ℤ (yj *ℤ d)))) +ℤ ((sk -ℤ sj) *ℤ (((p +ℤ (v *ℤ si)) +ℤ (q *ℤ (si *ℤ si))) -ℤ (yi *ℤ d)))
    ≡ (q *ℤ (((sj -ℤ si) *ℤ (sk -ℤ sj)) *ℤ (sk -ℤ si))) -ℤ ((((yk -ℤ yj) *ℤ (sj -ℤ si)) -ℤ ((yj -ℤ yi) *ℤ (sk -ℤ sj))) *ℤ d)
combined p v q d si yi sj yj sk yk = simp ring (omega (arith, linear))

above_sum : (a c m rx ry rz q s b d tol : ℤ) → m ≡ a +ℤ c → ((a *ℤ rz) -ℤ (m *ℤ ry)) +ℤ (c *ℤ rx) ≡ (q *ℤ s) -ℤ (b *ℤ d) →
    (m *ℤ ry) ≤ℤ (m *ℤ neg_ℤ (tol *ℤ d)) → ((a *ℤ (tol *ℤ d)) +ℤ (c *ℤ (tol *ℤ d))) <ℤ ((a *ℤ rz) +ℤ (c *ℤ rx)) →
    ((b +ℤ ((tol +ℤ tol) *ℤ m)) *ℤ d) <ℤ (q *ℤ s)
above_sum a c m rx ry rz q s b d tol em e middle outer =
    let n = mul_neg m (tol *ℤ d) in
    let k : m *ℤ (tol *ℤ d) ≡ (a *ℤ (tol *ℤ d)) +ℤ (c *ℤ (tol *ℤ d)) = rw em (simp ring (omega (arith, linear))) in
    let w : (b +ℤ ((tol +ℤ tol) *ℤ m)) *ℤ d ≡ (b *ℤ d) +ℤ ((m *ℤ (tol *ℤ d)) +ℤ (m *ℤ (tol *ℤ d))) = simp ring (omega (arith, linear)) in
    omega (arith, linear, e, middle, outer, n, k, w)

-- three points in order of time
pub record InOrder (x y z : Point) : Type 0 where
  pub before : x.time <ℤ y.time
  pub after : y.time <ℤ z.time

-- a quadratic beyond the first point, and at the tolerance from the others, by turns: its coefficient is above the greatest one
pub beyond_first : (tol : ℤ) (f : Quadratic) (x y z : Point) → InOrder x y z → (tol *ℤ f.d) <ℤ residual f x → residual f y ≡ neg_ℤ (tol *ℤ f.d) → residual f z ≡ tol *ℤ f.d → IsAtMost (over f.q f.d) (greatest tol x y z) → ⊥
beyond_first tol f x y z o hx hy hz most =
    let before = o.before in
    let after = o.after in
    let a : ℤ = y.time -ℤ x.time in
    let c : ℤ = z.time -ℤ y.time in
    let m : ℤ = z.time -ℤ x.time in
    let one = mul_lt c (tol *ℤ f.d) (residual f x) (omega (arith, linear, after)) hx in
    let two = mul_le m (residual f y) (neg_ℤ (tol *ℤ f.d)) (omega (arith, linear, before, after)) (omega (arith, linear, hy)) in
    let three = mul_le a (tol *ℤ f.d) (residual f z) (omega (arith, linear, before)) (omega (arith, linear, hz)) in
    let s = above_sum a c m (residual f x) (residual f y) (residual f z) f.q (stretch x y z) (bend x y z) f.d tol (omega (arith, linear))
    (combined f.p f.v f.q f.d x.time x.position y.time y.position z.time z.position) two (omega (arith, linear, one, three)) in
    omega (arith, linear, s, most)

-- the same where it is beyond the last point
pub beyond_last : (tol : ℤ) (f : Quadratic) (x y z : Point) → InOrder x y z → residual f x ≡ tol *ℤ f.d → residual f y ≡ neg_ℤ (tol *ℤ f.d) → (tol *ℤ f.d) <ℤ residual f z → IsAtMost (over f.q f.d) (greatest tol x y z) → ⊥
beyond_last tol f x y z o hx hy hz most =
    let before = o.before in
    let after = o.after in
    let a : ℤ = y.time -ℤ x.time in
    let c : ℤ = z.time -ℤ y.time in
    let m : ℤ = z.time -ℤ x.time in
    let one = mul_le c (tol *ℤ f.d) (residual f x) (omega (arith, linear, after)) (omega (arith, linear, hx)) in
    let two = mul_le m (residual f y) (neg_ℤ (tol *ℤ f.d)) (omega (arith, linear, before, after)) (omega (arith, linear, hy)) in
    let three = mul_lt a (tol *ℤ f.d) (residual f z) (omega (arith, linear, before)) hz in
    let s = above_sum a c m (residual f x) (residual f y) (residual f z) f.q (stretch x y z) (bend x y z) f.d tol (omega (arith, linear))
    (combined f.p f.v f.q f.d x.time x.position y.time y.position z.time z.position) two (omega (arith, linear, one, three)) in
    omega (arith, linear, s, most)

-- ---- four of the points
-- the coefficients of the first three of four points and those of the last three have some in common
abbrev pub FourHaveCommon : ℤ → Point → Point → Point → Point → Type 0
FourHaveCommon tol w x y z = HaveCommon (least tol w x y) (greatest tol w x y) (least tol x y z) (greatest tol x y z)

abbrev pub EachFourHaveCommon : ℤ → List Point → Type 0
EachFourHaveCommon tol xs = (i j k l : ℕ) (d : Point) → i < j → j < k → k < l → l < length xs → FourHaveCommon tol (get_or xs i d) (get_or xs j d) (get_or xs k d) (get_or xs l d)

-- of two places of rising times the earlier one has the earlier time
pub place_order : (xs : List Point) (i j : ℕ) (d : Point) → RiseInTime xs → i < length xs → (get_or xs i d).time <ℤ (get_or xs j d).time → i < j
place_order xs i j d rise il h = elim (cases_order i j) as (λ _. i < j) [
  | inl e ↦ let s = subst (λ (n : ℕ). (get_or xs i d).time <ℤ (get_or xs n d).time) (sym e) h in absurd (omega (arith, linear, s))
  | inr c ↦ elim c as (λ _. i < j) [
    | inl l ↦ l
    | inr l ↦ let r = rise j i d l il in absurd (omega (arith, linear, r, h))
  ]
]

-- where a point stands
pub record StandsAt (xs : List Point) (d x : Point) : Type 0 where
  pub place : ℕ
  pub within : place < length xs
  pub is : get_or xs place d ≡ x

pub stands_at : (xs : List Point) (d x : Point) → Contains xs x → StandsAt xs d x
stands_at xs d x has = record { place = has.0; within = has.1; is = get_or_default xs has.0 d x has.1 ∙ has.2 }

pub four_among : (tol : ℤ) (xs : List Point) (w x y z : Point) → RiseInTime xs → EachFourHaveCommon tol xs → Contains xs w → Contains xs x → Contains xs y → Contains xs z → w.time <ℤ x.time → x.time <ℤ y.time → y.time <ℤ z.time → FourHaveCommon tol w x y z
four_among tol xs w x y z rise each cw cx cy cz wx xy yz =
    let a = stands_at xs w w cw in
    let b = stands_at xs w x cx in
    let c = stands_at xs w y cy in
    let e = stands_at xs w z cz in
    let one = place_order xs a.place b.place w rise a.within (rw (a.is, b.is) wx) in
    let two = place_order xs b.place c.place w rise b.within (rw (b.is, c.is) xy) in
    let three = place_order xs c.place e.place w rise c.within (rw (c.is, e.is) yz) in
    rw (a.is, b.is, c.is, e.is) at (each a.place b.place c.place e.place w one two three e.within)

pub three_among : (acc tol : ℤ) (xs : List Point) (t : Triple) → RiseInTime xs → EachKeepsLimit acc tol xs → IsTripleOf xs t → KeepsLimit acc (least tol t.first t.middle t.last) (greatest tol t.first t.middle t.last)
three_among acc tol xs t rise each is =
    let a = stands_at xs t.first t.first is.has_first in
    let b = stands_at xs t.first t.middle is.has_middle in
    let c = stands_at xs t.first t.last is.has_last in
    let one = place_order xs a.place b.place t.first rise a.within (rw (a.is, b.is) is.is.before) in
    let two = place_order xs b.place c.place t.first rise b.within (rw (b.is, c.is) is.is.after) in
    rw (a.is, b.is, c.is) at (each a.place b.place c.place t.first one two c.within)
