-- What the exchange of one point for one outside a levelled curve asks for.
use Rattle.std.proofs.Common.{◌≡◌, ℕ, ◌<◌, ℤ, pos, neg_ℤ, ◌+ℤ◌, ◌-ℤ◌, ◌*ℤ◌, ◌≤ℤ◌, ◌<ℤ◌, Bool, true, false, List, length, get_or, refl, sym, ap, ◌∙◌, arith}
use Rattle.std.proofs.lemmas.Bool.{cases_order}
use Rattle.std.proofs.lemmas.List.{get_or_default}
use Rattle.std.proofs.lemmas.List.Elements.{All-contains}
use Rattle.std.specs.List.{All, Contains}
use Rattle.std.specs.Prelude.{not}
use mathlib.Core.Bool.{beq}
use mathlib.Core.Logic.{inl, inr}
use borrow.Author.Differences.{same_in, product_is}
use Rattle.sky_math.proofs.Coefficients.{suits_of_passes}
use Rattle.sky_math.proofs.Order.{linear, mul_le, mul_lt, mul_positive, mul_not_negative, lt_cancel}
use Rattle.sky_math.proofs.Ring.{ring, mul_comm, mul_neg, neg_mul, sub_mul}
use Rattle.sky_math.specs.Lists.{EachThree}
use Rattle.sky_math.specs.Quadratics.{Point, Quadratic, Passes, residual}
use Rattle.sky_math.specs.Triples.{Suits, bend, slack, stretch}
use Rattle.sky_units.specs.Limits.{arc_ticks}
use Rattle.quad_fit.specs.Curves.{CurveData, quadratic_of}
use Rattle.quad_fit.specs.Levels.{IsBent}
use Rattle.quad_fit.specs.MarkRanges.{AreMarks, RiseInTime}
use Rattle.quad_fit.specs.References.{signed, least_bend, IsTriple, IsTripleOf, IsPairOf, IsLevelled, IsLevelLine, NonePasses, AsksMoreBend, AsksMoreSlope}
use Rattle.quad_fit.specs.declared.references.Pair.{Pair}
use Rattle.quad_fit.specs.declared.references.Triple.{Triple}
use Rattle.quad_fit.proofs.NewtonForm.{residual_is}

-- ---- three residuals tell how much the bend of a curve falls short
-- the residuals of three points, each times the time between the other two, leave only the leading coefficient
combined : (p v q d si yi sj yj sk yk : ℤ) →
    (((sj -ℤ si) *ℤ (((p +ℤ (v *ℤ sk)) +ℤ (q *ℤ (sk *ℤ sk))) -ℤ (yk *ℤ d))) -ℤ ((sk -ℤ si) *ℤ (((p +ℤ (v *ℤ sj)) +ℤ (q *ℤ (sj *ℤ sj))) -ℤ (yj *ℤ d)))) +ℤ ((sk -ℤ sj) *ℤ (((p +ℤ (v *ℤ si)) +ℤ (q *ℤ (si *ℤ si))) -ℤ (yi *ℤ d)))
    ≡ (q *ℤ (((sj -ℤ si) *ℤ (sk -ℤ sj)) *ℤ (sk -ℤ si))) -ℤ ((((yk -ℤ yj) *ℤ (sj -ℤ si)) -ℤ ((yj -ℤ yi) *ℤ (sk -ℤ sj))) *ℤ d)
combined p v q d si yi sj yj sk yk = simp ring (omega (arith, linear))

mirrored : (a m c rx ry rz q s b d : ℤ) → ((a *ℤ rz) -ℤ (m *ℤ ry)) +ℤ (c *ℤ rx) ≡ (q *ℤ s) -ℤ (b *ℤ d) →
    ((a *ℤ neg_ℤ rz) -ℤ (m *ℤ neg_ℤ ry)) +ℤ (c *ℤ neg_ℤ rx) ≡ (neg_ℤ q *ℤ s) -ℤ (neg_ℤ b *ℤ d)
mirrored a m c rx ry rz q s b d e =
    let e1 = mul_neg a rz in
    let e2 = mul_neg m ry in
    let e3 = mul_neg c rx in
    let e4 = neg_mul q s in
    let e5 = neg_mul b d in
    omega (arith, linear, e, e1, e2, e3, e4, e5)

combined_signed : (up : Bool) (f : Quadratic) (x y z : Point) →
    (((y.time -ℤ x.time) *ℤ signed up (residual f z)) -ℤ ((z.time -ℤ x.time) *ℤ signed up (residual f y))) +ℤ ((z.time -ℤ y.time) *ℤ signed up (residual f x))
    ≡ (signed up f.q *ℤ stretch x y z) -ℤ (signed up (bend x y z) *ℤ f.d)
combined_signed true f x y z = combined f.p f.v f.q f.d x.time x.position y.time y.position z.time z.position
combined_signed false f x y z = mirrored (y.time -ℤ x.time) (z.time -ℤ x.time) (z.time -ℤ y.time) (residual f x) (residual f y) (residual f z) f.q (stretch x y z) (bend x y z) f.d
    (combined f.p f.v f.q f.d x.time x.position y.time y.position z.time z.position)

-- what isn't negative doesn't shrink when it is multiplied by what is positive
grown : (k x : ℤ) → pos 0 <ℤ k → pos 0 ≤ℤ x → x ≤ℤ (k *ℤ x)
grown k x p h =
    let m = mul_le x (pos 1) k h (omega (arith, linear)) in
    let o : x *ℤ pos 1 ≡ x = same_in _ _ (omega (arith, product_is x (pos 1))) in
    let c = mul_comm x k in
    omega (arith, linear, m)

more_sum : (a c m rx ry rz q s b d tol : ℤ) → pos 0 <ℤ a → pos 0 <ℤ c → m ≡ a +ℤ c →
    ((a *ℤ rz) -ℤ (m *ℤ ry)) +ℤ (c *ℤ rx) ≡ (q *ℤ s) -ℤ (b *ℤ d) →
    rx ≤ℤ neg_ℤ (tol *ℤ d) → (tol *ℤ d) ≤ℤ ry → rz ≤ℤ neg_ℤ (tol *ℤ d) → ((rx +ℤ rz) -ℤ ry) <ℤ neg_ℤ (((tol *ℤ d) +ℤ (tol *ℤ d)) +ℤ (tol *ℤ d)) →
    (q *ℤ s) <ℤ ((b -ℤ ((tol +ℤ tol) *ℤ m)) *ℤ d)
more_sum a c m rx ry rz q s b d tol pa pc em e hx hy hz strict =
    let l : ℤ = tol *ℤ d in
    let g1 = grown c (neg_ℤ l -ℤ rx) pc (omega (arith, linear)) in
    let g2 = grown m (ry -ℤ l) (omega (arith, linear)) (omega (arith, linear)) in
    let g3 = grown a (neg_ℤ l -ℤ rz) pa (omega (arith, linear)) in
    let k1 : c *ℤ (neg_ℤ l -ℤ rx) ≡ neg_ℤ (c *ℤ l) -ℤ (c *ℤ rx) = spread_down c l rx in
    let k2 : m *ℤ (ry -ℤ l) ≡ (m *ℤ ry) -ℤ (m *ℤ l) = spread_up m l ry in
    let k3 : a *ℤ (neg_ℤ l -ℤ rz) ≡ neg_ℤ (a *ℤ l) -ℤ (a *ℤ rz) = spread_down a l rz in
    let k4 : m *ℤ l ≡ (a *ℤ l) +ℤ (c *ℤ l) = rw em (simp ring (omega (arith, linear))) in
    let k5 : (b -ℤ ((tol +ℤ tol) *ℤ m)) *ℤ d ≡ (b *ℤ d) -ℤ ((m *ℤ l) +ℤ (m *ℤ l)) = simp ring (omega (arith, linear)) in
    omega (arith, linear, g1, g2, g3, k1, k2, k3, k4, k5, e)
  where
    spread_down : (k l r : ℤ) → k *ℤ (neg_ℤ l -ℤ r) ≡ neg_ℤ (k *ℤ l) -ℤ (k *ℤ r)
    spread_down k l r = simp ring (omega (arith, linear))

    spread_up : (k l r : ℤ) → k *ℤ (r -ℤ l) ≡ (k *ℤ r) -ℤ (k *ℤ l)
    spread_up k l r = simp ring (omega (arith, linear))

-- three residuals by turns at the tolerance or beyond, one of them beyond: the points ask for more bend
bends_more : (tol : ℤ) (up : Bool) (c : CurveData) (t : Triple) → IsTriple t →
    signed up (residual (quadratic_of c) t.first) ≤ℤ neg_ℤ (tol *ℤ c.den) → (tol *ℤ c.den) ≤ℤ signed up (residual (quadratic_of c) t.middle) → signed up (residual (quadratic_of c) t.last) ≤ℤ neg_ℤ (tol *ℤ c.den) →
    ((signed up (residual (quadratic_of c) t.first) +ℤ signed up (residual (quadratic_of c) t.last)) -ℤ signed up (residual (quadratic_of c) t.middle)) <ℤ neg_ℤ (((tol *ℤ c.den) +ℤ (tol *ℤ c.den)) +ℤ (tol *ℤ c.den)) →
    AsksMoreBend tol up c t
bends_more tol up c t is hx hy hz strict =
    let before = is.before in
    let after = is.after in
    more_sum (t.middle.time -ℤ t.first.time) (t.last.time -ℤ t.middle.time) (t.last.time -ℤ t.first.time)
    (signed up (residual (quadratic_of c) t.first)) (signed up (residual (quadratic_of c) t.middle)) (signed up (residual (quadratic_of c) t.last))
    (signed up c.bend) (stretch t.first t.middle t.last) (signed up (bend t.first t.middle t.last)) c.den tol
    (omega (arith, linear, before)) (omega (arith, linear, after)) (omega (arith, linear))
    (combined_signed up (quadratic_of c) t.first t.middle t.last) hx hy hz strict

-- ---- what suits three points bends at least as they ask
pub least_of_suits : (tol a b : ℤ) (up : Bool) (t : Triple) → Suits tol a b t.first t.middle t.last → (least_bend tol up t *ℤ b) ≤ℤ (signed up a *ℤ stretch t.first t.middle t.last)
least_of_suits tol a b true t w =
    let e = sub_mul (bend t.first t.middle t.last) (slack tol t.first t.last) b in
    omega (arith, linear, w, e)
least_of_suits tol a b false t w =
    let e = sub_mul (neg_ℤ (bend t.first t.middle t.last)) (slack tol t.first t.last) b in
    let f = neg_mul (bend t.first t.middle t.last) b in
    let g = neg_mul a (stretch t.first t.middle t.last) in
    omega (arith, linear, w, e, f, g)

pub stretch_positive : (t : Triple) → IsTriple t → pos 0 <ℤ stretch t.first t.middle t.last
stretch_positive t is =
    let before = is.before in
    let after = is.after in
    let two = mul_positive (t.middle.time -ℤ t.first.time) (t.last.time -ℤ t.middle.time) (omega (arith, linear, before)) (omega (arith, linear, after)) in
    mul_positive ((t.middle.time -ℤ t.first.time) *ℤ (t.last.time -ℤ t.middle.time)) (t.last.time -ℤ t.first.time) two (omega (arith, linear, before, after))

-- a levelled curve bends the least
pub levelled_is_least : (tol a b : ℤ) (up : Bool) (t : Triple) (c : CurveData) → IsLevelled tol up t c → Suits tol a b t.first t.middle t.last → (signed up c.bend *ℤ b) ≤ℤ (signed up a *ℤ c.den)
levelled_is_least tol a b up t c l w = rw (l.leads, l.over) (least_of_suits tol a b up t w)

pub suits_of : (tol : ℤ) (f : Quadratic) (xs : List Point) (t : Triple) → IsTripleOf xs t → All (Passes tol f) xs → Suits tol f.q f.d t.first t.middle t.last
suits_of tol f xs t is passes = suits_of_passes tol f t.first t.middle t.last is.is.before is.is.after
    (All-contains (Passes tol f) xs t.first passes is.has_first) (All-contains (Passes tol f) xs t.middle passes is.has_middle) (All-contains (Passes tol f) xs t.last passes is.has_last)

-- what bends at least so much and what bends less can't be one
no_room : (k q l s d e : ℤ) → pos 0 <ℤ s → pos 0 <ℤ d → pos 0 <ℤ e → (neg_ℤ k *ℤ s) <ℤ (l *ℤ e) → (l *ℤ d) ≤ℤ (neg_ℤ q *ℤ s) → (k *ℤ d) ≤ℤ (q *ℤ e) → ⊥
no_room k q l s d e ps pd pe asks least most =
    let m1 = mul_lt d (neg_ℤ k *ℤ s) (l *ℤ e) pd asks in
    let m2 = mul_le e (l *ℤ d) (neg_ℤ q *ℤ s) (omega (arith, linear, pe)) least in
    let m3 = mul_le s (k *ℤ d) (q *ℤ e) (omega (arith, linear, ps)) most in
    let e1 : d *ℤ (neg_ℤ k *ℤ s) ≡ neg_ℤ (s *ℤ (k *ℤ d)) = simp ring in
    let e2 : d *ℤ (l *ℤ e) ≡ e *ℤ (l *ℤ d) = simp ring in
    let e3 : e *ℤ (neg_ℤ q *ℤ s) ≡ neg_ℤ (s *ℤ (q *ℤ e)) = simp ring in
    omega (arith, linear, m1, m2, m3, e1, e2, e3)

signed_other : (up : Bool) (x : ℤ) → signed (not up) x ≡ neg_ℤ (signed up x)
signed_other true x = refl
signed_other false x = omega (arith, linear)

-- three points ask for this bend at least, three for more the other way: no quadratic
none_between : (tol : ℤ) (up : Bool) (c : CurveData) (xs : List Point) (t u : Triple) → IsTripleOf xs t → IsTripleOf xs u → IsLevelled tol up t c → AsksMoreBend tol (not up) c u → NonePasses tol xs
none_between tol up c xs t u it iu l asks = λ f p passes.
    let least = least_of_suits tol f.q f.d (not up) u (suits_of tol f xs u iu passes) in
    let most = levelled_is_least tol f.q f.d up t c l (suits_of tol f xs t it passes) in
    let pe : pos 0 <ℤ c.den = rw l.over (stretch_positive t it.is) in
    no_room (signed up c.bend) (signed up f.q) (least_bend tol (not up) u) (stretch u.first u.middle u.last) f.d c.den (stretch_positive u iu.is) p pe
    (rw (signed_other up c.bend) at asks) (rw (signed_other up f.q) at least) most

-- ---- points of an arc
same_place : (xs : List Point) (w x : Point) (i j : ℕ) → get_or xs i w ≡ w → j < length xs → get_or xs j x ≡ x → i ≡ j → w ≡ x
same_place xs w x i j ew jl ex e = sym ew ∙ ap (λ (n : ℕ). get_or xs n w) e ∙ get_or_default xs j w x jl ∙ ex

-- of two points with different residuals one is earlier
pub strictly : (xs : List Point) (f : Point → ℤ) (w x : Point) → RiseInTime xs → Contains xs w → Contains xs x → (f w ≡ f x → ⊥) → w.time ≤ℤ x.time → w.time <ℤ x.time
strictly xs f w x rise cw cx differ h =
    let i : ℕ = cw.0 in
    let j : ℕ = cx.0 in
    let il : i < length xs = cw.1 in
    let jl : j < length xs = cx.1 in
    let ew : get_or xs i w ≡ w = cw.2 in
    let ex : get_or xs j x ≡ x = cx.2 in
    let ex' : get_or xs j w ≡ x = get_or_default xs j w x jl ∙ ex in
    elim (cases_order i j) as (λ _. w.time <ℤ x.time) [
      | inl e ↦ absurd (differ (ap f (same_place xs w x i j ew jl ex e)))
      | inr c ↦ elim c as (λ _. w.time <ℤ x.time) [
        | inl l ↦ let r = rise i j w l jl in rw (ew, ex') at r
        | inr l ↦ let r = rise j i w l il in let s : x.time <ℤ w.time = rw (ew, ex') at r in absurd (omega (arith, linear, s, h))
      ]
    ]

pub briefly : (xs : List Point) (x z : Point) → AreMarks xs → Contains xs x → Contains xs z → (z.time -ℤ x.time) <ℤ arc_ticks
briefly xs x z marks cx cz =
    let i : ℕ = cx.0 in
    let j : ℕ = cz.0 in
    let il : i < length xs = cx.1 in
    let jl : j < length xs = cz.1 in
    let ex : get_or xs i x ≡ x = cx.2 in
    let ez : get_or xs j z ≡ z = cz.2 in
    let ez' : get_or xs j x ≡ z = get_or_default xs j x z jl ∙ ez in
    elim (cases_order i j) as (λ _. (z.time -ℤ x.time) <ℤ arc_ticks) [
      | inl e ↦ let s : x.time ≡ z.time = ap (λ (u : Point). u.time) (same_place xs x z i j ex jl ez e) in omega (arith, linear, s)
      | inr c ↦ elim c as (λ _. (z.time -ℤ x.time) <ℤ arc_ticks) [
        | inl l ↦ let r = marks.short i j x l jl in rw (ex, ez') at r
        | inr l ↦ let r = marks.rise j i x l il in let s : z.time <ℤ x.time = rw (ex, ez') at r in omega (arith, linear, s)
      ]
    ]

-- the earlier of two points stands before the later one
before_of : (xs : List Point) (x y : Point) (i j : ℕ) → RiseInTime xs → i < length xs → get_or xs i x ≡ x → j < length xs → get_or xs j y ≡ y → x.time <ℤ y.time → i < j
before_of xs x y i j rise il ex jl ey h =
    let ex' : get_or xs i y ≡ x = get_or_default xs i y x il ∙ ex in
    elim (cases_order i j) as (λ _. i < j) [
      | inl e ↦ let s : x.time ≡ y.time = ap (λ (u : Point). u.time) (same_place xs x y i j ex jl ey e) in absurd (omega (arith, linear, s, h))
      | inr c ↦ elim c as (λ _. i < j) [
        | inl l ↦ l
        | inr l ↦ let r = rise j i y l il in let s : y.time <ℤ x.time = rw (ex', ey) at r in absurd (omega (arith, linear, s, h))
      ]
    ]

-- what suits each three points suits three among them
pub suits_among : (tol a b : ℤ) (xs : List Point) (t : Triple) → RiseInTime xs → IsTripleOf xs t → EachThree (Suits tol a b) xs → Suits tol a b t.first t.middle t.last
suits_among tol a b xs t rise is suits =
    let i : ℕ = is.has_first.0 in
    let j : ℕ = is.has_middle.0 in
    let k : ℕ = is.has_last.0 in
    let ij = before_of xs t.first t.middle i j rise is.has_first.1 is.has_first.2 is.has_middle.1 is.has_middle.2 is.is.before in
    let jk = before_of xs t.middle t.last j k rise is.has_middle.1 is.has_middle.2 is.has_last.1 is.has_last.2 is.is.after in
    let ey : get_or xs j t.first ≡ t.middle = get_or_default xs j t.first t.middle is.has_middle.1 ∙ is.has_middle.2 in
    let ez : get_or xs k t.first ≡ t.last = get_or_default xs k t.first t.last is.has_last.1 ∙ is.has_last.2 in
    let s = suits i j k t.first ij jk is.has_last.1 in
    rw (is.has_first.2, ey, ez) at s

triple_of : (xs : List Point) (t : Triple) → AreMarks xs → Contains xs t.first → Contains xs t.middle → Contains xs t.last → t.first.time <ℤ t.middle.time → t.middle.time <ℤ t.last.time → IsTripleOf xs t
triple_of xs t marks cx cy cz before after = record { is = record { before = before; after = after; brief = briefly xs t.first t.last marks cx cz }; has_first = cx; has_middle = cy; has_last = cz }

-- the tolerance over a denominator
room : (tol d : ℤ) → pos 0 ≤ℤ tol → pos 0 <ℤ d → pos 0 ≤ℤ (tol *ℤ d)
room tol d t p = mul_not_negative tol d t (omega (arith, linear, p))

-- ---- an exchange of one of three
-- a point outside on the side of the outer points
pub record Outer (tol : ℤ) (up : Bool) (c : CurveData) (xs : List Point) (t : Triple) (w : Point) : Type 0 where
  pub marks : AreMarks xs
  pub tol_ok : pos 0 ≤ℤ tol
  pub is : IsTripleOf xs t
  pub levelled : IsLevelled tol up t c
  pub among : Contains xs w

pub outer_before : (tol : ℤ) (up : Bool) (c : CurveData) (xs : List Point) (t : Triple) (w : Point) → Outer tol up c xs t w → signed up (residual (quadratic_of c) w) <ℤ neg_ℤ (tol *ℤ c.den) → w.time <ℤ t.middle.time →
    IsTripleOf xs (record { first = w; middle = t.middle; last = t.last }) × AsksMoreBend tol up c (record { first = w; middle = t.middle; last = t.last })
outer_before tol up c xs t w o far early =
    let u : Triple = record { first = w; middle = t.middle; last = t.last } in
    let it = triple_of xs u o.marks o.among o.is.has_middle o.is.has_last early o.is.is.after in
    let em = o.levelled.at_middle in
    let el = o.levelled.at_last in
    (it, bends_more tol up c u it.is (omega (arith, linear, far)) (omega (arith, linear, em)) (omega (arith, linear, el)) (omega (arith, linear, far, em, el)))

pub outer_after : (tol : ℤ) (up : Bool) (c : CurveData) (xs : List Point) (t : Triple) (w : Point) → Outer tol up c xs t w → signed up (residual (quadratic_of c) w) <ℤ neg_ℤ (tol *ℤ c.den) → t.middle.time ≤ℤ w.time →
    IsTripleOf xs (record { first = t.first; middle = t.middle; last = w }) × AsksMoreBend tol up c (record { first = t.first; middle = t.middle; last = w })
outer_after tol up c xs t w o far late =
    let u : Triple = record { first = t.first; middle = t.middle; last = w } in
    let em = o.levelled.at_middle in
    let ef = o.levelled.at_first in
    let r = room tol c.den o.tol_ok (rw o.levelled.over (stretch_positive t o.is.is)) in
    let after = strictly xs (λ x. signed up (residual (quadratic_of c) x)) t.middle w o.marks.rise o.is.has_middle o.among (λ e. absurd (omega (arith, linear, e, em, far, r))) late in
    let it = triple_of xs u o.marks o.is.has_first o.is.has_middle o.among o.is.is.before after in
    (it, bends_more tol up c u it.is (omega (arith, linear, ef)) (omega (arith, linear, em)) (omega (arith, linear, far)) (omega (arith, linear, far, em, ef)))

pub inner_between : (tol : ℤ) (up : Bool) (c : CurveData) (xs : List Point) (t : Triple) (w : Point) → Outer tol up c xs t w → (tol *ℤ c.den) <ℤ signed up (residual (quadratic_of c) w) → t.first.time <ℤ w.time → w.time <ℤ t.last.time →
    IsTripleOf xs (record { first = t.first; middle = w; last = t.last }) × AsksMoreBend tol up c (record { first = t.first; middle = w; last = t.last })
inner_between tol up c xs t w o far before after =
    let u : Triple = record { first = t.first; middle = w; last = t.last } in
    let ef = o.levelled.at_first in
    let el = o.levelled.at_last in
    let it = triple_of xs u o.marks o.is.has_first o.among o.is.has_last before after in
    (it, bends_more tol up c u it.is (omega (arith, linear, ef)) (omega (arith, linear, far)) (omega (arith, linear, el)) (omega (arith, linear, far, ef, el)))

-- beyond the outer points, on the side of the middle one
pub inner_before : (tol : ℤ) (up : Bool) (c : CurveData) (xs : List Point) (t : Triple) (w : Point) → Outer tol up c xs t w → (tol *ℤ c.den) <ℤ signed up (residual (quadratic_of c) w) → w.time ≤ℤ t.first.time → NonePasses tol xs
inner_before tol up c xs t w o far early =
    let u : Triple = record { first = w; middle = t.first; last = t.middle } in
    let ef = o.levelled.at_first in
    let em = o.levelled.at_middle in
    let r = room tol c.den o.tol_ok (rw o.levelled.over (stretch_positive t o.is.is)) in
    let before = strictly xs (λ x. signed up (residual (quadratic_of c) x)) w t.first o.marks.rise o.among o.is.has_first (λ e. absurd (omega (arith, linear, e, ef, far, r))) early in
    let it = triple_of xs u o.marks o.among o.is.has_first o.is.has_middle before o.is.is.before in
    let sw = signed_other up (residual (quadratic_of c) w) in
    let sf = signed_other up (residual (quadratic_of c) t.first) in
    let sm = signed_other up (residual (quadratic_of c) t.middle) in
    none_between tol up c xs t u o.is it o.levelled
    (bends_more tol (not up) c u it.is (omega (arith, linear, sw, far)) (omega (arith, linear, sf, ef)) (omega (arith, linear, sm, em)) (omega (arith, linear, sw, sf, sm, far, ef, em)))

pub inner_after : (tol : ℤ) (up : Bool) (c : CurveData) (xs : List Point) (t : Triple) (w : Point) → Outer tol up c xs t w → (tol *ℤ c.den) <ℤ signed up (residual (quadratic_of c) w) → t.last.time ≤ℤ w.time → NonePasses tol xs
inner_after tol up c xs t w o far late =
    let u : Triple = record { first = t.middle; middle = t.last; last = w } in
    let el = o.levelled.at_last in
    let em = o.levelled.at_middle in
    let r = room tol c.den o.tol_ok (rw o.levelled.over (stretch_positive t o.is.is)) in
    let after = strictly xs (λ x. signed up (residual (quadratic_of c) x)) t.last w o.marks.rise o.is.has_last o.among (λ e. absurd (omega (arith, linear, e, el, far, r))) late in
    let it = triple_of xs u o.marks o.is.has_middle o.is.has_last o.among o.is.is.after after in
    let sw = signed_other up (residual (quadratic_of c) w) in
    let sl = signed_other up (residual (quadratic_of c) t.last) in
    let sm = signed_other up (residual (quadratic_of c) t.middle) in
    none_between tol up c xs t u o.is it o.levelled
    (bends_more tol (not up) c u it.is (omega (arith, linear, sm, em)) (omega (arith, linear, sl, el)) (omega (arith, linear, sw, far)) (omega (arith, linear, sw, sl, sm, far, el, em)))

-- ---- the sides of a point outside
pub same_side : (up above : Bool) (r e : ℤ) → beq above up ≡ true → e <ℤ signed above r → e <ℤ signed up r
same_side true true r e h far = far
same_side false false r e h far = far
same_side true false r e h far = cc
same_side false true r e h far = cc

pub other_side : (up above : Bool) (r e : ℤ) → beq above up ≡ false → e <ℤ signed above r → signed up r <ℤ neg_ℤ e
other_side true true r e h far = cc
other_side false false r e h far = cc
other_side true false r e h far = omega (arith, linear, far)
other_side false true r e h far = omega (arith, linear, far)

-- ---- an exchange of one of two
line_sum : (s v d f g t y t' y' : ℤ) →
    (((s +ℤ ((v +ℤ (pos 0 *ℤ (t -ℤ g))) *ℤ (t -ℤ f))) -ℤ (y *ℤ d)) -ℤ ((s +ℤ ((v +ℤ (pos 0 *ℤ (t' -ℤ g))) *ℤ (t' -ℤ f))) -ℤ (y' *ℤ d))) ≡ ((y' -ℤ y) *ℤ d) -ℤ (v *ℤ (t' -ℤ t))
line_sum s v d f g t y t' y' =
    let z : pos 0 *ℤ (t -ℤ g) ≡ pos 0 = same_in _ _ (omega (arith, product_is (pos 0) (t -ℤ g))) in
    let z' : pos 0 *ℤ (t' -ℤ g) ≡ pos 0 = same_in _ _ (omega (arith, product_is (pos 0) (t' -ℤ g))) in
    let e : v +ℤ pos 0 ≡ v = omega (arith, linear) in
    rw (z, z', e) (simp ring (omega (arith, linear)))

residual_difference : (c : CurveData) (x y : Point) → c.bend ≡ pos 0 → residual (quadratic_of c) x -ℤ residual (quadratic_of c) y ≡ ((y.position -ℤ x.position) *ℤ c.den) -ℤ (c.slope *ℤ (y.time -ℤ x.time))
residual_difference c x y e =
    let ex = residual_is c.start c.slope c.bend c.den c.first c.second x.time x.position in
    let ey = residual_is c.start c.slope c.bend c.den c.first c.second y.time y.position in
    let k = line_sum c.start c.slope c.den c.first c.second x.time x.position y.time y.position in
    rw (ex, ey, e) k

slope_asked : (tol y d v m : ℤ) → ((tol *ℤ d) +ℤ (tol *ℤ d)) <ℤ ((y *ℤ d) -ℤ (v *ℤ m)) → (v *ℤ m) <ℤ ((y -ℤ (tol +ℤ tol)) *ℤ d)
slope_asked tol y d v m h =
    let e : (y -ℤ (tol +ℤ tol)) *ℤ d ≡ (y *ℤ d) -ℤ ((tol *ℤ d) +ℤ (tol *ℤ d)) = simp ring (omega (arith, linear)) in
    omega (arith, linear, h, e)

-- two points whose residuals are farther apart than the tolerance on both sides
more_slope : (tol : ℤ) (c : CurveData) (pair : Pair) → c.bend ≡ pos 0 → ((tol *ℤ c.den) +ℤ (tol *ℤ c.den)) <ℤ (residual (quadratic_of c) pair.first -ℤ residual (quadratic_of c) pair.last) → AsksMoreSlope tol c pair
more_slope tol c pair e far =
    slope_asked tol (pair.last.position -ℤ pair.first.position) c.den c.slope (pair.last.time -ℤ pair.first.time) (rw (residual_difference c pair.first pair.last e) at far)

-- three points that ask for more bend than a line has
bent : (tol : ℤ) (up : Bool) (c : CurveData) (t : Triple) → c.bend ≡ pos 0 → pos 0 <ℤ c.den → AsksMoreBend tol up c t → IsBent tol up t
bent tol up c t e p asks =
    let z : signed up c.bend ≡ pos 0 = rw e (signed_zero up) in
    let o : pos 0 *ℤ stretch t.first t.middle t.last ≡ pos 0 = same_in _ _ (omega (arith, product_is (pos 0) (stretch t.first t.middle t.last))) in
    let w : c.den *ℤ pos 0 ≡ pos 0 = same_in _ _ (omega (arith, product_is c.den (pos 0))) in
    let a : (pos 0 *ℤ stretch t.first t.middle t.last) <ℤ (least_bend tol up t *ℤ c.den) = rw z at asks in
    let m = mul_comm (least_bend tol up t) c.den in
    lt_cancel c.den (pos 0) (least_bend tol up t) p (omega (arith, linear, a, o, w, m))
  where
    signed_zero : (up : Bool) → signed up (pos 0) ≡ pos 0
    signed_zero true = refl
    signed_zero false = refl

pub record OuterPair (tol : ℤ) (c : CurveData) (xs : List Point) (pair : Pair) (w : Point) : Type 0 where
  pub marks : AreMarks xs
  pub tol_ok : pos 0 ≤ℤ tol
  pub is : IsPairOf xs pair
  pub level : IsLevelLine tol pair c
  pub among : Contains xs w

den_of_line : (tol : ℤ) (c : CurveData) (xs : List Point) (pair : Pair) (w : Point) → OuterPair tol c xs pair w → pos 0 <ℤ c.den
den_of_line tol c xs pair w o = let e = o.level.over in let b = o.is.before in omega (arith, linear, e, b)

pub steeper_before : (tol : ℤ) (c : CurveData) (xs : List Point) (pair : Pair) (w : Point) → OuterPair tol c xs pair w → (tol *ℤ c.den) <ℤ residual (quadratic_of c) w → w.time <ℤ pair.last.time →
    IsPairOf xs (record { first = w; last = pair.last }) × AsksMoreSlope tol c (record { first = w; last = pair.last })
steeper_before tol c xs pair w o far early =
    let el = o.level.at_last in
    (record { before = early; has_first = o.among; has_last = o.is.has_last }, more_slope tol c (record { first = w; last = pair.last }) o.level.straight (omega (arith, linear, far, el)))

pub steeper_after : (tol : ℤ) (c : CurveData) (xs : List Point) (pair : Pair) (w : Point) → OuterPair tol c xs pair w → residual (quadratic_of c) w <ℤ neg_ℤ (tol *ℤ c.den) → pair.first.time <ℤ w.time →
    IsPairOf xs (record { first = pair.first; last = w }) × AsksMoreSlope tol c (record { first = pair.first; last = w })
steeper_after tol c xs pair w o far late =
    let ef = o.level.at_first in
    (record { before = late; has_first = o.is.has_first; has_last = o.among }, more_slope tol c (record { first = pair.first; last = w }) o.level.straight (omega (arith, linear, far, ef)))

pub bent_down : (tol : ℤ) (c : CurveData) (xs : List Point) (pair : Pair) (w : Point) → OuterPair tol c xs pair w → (tol *ℤ c.den) <ℤ residual (quadratic_of c) w → pair.last.time ≤ℤ w.time →
    IsTripleOf xs (record { first = pair.first; middle = pair.last; last = w }) × IsBent tol false (record { first = pair.first; middle = pair.last; last = w })
bent_down tol c xs pair w o far late =
    let u : Triple = record { first = pair.first; middle = pair.last; last = w } in
    let ef = o.level.at_first in
    let el = o.level.at_last in
    let p = den_of_line tol c xs pair w o in
    let r = room tol c.den o.tol_ok p in
    let after = strictly xs (λ x. residual (quadratic_of c) x) pair.last w o.marks.rise o.is.has_last o.among (λ e. absurd (omega (arith, linear, e, el, far, r))) late in
    let it = triple_of xs u o.marks o.is.has_first o.is.has_last o.among o.is.before after in
    (it, bent tol false c u o.level.straight p (bends_more tol false c u it.is (omega (arith, linear, ef)) (omega (arith, linear, el)) (omega (arith, linear, far)) (omega (arith, linear, far, ef, el))))

pub bent_up : (tol : ℤ) (c : CurveData) (xs : List Point) (pair : Pair) (w : Point) → OuterPair tol c xs pair w → residual (quadratic_of c) w <ℤ neg_ℤ (tol *ℤ c.den) → w.time ≤ℤ pair.first.time →
    IsTripleOf xs (record { first = w; middle = pair.first; last = pair.last }) × IsBent tol true (record { first = w; middle = pair.first; last = pair.last })
bent_up tol c xs pair w o far early =
    let u : Triple = record { first = w; middle = pair.first; last = pair.last } in
    let ef = o.level.at_first in
    let el = o.level.at_last in
    let p = den_of_line tol c xs pair w o in
    let r = room tol c.den o.tol_ok p in
    let before = strictly xs (λ x. residual (quadratic_of c) x) w pair.first o.marks.rise o.among o.is.has_first (λ e. absurd (omega (arith, linear, e, ef, far, r))) early in
    let it = triple_of xs u o.marks o.among o.is.has_first o.is.has_last before o.is.before in
    (it, bent tol true c u o.level.straight p (bends_more tol true c u it.is (omega (arith, linear, far)) (omega (arith, linear, ef)) (omega (arith, linear, el)) (omega (arith, linear, far, ef, el))))

pub above_means : (r e : ℤ) (above : Bool) → above ≡ true → e <ℤ signed above r → e <ℤ r
above_means r e true h far = far
above_means r e false h far = cc

pub below_means : (r e : ℤ) (above : Bool) → above ≡ false → e <ℤ signed above r → r <ℤ neg_ℤ e
below_means r e true h far = cc
below_means r e false h far = omega (arith, linear, far)

-- ---- where an exchange starts
stands : (xs : List Point) (i : ℕ) (x : Point) → i < length xs → x ≡ get_or xs i x → Contains xs x
stands xs i x h e = (i, h, sym e)

earlier : (xs : List Point) (i j : ℕ) (x y : Point) → RiseInTime xs → i < j → j < length xs → x ≡ get_or xs i x → y ≡ get_or xs j y → x.time <ℤ y.time
earlier xs i j x y rise ij jl ex ey =
    let r = rise i j x ij jl in
    let ey' : get_or xs j x ≡ y = get_or_default xs j x y jl ∙ sym ey in
    rw (sym ex, ey') at r

pub ends_pair : (xs : List Point) (j : ℕ) (x y : Point) → AreMarks xs → 0 < j → j < length xs → x ≡ get_or xs 0 x → y ≡ get_or xs j y → IsPairOf xs (record { first = x; last = y })
ends_pair xs j x y marks pj jl ex ey = record { before = earlier xs 0 j x y marks.rise pj jl ex ey; has_first = stands xs 0 x (omega arith) ex; has_last = stands xs j y jl ey }

pub spread_triple : (xs : List Point) (j k : ℕ) (x y z : Point) → AreMarks xs → 0 < j → j < k → k < length xs → x ≡ get_or xs 0 x → y ≡ get_or xs j y → z ≡ get_or xs k z → IsTripleOf xs (record { first = x; middle = y; last = z })
spread_triple xs j k x y z marks pj jk kl ex ey ez =
    triple_of xs (record { first = x; middle = y; last = z }) marks (stands xs 0 x (omega arith) ex) (stands xs j y (omega arith) ey) (stands xs k z kl ez)
    (earlier xs 0 j x y marks.rise pj (omega arith) ex ey) (earlier xs j k y z marks.rise jk kl ey ez)
