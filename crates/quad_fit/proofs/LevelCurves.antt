-- The curve through a reference is levelled on it: its residuals there are the tolerance, by turns above and below.
use Rattle.std.proofs.Common.{◌≡◌, ℤ, pos, neg_ℤ, ◌+ℤ◌, ◌-ℤ◌, ◌*ℤ◌, Bool, true, false, refl, ap, ◌∙◌, arith}
use borrow.Author.Differences.{same_in, product_is}
use Rattle.sky_math.proofs.Order.{linear}
use Rattle.sky_math.proofs.Ring.{ring, neg_mul, add_mul}
use Rattle.sky_math.specs.Triples.{bend, slack, stretch}
use Rattle.quad_fit.specs.References.{signed, least_slope, IsLevelled, IsLevelLine}
use Rattle.quad_fit.specs.declared.references.Pair.{Pair}
use Rattle.quad_fit.specs.declared.references.Triple.{Triple}
use Rattle.quad_fit.proofs.NewtonForm.{residual_is}

zero_right : (x : ℤ) → x *ℤ pos 0 ≡ pos 0
zero_right x = same_in _ _ (omega (arith, product_is x (pos 0)))

none_left : (x y : ℤ) → y ≡ pos 0 → x *ℤ y ≡ pos 0
none_left x y e = rw e (zero_right x)

-- Newton's form of a residual
abbrev newton : (s v q d f g t y : ℤ) → ℤ
newton s v q d f g t y = (s +ℤ ((v +ℤ (q *ℤ (t -ℤ g))) *ℤ (t -ℤ f))) -ℤ (y *ℤ d)

-- at the first point only the start counts
at_start : (s v q d f g t y l : ℤ) → f ≡ t → s ≡ (y +ℤ l) *ℤ d → newton s v q d f g t y ≡ l *ℤ d
at_start s v q d f g t y l e h =
    let z = none_left (v +ℤ (q *ℤ (t -ℤ g))) (t -ℤ f) (omega (arith, linear)) in
    let m : (y +ℤ l) *ℤ d ≡ (y *ℤ d) +ℤ (l *ℤ d) = add_mul y l d in
    omega (arith, linear, z, m)

risen_at : (r a c m d : ℤ) → d ≡ (a *ℤ c) *ℤ m → (r *ℤ (c *ℤ m)) *ℤ a ≡ r *ℤ d
risen_at r a c m d e = rw e (simp ring)

middle_sum : (y0 y l d : ℤ) → (((y0 +ℤ l) *ℤ d) +ℤ (((y -ℤ y0) -ℤ (l +ℤ l)) *ℤ d)) -ℤ (y *ℤ d) ≡ neg_ℤ (l *ℤ d)
middle_sum y0 y l d = simp ring (omega (arith, linear))

-- at the second point the bend doesn't count
at_second : (s v q d f g t y y0 l a c m : ℤ) → g ≡ t → t -ℤ f ≡ a → s ≡ (y0 +ℤ l) *ℤ d → v ≡ ((y -ℤ y0) -ℤ (l +ℤ l)) *ℤ (c *ℤ m) → d ≡ (a *ℤ c) *ℤ m → newton s v q d f g t y ≡ neg_ℤ (l *ℤ d)
at_second s v q d f g t y y0 l a c m e ea es ev ed =
    let z = none_left q (t -ℤ g) (omega (arith, linear)) in
    let b : v +ℤ (q *ℤ (t -ℤ g)) ≡ v = omega (arith, linear, z) in
    let r : v *ℤ a ≡ ((y -ℤ y0) -ℤ (l +ℤ l)) *ℤ d = rw ev (risen_at ((y -ℤ y0) -ℤ (l +ℤ l)) a c m d ed) in
    let u : (v +ℤ (q *ℤ (t -ℤ g))) *ℤ (t -ℤ f) ≡ ((y -ℤ y0) -ℤ (l +ℤ l)) *ℤ d = rw (b, ea) r in
    let k = middle_sum y0 y l d in
    omega (arith, linear, u, es, k)

last_sum : (y0 y1 y2 l a c : ℤ) →
    ((((y0 +ℤ l) *ℤ ((a *ℤ c) *ℤ (a +ℤ c))) +ℤ (((((y1 -ℤ y0) -ℤ (l +ℤ l)) *ℤ (c *ℤ (a +ℤ c))) +ℤ (((((y2 -ℤ y1) *ℤ a) -ℤ ((y1 -ℤ y0) *ℤ c)) +ℤ ((l +ℤ l) *ℤ (a +ℤ c))) *ℤ c)) *ℤ (a +ℤ c)))
    -ℤ (y2 *ℤ ((a *ℤ c) *ℤ (a +ℤ c)))) ≡ l *ℤ ((a *ℤ c) *ℤ (a +ℤ c))
last_sum y0 y1 y2 l a c = simp ring (omega (arith, linear))

at_third : (s v q d f g t y2 y1 y0 l a c m : ℤ) → t -ℤ g ≡ c → t -ℤ f ≡ m → m ≡ a +ℤ c → s ≡ (y0 +ℤ l) *ℤ d → v ≡ ((y1 -ℤ y0) -ℤ (l +ℤ l)) *ℤ (c *ℤ m) →
    q ≡ (((y2 -ℤ y1) *ℤ a) -ℤ ((y1 -ℤ y0) *ℤ c)) +ℤ ((l +ℤ l) *ℤ m) → d ≡ (a *ℤ c) *ℤ m → newton s v q d f g t y2 ≡ l *ℤ d
at_third s v q d f g t y2 y1 y0 l a c m ec em ea es ev eq ed =
    rw (ec, em, es, ev, eq, ed, ea) (last_sum y0 y1 y2 l a c)

-- ---- signs
pub signed_lean : (up : Bool) (tol l d : ℤ) → l ≡ neg_ℤ (signed up tol) → signed up (l *ℤ d) ≡ neg_ℤ (tol *ℤ d)
signed_lean true tol l d e = rw e (neg_mul tol d)
signed_lean false tol l d e = let t : neg_ℤ (neg_ℤ tol) ≡ tol = omega (arith, linear) in rw (e, t) refl

pub signed_back : (up : Bool) (tol l d : ℤ) → l ≡ neg_ℤ (signed up tol) → signed up (neg_ℤ (l *ℤ d)) ≡ tol *ℤ d
signed_back true tol l d e = let m = neg_mul tol d in rw e (omega (arith, linear, m))
signed_back false tol l d e = let t : neg_ℤ (neg_ℤ tol) ≡ tol = omega (arith, linear) in rw (e, t) (omega (arith, linear))

lead_up : (tol b m : ℤ) → b +ℤ ((neg_ℤ tol +ℤ neg_ℤ tol) *ℤ m) ≡ b -ℤ ((tol +ℤ tol) *ℤ m)
lead_up tol b m = simp ring (omega (arith, linear))

lead_down : (tol b m : ℤ) → neg_ℤ (b +ℤ ((tol +ℤ tol) *ℤ m)) ≡ neg_ℤ b -ℤ ((tol +ℤ tol) *ℤ m)
lead_down tol b m = omega (arith, linear)

signed_lead : (up : Bool) (tol l b m : ℤ) → l ≡ neg_ℤ (signed up tol) → signed up (b +ℤ ((l +ℤ l) *ℤ m)) ≡ signed up b -ℤ ((tol +ℤ tol) *ℤ m)
signed_lead true tol l b m e = rw e (lead_up tol b m)
signed_lead false tol l b m e = let t : l ≡ tol = omega (arith, linear, e) in rw t (lead_down tol b m)

pub sum_same : (a b c d : ℤ) → a ≡ c → b ≡ d → a +ℤ b ≡ c +ℤ d
sum_same a b c d e h = rw (e, h) refl

-- ---- three points
pub levelled_of : (tol : ℤ) (up : Bool) (t : Triple) (l s v q d f g : ℤ) → l ≡ neg_ℤ (signed up tol) →
    s ≡ (t.first.position +ℤ l) *ℤ d →
    v ≡ ((t.middle.position -ℤ t.first.position) -ℤ (l +ℤ l)) *ℤ ((t.last.time -ℤ t.middle.time) *ℤ (t.last.time -ℤ t.first.time)) →
    q ≡ bend t.first t.middle t.last +ℤ slack l t.first t.last → d ≡ stretch t.first t.middle t.last → f ≡ t.first.time → g ≡ t.middle.time →
    IsLevelled tol up t (record { start = s; slope = v; bend = q; den = d; first = f; second = g })
levelled_of tol up t l s v q d f g el es ev eq ed ef eg =
    let a : ℤ = t.middle.time -ℤ t.first.time in
    let c : ℤ = t.last.time -ℤ t.middle.time in
    let m : ℤ = t.last.time -ℤ t.first.time in
    let one = at_start s v q d f g t.first.time t.first.position l ef es in
    let two = at_second s v q d f g t.middle.time t.middle.position t.first.position l a c m eg (omega (arith, linear)) es ev ed in
    let three = at_third s v q d f g t.last.time t.last.position t.middle.position t.first.position l a c m (omega (arith, linear)) (omega (arith, linear)) (omega (arith, linear)) es ev eq ed in
    record {
      leads = ap (signed up) eq ∙ signed_lead up tol l (bend t.first t.middle t.last) m el;
      over = ed;
      at_first = ap (signed up) (residual_is s v q d f g t.first.time t.first.position ∙ one) ∙ signed_lean up tol l d el;
      at_middle = ap (signed up) (residual_is s v q d f g t.middle.time t.middle.position ∙ two) ∙ signed_back up tol l d el;
      at_last = ap (signed up) (residual_is s v q d f g t.last.time t.last.position ∙ three) ∙ signed_lean up tol l d el;
    }

-- ---- two points
line_end : (s v d f g t y y0 tol : ℤ) → g ≡ t → t -ℤ f ≡ d → s ≡ (y0 +ℤ tol) *ℤ d → v ≡ (y -ℤ y0) -ℤ (tol +ℤ tol) → newton s v (pos 0) d f g t y ≡ neg_ℤ (tol *ℤ d)
line_end s v d f g t y y0 tol eg ed es ev =
    let z = none_left (pos 0) (t -ℤ g) (omega (arith, linear)) in
    let b : v +ℤ (pos 0 *ℤ (t -ℤ g)) ≡ v = omega (arith, linear, z) in
    let u : (v +ℤ (pos 0 *ℤ (t -ℤ g))) *ℤ (t -ℤ f) ≡ ((y -ℤ y0) -ℤ (tol +ℤ tol)) *ℤ d = rw (b, ed, ev) refl in
    let k = middle_sum y0 y tol d in
    omega (arith, linear, u, es, k)

pub level_line_of : (tol : ℤ) (pair : Pair) (s v d f g : ℤ) → s ≡ (pair.first.position +ℤ tol) *ℤ d → v ≡ least_slope tol pair → d ≡ pair.last.time -ℤ pair.first.time → f ≡ pair.first.time → g ≡ pair.last.time →
    IsLevelLine tol pair (record { start = s; slope = v; bend = pos 0; den = d; first = f; second = g })
level_line_of tol pair s v d f g es ev ed ef eg =
    let one = at_start s v (pos 0) d f g pair.first.time pair.first.position tol ef es in
    let two = line_end s v d f g pair.last.time pair.last.position pair.first.position tol eg (omega (arith, linear)) es ev in
    record {
      straight = refl;
      leads = ev;
      over = ed;
      at_first = residual_is s v (pos 0) d f g pair.first.time pair.first.position ∙ one;
      at_last = residual_is s v (pos 0) d f g pair.last.time pair.last.position ∙ two;
    }
