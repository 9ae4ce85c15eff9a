-- Two quadratics that are both the reported one are the same.
use Rattle.std.proofs.Common.{◌≡◌, ◌∙◌, ◌*◌, ℤ, pos, ◌+ℤ◌, ◌-ℤ◌, ◌*ℤ◌, ◌≤ℤ◌, ◌<ℤ◌, false, List, [], ◌∷◌, map, arith, sym, subst, refl, ap}
use borrow.Author.Differences.{same_in, product_is}
use Rattle.std.specs.Int.RustNames.{unsigned_abs}
use Rattle.std.specs.Cmp.{int_cmp_is}
use Rattle.std.specs.List.{All}
use Rattle.std.specs.Ordering.{int_cmp, is_gt, ordering_then}
use Rattle.std.specs.declared.cmp.Ordering.{Ordering}
use Rattle.std.specs.declared.cmp.Ordering.TheVariants.{Equal, Greater}
use Rattle.std.proofs.lemmas.Int.{by_lt_z, ints, unsigned_abs-mul}
use Rattle.std.proofs.lemmas.List.Elements.{All-cons, All-head, All-nil, All-tail}
use Rattle.sky_math.proofs.Order.{linear, mul_positive, mul_within, le_cancel}
use Rattle.sky_math.proofs.Ring.{mul_comm, ring}
use Rattle.sky_math.specs.Quadratics.{IsAdmitted, IsWithin, Passes, Point, Quadratic, residual}
use Rattle.sky_units.proofs.Divisors.{one_denominator}
use Rattle.sky_units.specs.Motion.{acceleration, tolerance}
use Rattle.sky_units.specs.QuadData.{HaveNoCommonDivisor, QuadData, quadratic_of}
use Rattle.sky_units.specs.Reported.{PassesAll, ReportedIsUnique, point_at, quadratic_cmp}

-- ---- comparing by one number after the other
not_above : (a b : ℤ) (rest : Ordering) → is_gt (ordering_then (int_cmp a b) rest) ≡ false → a ≤ℤ b
not_above a b rest h = by_lt_z {P = a ≤ℤ b} b a
    (λ less. let e : int_cmp a b ≡ Greater = sym (int_cmp_is a b Greater less) in let no = rw e at h in cc)
    (λ most. most)

then_rest : (a b : ℤ) (rest : Ordering) → a ≡ b → is_gt (ordering_then (int_cmp a b) rest) ≡ false → is_gt rest ≡ false
then_rest a b rest e h = let s : int_cmp a b ≡ Equal = sym (int_cmp_is a b Equal e) in rw s at h

same_first : (a b : ℤ) (rest rest' : Ordering) → is_gt (ordering_then (int_cmp a b) rest) ≡ false → is_gt (ordering_then (int_cmp b a) rest') ≡ false → a ≡ b
same_first a b rest rest' h k = let l = not_above a b rest h in let m = not_above b a rest' k in omega (arith, ints)

last_not_above : (a b : ℤ) → is_gt (int_cmp a b) ≡ false → a ≤ℤ b
last_not_above a b h = by_lt_z {P = a ≤ℤ b} b a
    (λ less. let e : int_cmp a b ≡ Greater = sym (int_cmp_is a b Greater less) in let no = rw e at h in cc)
    (λ most. most)

none_times : (d : ℤ) → pos 0 *ℤ d ≡ pos 0
none_times d = same_in _ _ (omega (arith, product_is (pos 0) d))

-- ---- the mean of two quadratics
abbrev mean : Quadratic → Quadratic → Quadratic
mean f g = record { p = (g.d *ℤ f.p) +ℤ (f.d *ℤ g.p); v = (g.d *ℤ f.v) +ℤ (f.d *ℤ g.v); q = (g.d *ℤ f.q) +ℤ (f.d *ℤ g.q); d = (f.d *ℤ g.d) +ℤ (f.d *ℤ g.d) }

sum_within : (a b x y : ℤ) → IsWithin a x → IsWithin b y → IsWithin (a +ℤ b) (x +ℤ y)
sum_within a b x y h k = (omega (arith, linear, h, k), omega (arith, linear, h, k))

mean_within : (d e t x y : ℤ) → pos 0 <ℤ d → pos 0 <ℤ e → IsWithin (t *ℤ d) x → IsWithin (t *ℤ e) y → IsWithin (t *ℤ ((d *ℤ e) +ℤ (d *ℤ e))) ((e *ℤ x) +ℤ (d *ℤ y))
mean_within d e t x y pd pe h k =
    let one = mul_within e (t *ℤ d) x (omega (arith, linear, pe)) h in
    let two = mul_within d (t *ℤ e) y (omega (arith, linear, pd)) k in
    let s : (e *ℤ (t *ℤ d)) +ℤ (d *ℤ (t *ℤ e)) ≡ t *ℤ ((d *ℤ e) +ℤ (d *ℤ e)) = simp ring (omega (arith, linear)) in
    rw s at (sum_within (e *ℤ (t *ℤ d)) (d *ℤ (t *ℤ e)) (e *ℤ x) (d *ℤ y) one two)

residual_mean : (p v q d p' v' q' e s y : ℤ) →
    (e *ℤ (((p +ℤ (v *ℤ s)) +ℤ (q *ℤ (s *ℤ s))) -ℤ (y *ℤ d))) +ℤ (d *ℤ (((p' +ℤ (v' *ℤ s)) +ℤ (q' *ℤ (s *ℤ s))) -ℤ (y *ℤ e)))
    ≡ ((((e *ℤ p) +ℤ (d *ℤ p')) +ℤ (((e *ℤ v) +ℤ (d *ℤ v')) *ℤ s)) +ℤ (((e *ℤ q) +ℤ (d *ℤ q')) *ℤ (s *ℤ s))) -ℤ (y *ℤ ((d *ℤ e) +ℤ (d *ℤ e)))
residual_mean p v q d p' v' q' e s y = simp ring (omega (arith, linear))

mean_passes : (tol : ℤ) (f g : Quadratic) (x : Point) → pos 0 <ℤ f.d → pos 0 <ℤ g.d → Passes tol f x → Passes tol g x → Passes tol (mean f g) x
mean_passes tol f g x pd pe h k =
    rw (residual_mean f.p f.v f.q f.d g.p g.v g.q g.d x.time x.position) at (mean_within f.d g.d tol (residual f x) (residual g x) pd pe h k)

mean_passes_all : (tol : ℤ) (f g : Quadratic) (xs : List Point) → pos 0 <ℤ f.d → pos 0 <ℤ g.d → All (Passes tol f) xs → All (Passes tol g) xs → All (Passes tol (mean f g)) xs
mean_passes_all tol f g [] pd pe h k = All-nil (Passes tol (mean f g))
mean_passes_all tol f g (x ∷ xs) pd pe h k =
    All-cons (Passes tol (mean f g)) x xs (mean_passes tol f g x pd pe (All-head (Passes tol f) x xs h) (All-head (Passes tol g) x xs k)) (mean_passes_all tol f g xs pd pe (All-tail (Passes tol f) x xs h) (All-tail (Passes tol g) x xs k))

turned_mean : (t d e q q' : ℤ) → (e *ℤ (t *ℤ q)) +ℤ (d *ℤ (t *ℤ q')) ≡ t *ℤ ((e *ℤ q) +ℤ (d *ℤ q'))
turned_mean t d e q q' = simp ring (omega (arith, linear))

mean_admitted : (acc : ℤ) (f g : Quadratic) → IsAdmitted acc f → IsAdmitted acc g → IsAdmitted acc (mean f g)
mean_admitted acc f g (pd, h) (pe, k) =
    let some : pos 0 <ℤ (f.d *ℤ g.d) = mul_positive f.d g.d pd pe in
    let w = mean_within f.d g.d acc (pos 2000000000000 *ℤ f.q) (pos 2000000000000 *ℤ g.q) pd pe h k in
    (omega (arith, linear, some), rw (turned_mean (pos 2000000000000) f.d g.d f.q g.q) at w)

-- ---- two that are both least
module _ (acc tol : ℤ) (xs : List Point) where
  -- admitted, and passes all points
  abbrev Good : Quadratic → Type 0
  Good f = IsAdmitted acc f × All (Passes tol f) xs

  abbrev Least : Quadratic → Type 0
  Least f = (h : Quadratic) → Good h → is_gt (quadratic_cmp f h) ≡ false

  same_size : (f g : Quadratic) → Good f → Good g → Least f → Least g → pos (unsigned_abs f.q) *ℤ g.d ≡ pos (unsigned_abs g.q) *ℤ f.d
  same_size f g gf gg lf lg = same_first (pos (unsigned_abs f.q) *ℤ g.d) (pos (unsigned_abs g.q) *ℤ f.d)
      (ordering_then (int_cmp (f.v *ℤ g.d) (g.v *ℤ f.d)) (int_cmp (f.p *ℤ g.d) (g.p *ℤ f.d)))
      (ordering_then (int_cmp (g.v *ℤ f.d) (f.v *ℤ g.d)) (int_cmp (g.p *ℤ f.d) (f.p *ℤ g.d))) (lf g gg) (lg f gf)

  -- of two least ones of opposite bends the mean would have none
  no_bend : (f g : Quadratic) → Good f → Good g → Least f → (g.d *ℤ f.q) +ℤ (f.d *ℤ g.q) ≡ pos 0 → f.q ≡ pos 0
  no_bend f g gf gg lf z =
      let pd : pos 0 <ℤ f.d = gf.0.0 in
      let pe : pos 0 <ℤ g.d = gg.0.0 in
      let some : pos 0 <ℤ (f.d *ℤ g.d) = mul_positive f.d g.d pd pe in
      let good : Good (mean f g) = (mean_admitted acc f g gf.0 gg.0, mean_passes_all tol f g xs pd pe gf.1 gg.1) in
      let most : (pos (unsigned_abs f.q) *ℤ ((f.d *ℤ g.d) +ℤ (f.d *ℤ g.d))) ≤ℤ (pos (unsigned_abs ((g.d *ℤ f.q) +ℤ (f.d *ℤ g.q))) *ℤ f.d) =
      not_above (pos (unsigned_abs f.q) *ℤ ((f.d *ℤ g.d) +ℤ (f.d *ℤ g.d))) (pos (unsigned_abs ((g.d *ℤ f.q) +ℤ (f.d *ℤ g.q))) *ℤ f.d) _ (lf (mean f g) good) in
      let none : (pos (unsigned_abs f.q) *ℤ ((f.d *ℤ g.d) +ℤ (f.d *ℤ g.d))) ≤ℤ (pos 0 *ℤ f.d) = rw z at most in
      nothing f.q ((f.d *ℤ g.d) +ℤ (f.d *ℤ g.d)) f.d (omega (arith, linear, some)) none
    where
      nothing : (q m d : ℤ) → pos 0 <ℤ m → (pos (unsigned_abs q) *ℤ m) ≤ℤ (pos 0 *ℤ d) → q ≡ pos 0
      nothing q m d p h =
          let e : pos 0 *ℤ d ≡ pos 0 = none_times d in
          let f : m *ℤ pos 0 ≡ pos 0 = mul_comm m (pos 0) ∙ none_times m in
          let k : (m *ℤ pos (unsigned_abs q)) ≤ℤ (m *ℤ pos 0) = rw (mul_comm (pos (unsigned_abs q)) m, e, ← f) at h in
          let l : pos (unsigned_abs q) ≤ℤ pos 0 = le_cancel m (pos (unsigned_abs q)) (pos 0) p k in
          omega (arith, ints)

  -- numbers of one size are the same, unless they are opposite
  same_or_opposite : (x y : ℤ) → unsigned_abs x ≡ unsigned_abs y → (x +ℤ y ≡ pos 0 → x ≡ y) → x ≡ y
  same_or_opposite x y e f = by_lt_z {P = x ≡ y} x y
      (λ less. f (omega (arith, ints)))
      (λ not_less. by_lt_z {P = x ≡ y} y x (λ more. f (omega (arith, ints))) (λ not_more. omega (arith, ints)))

  same_bend : (f g : Quadratic) → Good f → Good g → Least f → Least g → f.q *ℤ g.d ≡ g.q *ℤ f.d
  same_bend f g gf gg lf lg =
      let pd : pos 0 <ℤ f.d = gf.0.0 in
      let pe : pos 0 <ℤ g.d = gg.0.0 in
      same_or_opposite (f.q *ℤ g.d) (g.q *ℤ f.d) (sized f.q g.d g.q f.d (same_size f g gf gg lf lg)) (λ z.
      let a : (g.d *ℤ f.q) +ℤ (f.d *ℤ g.q) ≡ pos 0 = rw (mul_comm g.d f.q, mul_comm f.d g.q) z in
      let b : (f.d *ℤ g.q) +ℤ (g.d *ℤ f.q) ≡ pos 0 = rw (mul_comm g.d f.q, mul_comm f.d g.q) (swapped (f.q *ℤ g.d) (g.q *ℤ f.d) z) in
      let m : f.q ≡ pos 0 = no_bend f g gf gg lf a in
      let n : g.q ≡ pos 0 = no_bend g f gg gf lg b in
      rw (m, n) (none_times g.d ∙ sym (none_times f.d)))
    where
      sized : (q e r d : ℤ) → pos (unsigned_abs q) *ℤ e ≡ pos (unsigned_abs r) *ℤ d → unsigned_abs (q *ℤ e) ≡ unsigned_abs (r *ℤ d)
      sized q e r d h = unsigned_abs-mul q e ∙ sym (unsigned_abs-mul (pos (unsigned_abs q)) e) ∙ ap unsigned_abs h ∙ unsigned_abs-mul (pos (unsigned_abs r)) d ∙ sym (unsigned_abs-mul r d)

      swapped : (x y : ℤ) → x +ℤ y ≡ pos 0 → y +ℤ x ≡ pos 0
      swapped x y z = omega (arith, ints)

  same_rate : (f g : Quadratic) → Good f → Good g → Least f → Least g → f.v *ℤ g.d ≡ g.v *ℤ f.d
  same_rate f g gf gg lf lg =
      let e = same_size f g gf gg lf lg in
      same_first (f.v *ℤ g.d) (g.v *ℤ f.d) (int_cmp (f.p *ℤ g.d) (g.p *ℤ f.d)) (int_cmp (g.p *ℤ f.d) (f.p *ℤ g.d))
      (then_rest _ _ _ e (lf g gg)) (then_rest _ _ _ (sym e) (lg f gf))

  same_constant : (f g : Quadratic) → Good f → Good g → Least f → Least g → f.p *ℤ g.d ≡ g.p *ℤ f.d
  same_constant f g gf gg lf lg =
      let e = same_size f g gf gg lf lg in
      let r = same_rate f g gf gg lf lg in
      let l = last_not_above (f.p *ℤ g.d) (g.p *ℤ f.d) (then_rest _ _ _ r (then_rest _ _ _ e (lf g gg))) in
      let m = last_not_above (g.p *ℤ f.d) (f.p *ℤ g.d) (then_rest _ _ _ (sym r) (then_rest _ _ _ (sym e) (lg f gf))) in
      omega (arith, ints, l, m)

-- ---- the same quotients in lowest terms
same_cancel : (k a b : ℤ) → pos 0 <ℤ k → a *ℤ k ≡ b *ℤ k → a ≡ b
same_cancel k a b p e =
    let f : k *ℤ a ≡ k *ℤ b = mul_comm k a ∙ e ∙ mul_comm b k in
    let l : a ≤ℤ b = le_cancel k a b p (omega (arith, linear, f)) in
    let m : b ≤ℤ a = le_cancel k b a p (omega (arith, linear, f)) in
    omega (arith, ints)

sizes : (d e x y : ℤ) → x *ℤ e ≡ y *ℤ d → unsigned_abs d * unsigned_abs y ≡ unsigned_abs e * unsigned_abs x
sizes d e x y h = sym (unsigned_abs-mul d y) ∙ ap unsigned_abs (mul_comm d y ∙ sym h ∙ mul_comm x e) ∙ unsigned_abs-mul e x

same_denominator : (d p v q e p' v' q' : ℤ) → pos 0 <ℤ d → pos 0 <ℤ e → p *ℤ e ≡ p' *ℤ d → v *ℤ e ≡ v' *ℤ d → q *ℤ e ≡ q' *ℤ d → HaveNoCommonDivisor d p v q → HaveNoCommonDivisor e p' v' q' → d ≡ e
same_denominator d p v q e p' v' q' pd pe hp hv hq low low' =
    let s : unsigned_abs d ≡ unsigned_abs e =
    one_denominator (unsigned_abs d) (unsigned_abs e) (unsigned_abs p) (unsigned_abs p') (unsigned_abs v) (unsigned_abs v') (unsigned_abs q) (unsigned_abs q')
    (omega (arith, ints)) (sizes d e p p' hp) (sizes d e v v' hv) (sizes d e q q' hq) low low' in
    omega (arith, ints)

abbrev quad : ℤ → ℤ → ℤ → ℤ → ℤ → ℤ → QuadData
quad base start d p v q = record { base = base; start = start; den = d; p = p; v = v; q = q }

same_quad : (base start d p v q base' start' d' p' v' q' : ℤ) → base ≡ base' → start ≡ start' → d ≡ d' → p ≡ p' → v ≡ v' → q ≡ q' →
    quad base start d p v q ≡ quad base' start' d' p' v' q'
same_quad base start d p v q base' start' d' p' v' q' a b c e f g = rw (a, b, c, e, f, g) refl

same_numbers : (one other : QuadData) → one.base ≡ other.base → one.start ≡ other.start → pos 0 <ℤ one.den → pos 0 <ℤ other.den →
    one.p *ℤ other.den ≡ other.p *ℤ one.den → one.v *ℤ other.den ≡ other.v *ℤ one.den → one.q *ℤ other.den ≡ other.q *ℤ one.den →
    HaveNoCommonDivisor one.den one.p one.v one.q → HaveNoCommonDivisor other.den other.p other.v other.q → one ≡ other
same_numbers one other eb es pd pe hp hv hq low low' =
    let d : one.den ≡ other.den = same_denominator one.den one.p one.v one.q other.den other.p other.v other.q pd pe hp hv hq low low' in
    same_quad one.base one.start one.den one.p one.v one.q other.base other.start other.den other.p other.v other.q eb es d
    (same_cancel other.den one.p other.p pe (hp ∙ ap (λ k. other.p *ℤ k) d))
    (same_cancel other.den one.v other.v pe (hv ∙ ap (λ k. other.v *ℤ k) d))
    (same_cancel other.den one.q other.q pe (hq ∙ ap (λ k. other.q *ℤ k) d))

pub reported_is_unique : ReportedIsUnique
reported_is_unique axis settings spots one other a b =
    let eb : one.base ≡ other.base = a.base_is ∙ sym b.base_is in
    let es : one.start ≡ other.start = a.start_is ∙ sym b.start_is in
    let b_passes : PassesAll axis settings one.base one.start (quadratic_of other) spots =
    subst (λ x. PassesAll axis settings x one.start (quadratic_of other) spots) (sym eb) (subst (λ x. PassesAll axis settings other.base x (quadratic_of other) spots) (sym es) b.passes) in
    let f : Quadratic = quadratic_of one in
    let g : Quadratic = quadratic_of other in
    let acc : ℤ = acceleration axis settings in
    let tol : ℤ = tolerance axis settings in
    let xs : List Point = map (point_at axis one.base one.start) spots in
    let gf : Good acc tol xs f = (a.passes.admitted, a.passes.passes) in
    let gg : Good acc tol xs g = (b_passes.admitted, b_passes.passes) in
    let lf : Least acc tol xs f = λ h good. a.least h (record { admitted = good.0; passes = good.1 }) in
    let lg : Least acc tol xs g = λ h good. b.least h (subst (λ x. PassesAll axis settings x other.start h spots) eb (subst (λ x. PassesAll axis settings one.base x h spots) es (record { admitted = good.0; passes = good.1 }))) in
    same_numbers one other eb es a.passes.admitted.0 b_passes.admitted.0
    (same_constant acc tol xs f g gf gg lf lg) (same_rate acc tol xs f g gf gg lf lg) (same_bend acc tol xs f g gf gg lf lg) a.lowest b.lowest
