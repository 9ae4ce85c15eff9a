-- What the tolerances of two tracklets leave of a quadratic's rates and of its way from the one to the other. Each upper bound is
-- proved; the lower one is that of the motion mirrored in the sky.
use Rattle.std.proofs.Common.{◌≡◌, ap, ◌∙◌, refl, arith}
use Rattle.std.specs.Prelude.{ℤ, pos, neg_ℤ, ◌+ℤ◌, ◌-ℤ◌, ◌*ℤ◌, ◌≤ℤ◌, ◌<ℤ◌}
use Rattle.std.proofs.lemmas.Int.{ints}
use Rattle.sky_math.proofs.Order.{linear, mul_le, le_cancel}
use borrow.Author.Differences.{same_in, product_is}
use Rattle.sky_math.proofs.Ring.{ring, mul_comm}
use Rattle.sky_math.specs.Quadratics.{IsWithin}

-- how far a quadratic lies above a position, times its denominator
abbrev above : ℤ → ℤ → ℤ → ℤ → ℤ → ℤ → ℤ
above p v q d s y = ((p +ℤ (v *ℤ s)) +ℤ (q *ℤ (s *ℤ s))) -ℤ (y *ℤ d)

abbrev value : ℤ → ℤ → ℤ → ℤ → ℤ
value p v q s = (p +ℤ (v *ℤ s)) +ℤ (q *ℤ (s *ℤ s))

-- its mean rate between two times, times the denominator
abbrev mean : ℤ → ℤ → ℤ → ℤ → ℤ
mean v q t u = v +ℤ (q *ℤ (t +ℤ u))

mean_is : (p v q t u : ℤ) → value p v q u -ℤ value p v q t ≡ (u -ℤ t) *ℤ mean v q t u
mean_is p v q t u = simp ring (omega (arith, linear))

way_is : (p v q t t2 u u2 : ℤ) → (value p v q u -ℤ value p v q t) +ℤ (value p v q u -ℤ value p v q t) ≡ ((u -ℤ t) *ℤ (mean v q t t2 +ℤ mean v q u u2)) -ℤ ((u -ℤ t) *ℤ (q *ℤ ((t2 -ℤ t) +ℤ (u2 -ℤ u))))
way_is p v q t t2 u u2 = simp ring (omega (arith, linear))

means_apart : (v q t t2 u u2 : ℤ) → mean v q t t2 -ℤ mean v q u u2 ≡ neg_ℤ (q *ℤ ((u +ℤ u2) -ℤ (t +ℤ t2)))
means_apart v q t t2 u u2 = simp ring (omega (arith, linear))

third_first : (a b c : ℤ) → a *ℤ (b *ℤ c) ≡ c *ℤ (b *ℤ a)
third_first a b c = simp ring

second_first : (a b c : ℤ) → a *ℤ (b *ℤ c) ≡ b *ℤ (a *ℤ c)
second_first a b c = simp ring

last_two : (a b c : ℤ) → a *ℤ (b *ℤ c) ≡ a *ℤ (c *ℤ b)
last_two a b c = simp ring

-- the distance between two positions and twice the tolerance, times the denominator
widened : (tol d yt yu : ℤ) → ((yu -ℤ yt) +ℤ (tol +ℤ tol)) *ℤ d ≡ ((yu *ℤ d) -ℤ (yt *ℤ d)) +ℤ ((tol *ℤ d) +ℤ (tol *ℤ d))
widened tol d yt yu = simp ring (omega (arith, linear))

narrowed : (tol d yt yu : ℤ) → ((yu -ℤ yt) -ℤ (tol +ℤ tol)) *ℤ d ≡ ((yu *ℤ d) -ℤ (yt *ℤ d)) -ℤ ((tol *ℤ d) +ℤ (tol *ℤ d))
narrowed tol d yt yu = simp ring (omega (arith, linear))

-- a mean rate is at most a rate that leads from within the tolerance of one position to within that of another
mean_most : (k d tol yt yu ft fu ds m h : ℤ) → pos 0 ≤ℤ k → pos 0 <ℤ ds → pos 0 <ℤ d →
    neg_ℤ (tol *ℤ d) ≤ℤ (ft -ℤ (yt *ℤ d)) → (fu -ℤ (yu *ℤ d)) ≤ℤ (tol *ℤ d) → fu -ℤ ft ≡ ds *ℤ m →
    (k *ℤ ((yu -ℤ yt) +ℤ (tol +ℤ tol))) ≤ℤ (ds *ℤ h) → (k *ℤ m) ≤ℤ (h *ℤ d)
mean_most k d tol yt yu ft fu ds m h pk ps pd low high is bound =
    let w : ℤ = (yu -ℤ yt) +ℤ (tol +ℤ tol) in
    let wide : w *ℤ d ≡ ((yu *ℤ d) -ℤ (yt *ℤ d)) +ℤ ((tol *ℤ d) +ℤ (tol *ℤ d)) = widened tol d yt yu in
    let b : (ds *ℤ m) ≤ℤ (w *ℤ d) = omega (arith, linear, is, wide, low, high) in
    let c : (k *ℤ (ds *ℤ m)) ≤ℤ (k *ℤ (w *ℤ d)) = mul_le k (ds *ℤ m) (w *ℤ d) pk b in
    let e : (d *ℤ (k *ℤ w)) ≤ℤ (d *ℤ (ds *ℤ h)) = mul_le d (k *ℤ w) (ds *ℤ h) (omega (arith, linear, pd)) bound in
    let f1 : ds *ℤ (k *ℤ m) ≡ k *ℤ (ds *ℤ m) = second_first ds k m in
    let f2 : d *ℤ (k *ℤ w) ≡ k *ℤ (w *ℤ d) = second_first d k w ∙ last_two k d w in
    let f3 : d *ℤ (ds *ℤ h) ≡ ds *ℤ (h *ℤ d) = second_first d ds h ∙ last_two ds d h in
    le_cancel ds (k *ℤ m) (h *ℤ d) ps (omega (arith, linear, c, e, f1, f2, f3))

-- a way is at most what two mean rates and the acceleration lead over its time
way_most : (k d tol q yt yu ft fu g m n last h i gain : ℤ) → pos 0 ≤ℤ k → pos 0 ≤ℤ g → pos 0 <ℤ d →
    (ft -ℤ (yt *ℤ d)) ≤ℤ (tol *ℤ d) → neg_ℤ (tol *ℤ d) ≤ℤ (fu -ℤ (yu *ℤ d)) →
    (fu -ℤ ft) +ℤ (fu -ℤ ft) ≡ (g *ℤ (m +ℤ n)) -ℤ (g *ℤ (q *ℤ last)) →
    (k *ℤ m) ≤ℤ (h *ℤ d) → (k *ℤ n) ≤ℤ (i *ℤ d) → neg_ℤ (k *ℤ (q *ℤ last)) ≤ℤ (gain *ℤ d) →
    ((k +ℤ k) *ℤ ((yu -ℤ yt) -ℤ (tol +ℤ tol))) ≤ℤ (((h +ℤ i) +ℤ gain) *ℤ g)
way_most k d tol q yt yu ft fu g m n last h i gain pk pg pd high low is one two more =
    let x : ℤ = (yu -ℤ yt) -ℤ (tol +ℤ tol) in
    let r : ℤ = (h +ℤ i) +ℤ gain in
    let thin : x *ℤ d ≡ ((yu *ℤ d) -ℤ (yt *ℤ d)) -ℤ ((tol *ℤ d) +ℤ (tol *ℤ d)) = narrowed tol d yt yu in
    let a : (x *ℤ d) ≤ℤ (fu -ℤ ft) = omega (arith, linear, thin, high, low) in
    let z : ℤ = (m +ℤ n) -ℤ (q *ℤ last) in
    let z_is : g *ℤ z ≡ (g *ℤ (m +ℤ n)) -ℤ (g *ℤ (q *ℤ last)) = simp ring (omega (arith, linear)) in
    let twice : ((x *ℤ d) +ℤ (x *ℤ d)) ≤ℤ (g *ℤ z) = omega (arith, linear, a, is, z_is) in
    let b : (k *ℤ ((x *ℤ d) +ℤ (x *ℤ d))) ≤ℤ (k *ℤ (g *ℤ z)) = mul_le k ((x *ℤ d) +ℤ (x *ℤ d)) (g *ℤ z) pk twice in
    let kz : k *ℤ z ≡ ((k *ℤ m) +ℤ (k *ℤ n)) -ℤ (k *ℤ (q *ℤ last)) = simp ring (omega (arith, linear)) in
    let rd : r *ℤ d ≡ ((h *ℤ d) +ℤ (i *ℤ d)) +ℤ (gain *ℤ d) = simp ring (omega (arith, linear)) in
    let c : (k *ℤ z) ≤ℤ (r *ℤ d) = omega (arith, linear, kz, rd, one, two, more) in
    let e : (g *ℤ (k *ℤ z)) ≤ℤ (g *ℤ (r *ℤ d)) = mul_le g (k *ℤ z) (r *ℤ d) pg c in
    let f1 : k *ℤ (g *ℤ z) ≡ g *ℤ (k *ℤ z) = second_first k g z in
    let f2 : g *ℤ (r *ℤ d) ≡ d *ℤ (r *ℤ g) = third_first g r d in
    let f3 : d *ℤ ((k +ℤ k) *ℤ x) ≡ k *ℤ ((x *ℤ d) +ℤ (x *ℤ d)) = simp ring (omega (arith, linear)) in
    le_cancel d ((k +ℤ k) *ℤ x) (r *ℤ g) pd (omega (arith, linear, b, e, f1, f2, f3))

-- what the acceleration adds while two tracklets last
gain_most : (k w c acc d q last gain : ℤ) → pos 0 <ℤ w → pos 0 ≤ℤ last → pos 0 <ℤ d → c ≡ w *ℤ k →
    neg_ℤ (c *ℤ q) ≤ℤ (acc *ℤ d) → (acc *ℤ last) ≤ℤ (w *ℤ gain) → neg_ℤ (k *ℤ (q *ℤ last)) ≤ℤ (gain *ℤ d)
gain_most k w c acc d q last gain pw pl pd e h most =
    let a : (last *ℤ neg_ℤ (c *ℤ q)) ≤ℤ (last *ℤ (acc *ℤ d)) = mul_le last (neg_ℤ (c *ℤ q)) (acc *ℤ d) pl h in
    let b : (d *ℤ (acc *ℤ last)) ≤ℤ (d *ℤ (w *ℤ gain)) = mul_le d (acc *ℤ last) (w *ℤ gain) (omega (arith, linear, pd)) most in
    let f1 : w *ℤ neg_ℤ (k *ℤ (q *ℤ last)) ≡ last *ℤ neg_ℤ ((w *ℤ k) *ℤ q) = simp ring in
    let f2 : last *ℤ neg_ℤ (c *ℤ q) ≡ last *ℤ neg_ℤ ((w *ℤ k) *ℤ q) = ap (λ (n : ℤ). last *ℤ neg_ℤ (n *ℤ q)) e in
    let f3 : last *ℤ (acc *ℤ d) ≡ d *ℤ (acc *ℤ last) = third_first last acc d in
    let f4 : d *ℤ (w *ℤ gain) ≡ w *ℤ (gain *ℤ d) = second_first d w gain ∙ last_two w d gain in
    le_cancel w (neg_ℤ (k *ℤ (q *ℤ last))) (gain *ℤ d) pw (omega (arith, linear, a, b, f1, f2, f3, f4))

-- two mean rates differ by no more than the acceleration allows
rates_apart : (k c acc d q m n span longest low high : ℤ) → pos 0 <ℤ k → pos 0 <ℤ d → pos 0 ≤ℤ acc → pos 0 ≤ℤ span → span ≤ℤ (longest +ℤ longest) → c ≡ (k +ℤ k) *ℤ k →
    neg_ℤ (c *ℤ q) ≤ℤ (acc *ℤ d) → m -ℤ n ≡ neg_ℤ (q *ℤ span) → (low *ℤ d) ≤ℤ (k *ℤ m) → (k *ℤ n) ≤ℤ (high *ℤ d) →
    (k *ℤ (low -ℤ high)) ≤ℤ (acc *ℤ longest)
rates_apart k c acc d q m n span longest low high pk pd pa ps most e h is one two =
    let x : ℤ = low -ℤ high in
    let xd : x *ℤ d ≡ (low *ℤ d) -ℤ (high *ℤ d) = simp ring (omega (arith, linear)) in
    let kmn : k *ℤ (m -ℤ n) ≡ (k *ℤ m) -ℤ (k *ℤ n) = simp ring (omega (arith, linear)) in
    let kq : k *ℤ (m -ℤ n) ≡ k *ℤ neg_ℤ (q *ℤ span) = ap (λ (z : ℤ). k *ℤ z) is in
    let a : (x *ℤ d) ≤ℤ (k *ℤ neg_ℤ (q *ℤ span)) = omega (arith, linear, xd, kmn, kq, one, two) in
    let b : ((k +ℤ k) *ℤ (x *ℤ d)) ≤ℤ ((k +ℤ k) *ℤ (k *ℤ neg_ℤ (q *ℤ span))) = mul_le (k +ℤ k) (x *ℤ d) (k *ℤ neg_ℤ (q *ℤ span)) (omega (arith, linear, pk)) a in
    let f1 : (k +ℤ k) *ℤ (k *ℤ neg_ℤ (q *ℤ span)) ≡ span *ℤ neg_ℤ (((k +ℤ k) *ℤ k) *ℤ q) = simp ring (omega (arith, linear)) in
    let f2 : span *ℤ neg_ℤ (c *ℤ q) ≡ span *ℤ neg_ℤ (((k +ℤ k) *ℤ k) *ℤ q) = ap (λ (z : ℤ). span *ℤ neg_ℤ (z *ℤ q)) e in
    let g : (span *ℤ neg_ℤ (c *ℤ q)) ≤ℤ (span *ℤ (acc *ℤ d)) = mul_le span (neg_ℤ (c *ℤ q)) (acc *ℤ d) ps h in
    let i : (d *ℤ (acc *ℤ span)) ≤ℤ (d *ℤ (acc *ℤ (longest +ℤ longest))) = mul_le d (acc *ℤ span) (acc *ℤ (longest +ℤ longest)) (omega (arith, linear, pd)) (mul_le acc span (longest +ℤ longest) pa most) in
    let f3 : span *ℤ (acc *ℤ d) ≡ d *ℤ (acc *ℤ span) = third_first span acc d in
    let f4 : d *ℤ (acc *ℤ (longest +ℤ longest)) ≡ (d *ℤ (acc *ℤ longest)) +ℤ (d *ℤ (acc *ℤ longest)) = simp ring (omega (arith, linear)) in
    let f5 : (k +ℤ k) *ℤ (x *ℤ d) ≡ (d *ℤ (k *ℤ x)) +ℤ (d *ℤ (k *ℤ x)) = simp ring (omega (arith, linear)) in
    le_cancel d (k *ℤ x) (acc *ℤ longest) pd (omega (arith, linear, b, f1, f2, g, i, f3, f4, f5))

-- ---- two tracklets on one axis
abbrev pub day : ℤ
day = pos 1000000

abbrev pub two_days : ℤ
two_days = pos 2000000

-- an admitted quadratic is within the tolerance of the ends of two tracklets, the one after the other
pub record Seen (acc tol p v q d t t2 u u2 yt yt2 yu yu2 : ℤ) : Type 0 where
  pub positive : pos 0 <ℤ d
  pub bends : IsWithin (acc *ℤ d) (pos 2000000000000 *ℤ q)
  pub first : IsWithin (tol *ℤ d) (above p v q d t yt)
  pub second : IsWithin (tol *ℤ d) (above p v q d t2 yt2)
  pub third : IsWithin (tol *ℤ d) (above p v q d u yu)
  pub fourth : IsWithin (tol *ℤ d) (above p v q d u2 yu2)
  pub lasts : t <ℤ t2
  pub follows : t2 <ℤ u
  pub ends : u <ℤ u2

-- two rates that lie outward of those that the tolerance leaves of a tracklet
pub record Rated (tol ticks moved low high : ℤ) : Type 0 where
  pub least : (ticks *ℤ low) ≤ℤ (day *ℤ (moved -ℤ (tol +ℤ tol)))
  pub greatest : (day *ℤ (moved +ℤ (tol +ℤ tol))) ≤ℤ (ticks *ℤ high)

-- ---- the mirror
above_mirrored : (p v q d s y : ℤ) → above (neg_ℤ p) (neg_ℤ v) (neg_ℤ q) d s (neg_ℤ y) ≡ neg_ℤ (above p v q d s y)
above_mirrored p v q d s y = simp ring (omega (arith, linear))

within_mirrored : (b x y : ℤ) → y ≡ neg_ℤ x → IsWithin b x → IsWithin b y
within_mirrored b x y e h = (omega (arith, linear, e, h), omega (arith, linear, e, h))

bend_mirrored : (c q : ℤ) → c *ℤ neg_ℤ q ≡ neg_ℤ (c *ℤ q)
bend_mirrored c q = simp ring

mirrored : (acc tol p v q d t t2 u u2 yt yt2 yu yu2 : ℤ) → Seen acc tol p v q d t t2 u u2 yt yt2 yu yu2 →
    Seen acc tol (neg_ℤ p) (neg_ℤ v) (neg_ℤ q) d t t2 u u2 (neg_ℤ yt) (neg_ℤ yt2) (neg_ℤ yu) (neg_ℤ yu2)
mirrored acc tol p v q d t t2 u u2 yt yt2 yu yu2 h = record {
  positive = h.positive;
  bends = within_mirrored (acc *ℤ d) (pos 2000000000000 *ℤ q) (pos 2000000000000 *ℤ neg_ℤ q) (bend_mirrored (pos 2000000000000) q) h.bends;
  first = within_mirrored (tol *ℤ d) (above p v q d t yt) (above (neg_ℤ p) (neg_ℤ v) (neg_ℤ q) d t (neg_ℤ yt)) (above_mirrored p v q d t yt) h.first;
  second = within_mirrored (tol *ℤ d) (above p v q d t2 yt2) (above (neg_ℤ p) (neg_ℤ v) (neg_ℤ q) d t2 (neg_ℤ yt2)) (above_mirrored p v q d t2 yt2) h.second;
  third = within_mirrored (tol *ℤ d) (above p v q d u yu) (above (neg_ℤ p) (neg_ℤ v) (neg_ℤ q) d u (neg_ℤ yu)) (above_mirrored p v q d u yu) h.third;
  fourth = within_mirrored (tol *ℤ d) (above p v q d u2 yu2) (above (neg_ℤ p) (neg_ℤ v) (neg_ℤ q) d u2 (neg_ℤ yu2)) (above_mirrored p v q d u2 yu2) h.fourth;
  lasts = h.lasts;
  follows = h.follows;
  ends = h.ends;
}

least_mirrored : (ticks k low z w : ℤ) → w ≡ neg_ℤ z → (ticks *ℤ low) ≤ℤ (k *ℤ z) → (k *ℤ w) ≤ℤ (ticks *ℤ neg_ℤ low)
least_mirrored ticks k low z w e h =
    let a : ticks *ℤ neg_ℤ low ≡ neg_ℤ (ticks *ℤ low) = simp ring in
    let b : k *ℤ neg_ℤ z ≡ neg_ℤ (k *ℤ z) = simp ring in
    let c : k *ℤ w ≡ k *ℤ neg_ℤ z = ap (λ (n : ℤ). k *ℤ n) e in
    omega (arith, linear, a, b, c, h)

greatest_mirrored : (ticks k high z w : ℤ) → w ≡ neg_ℤ z → (k *ℤ z) ≤ℤ (ticks *ℤ high) → (ticks *ℤ neg_ℤ high) ≤ℤ (k *ℤ w)
greatest_mirrored ticks k high z w e h =
    let a : ticks *ℤ neg_ℤ high ≡ neg_ℤ (ticks *ℤ high) = simp ring in
    let b : k *ℤ neg_ℤ z ≡ neg_ℤ (k *ℤ z) = simp ring in
    let c : k *ℤ w ≡ k *ℤ neg_ℤ z = ap (λ (n : ℤ). k *ℤ n) e in
    omega (arith, linear, a, b, c, h)

rated_mirrored : (tol ticks yt yt2 low high : ℤ) → Rated tol ticks (yt2 -ℤ yt) low high → Rated tol ticks (neg_ℤ yt2 -ℤ neg_ℤ yt) (neg_ℤ high) (neg_ℤ low)
rated_mirrored tol ticks yt yt2 low high h = record {
  least = greatest_mirrored ticks day high ((yt2 -ℤ yt) +ℤ (tol +ℤ tol)) ((neg_ℤ yt2 -ℤ neg_ℤ yt) -ℤ (tol +ℤ tol)) (omega (arith, linear)) h.greatest;
  greatest = least_mirrored ticks day low ((yt2 -ℤ yt) -ℤ (tol +ℤ tol)) ((neg_ℤ yt2 -ℤ neg_ℤ yt) +ℤ (tol +ℤ tol)) (omega (arith, linear)) h.least;
}

-- ---- bounds of one side
-- the mean rate of a tracklet is at most the greatest of its box
rate_most : (tol p v q d t u yt yu low high : ℤ) → pos 0 <ℤ d → t <ℤ u → IsWithin (tol *ℤ d) (above p v q d t yt) → IsWithin (tol *ℤ d) (above p v q d u yu) →
    Rated tol (u -ℤ t) (yu -ℤ yt) low high → (day *ℤ mean v q t u) ≤ℤ (high *ℤ d)
rate_most tol p v q d t u yt yu low high pd less first second rated =
    mean_most day d tol yt yu (value p v q t) (value p v q u) (u -ℤ t) (mean v q t u) high (omega (arith, ints)) (omega (arith, linear, less)) pd first.0 second.1 (mean_is p v q t u) rated.greatest

least_of_mirror : (k d m n l : ℤ) → n ≡ neg_ℤ m → (k *ℤ n) ≤ℤ (neg_ℤ l *ℤ d) → (l *ℤ d) ≤ℤ (k *ℤ m)
least_of_mirror k d m n l e h =
    let a : k *ℤ n ≡ k *ℤ neg_ℤ m = ap (λ (z : ℤ). k *ℤ z) e in
    let b : k *ℤ neg_ℤ m ≡ neg_ℤ (k *ℤ m) = simp ring in
    let c : neg_ℤ l *ℤ d ≡ neg_ℤ (l *ℤ d) = simp ring in
    omega (arith, linear, a, b, c, h)

mean_mirrored : (v q t u : ℤ) → mean (neg_ℤ v) (neg_ℤ q) t u ≡ neg_ℤ (mean v q t u)
mean_mirrored v q t u = simp ring (omega (arith, linear))

-- and at least the least of it
rate_least : (acc tol p v q d t t2 u u2 yt yt2 yu yu2 low high : ℤ) → Seen acc tol p v q d t t2 u u2 yt yt2 yu yu2 → Rated tol (t2 -ℤ t) (yt2 -ℤ yt) low high → (low *ℤ d) ≤ℤ (day *ℤ mean v q t t2)
rate_least acc tol p v q d t t2 u u2 yt yt2 yu yu2 low high h rated =
    let w = mirrored acc tol p v q d t t2 u u2 yt yt2 yu yu2 h in
    least_of_mirror day d (mean v q t t2) (mean (neg_ℤ v) (neg_ℤ q) t t2) low (mean_mirrored v q t t2)
    (rate_most tol (neg_ℤ p) (neg_ℤ v) (neg_ℤ q) d t t2 (neg_ℤ yt) (neg_ℤ yt2) (neg_ℤ high) (neg_ℤ low) h.positive h.lasts w.first w.second (rated_mirrored tol (t2 -ℤ t) yt yt2 low high rated))

-- the greatest acceleration isn't negative
pub acc_not_negative : (acc d x : ℤ) → pos 0 <ℤ d → IsWithin (acc *ℤ d) x → pos 0 ≤ℤ acc
acc_not_negative acc d x p h =
    let e : acc *ℤ d ≡ d *ℤ acc = mul_comm acc d in
    let z : d *ℤ pos 0 ≡ pos 0 = same_in _ _ (omega (arith, product_is d (pos 0))) in
    le_cancel d (pos 0) acc p (omega (arith, linear, e, z, h))

-- the way to the later tracklet is no longer than the greatest rates lead
ahead_most : (acc tol p v q d t t2 u u2 yt yt2 yu yu2 low1 high1 low2 high2 gain : ℤ) → Seen acc tol p v q d t t2 u u2 yt yt2 yu yu2 →
    Rated tol (t2 -ℤ t) (yt2 -ℤ yt) low1 high1 → Rated tol (u2 -ℤ u) (yu2 -ℤ yu) low2 high2 →
    (acc *ℤ ((t2 -ℤ t) +ℤ (u2 -ℤ u))) ≤ℤ (two_days *ℤ gain) →
    (two_days *ℤ ((yu -ℤ yt) -ℤ (tol +ℤ tol))) ≤ℤ (((high1 +ℤ high2) +ℤ gain) *ℤ (u -ℤ t))
ahead_most acc tol p v q d t t2 u u2 yt yt2 yu yu2 low1 high1 low2 high2 gain h r1 r2 most =
    let l = h.lasts in
    let f = h.follows in
    let e = h.ends in
    let b = h.bends in
    way_most day d tol q yt yu (value p v q t) (value p v q u) (u -ℤ t) (mean v q t t2) (mean v q u u2) ((t2 -ℤ t) +ℤ (u2 -ℤ u)) high1 high2 gain
    (omega (arith, ints)) (omega (arith, linear, l, f)) h.positive (h.first).1 (h.third).0 (way_is p v q t t2 u u2)
    (rate_most tol p v q d t t2 yt yt2 low1 high1 h.positive h.lasts h.first h.second r1)
    (rate_most tol p v q d u u2 yu yu2 low2 high2 h.positive h.ends h.third h.fourth r2)
    (gain_most day two_days (pos 2000000000000) acc d q ((t2 -ℤ t) +ℤ (u2 -ℤ u)) gain (omega (arith, ints)) (omega (arith, linear, l, e)) h.positive refl (omega (arith, linear, b)) most)

-- the earlier tracklet is faster than the later one by no more than the acceleration allows
slower_most : (acc tol p v q d t t2 u u2 yt yt2 yu yu2 low1 high1 low2 high2 longest : ℤ) → Seen acc tol p v q d t t2 u u2 yt yt2 yu yu2 →
    Rated tol (t2 -ℤ t) (yt2 -ℤ yt) low1 high1 → Rated tol (u2 -ℤ u) (yu2 -ℤ yu) low2 high2 → (u2 -ℤ t) ≤ℤ longest →
    (day *ℤ (low1 -ℤ high2)) ≤ℤ (acc *ℤ longest)
slower_most acc tol p v q d t t2 u u2 yt yt2 yu yu2 low1 high1 low2 high2 longest h r1 r2 long =
    let l = h.lasts in
    let f = h.follows in
    let e = h.ends in
    let b = h.bends in
    rates_apart day (pos 2000000000000) acc d q (mean v q t t2) (mean v q u u2) ((u +ℤ u2) -ℤ (t +ℤ t2)) longest low1 high2 (omega (arith, ints)) h.positive
    (acc_not_negative acc d (pos 2000000000000 *ℤ q) h.positive h.bends) (omega (arith, linear, l, f, e)) (omega (arith, linear, l, f, e, long)) refl (omega (arith, linear, b)) (means_apart v q t t2 u u2)
    (rate_least acc tol p v q d t t2 u u2 yt yt2 yu yu2 low1 high1 h r1)
    (rate_most tol p v q d u u2 yu yu2 low2 high2 h.positive h.ends h.third h.fourth r2)

-- ---- bounds of both sides
pub record Bounded (acc tol t t2 u u2 yt yu low1 high1 low2 high2 gain longest : ℤ) : Type 0 where
  pub ahead : (two_days *ℤ ((yu -ℤ yt) -ℤ (tol +ℤ tol))) ≤ℤ (((high1 +ℤ high2) +ℤ gain) *ℤ (u -ℤ t))
  pub back : (two_days *ℤ (neg_ℤ (yu -ℤ yt) -ℤ (tol +ℤ tol))) ≤ℤ ((neg_ℤ (low1 +ℤ low2) +ℤ gain) *ℤ (u -ℤ t))
  pub slower : (day *ℤ (low1 -ℤ high2)) ≤ℤ (acc *ℤ longest)
  pub faster : (day *ℤ (low2 -ℤ high1)) ≤ℤ (acc *ℤ longest)

pub bounded : (acc tol p v q d t t2 u u2 yt yt2 yu yu2 low1 high1 low2 high2 gain longest : ℤ) → Seen acc tol p v q d t t2 u u2 yt yt2 yu yu2 →
    Rated tol (t2 -ℤ t) (yt2 -ℤ yt) low1 high1 → Rated tol (u2 -ℤ u) (yu2 -ℤ yu) low2 high2 →
    (acc *ℤ ((t2 -ℤ t) +ℤ (u2 -ℤ u))) ≤ℤ (two_days *ℤ gain) → (u2 -ℤ t) ≤ℤ longest → Bounded acc tol t t2 u u2 yt yu low1 high1 low2 high2 gain longest
bounded acc tol p v q d t t2 u u2 yt yt2 yu yu2 low1 high1 low2 high2 gain longest h r1 r2 most long =
    let w = mirrored acc tol p v q d t t2 u u2 yt yt2 yu yu2 h in
    let s1 = rated_mirrored tol (t2 -ℤ t) yt yt2 low1 high1 r1 in
    let s2 = rated_mirrored tol (u2 -ℤ u) yu yu2 low2 high2 r2 in
    let back = ahead_most acc tol (neg_ℤ p) (neg_ℤ v) (neg_ℤ q) d t t2 u u2 (neg_ℤ yt) (neg_ℤ yt2) (neg_ℤ yu) (neg_ℤ yu2) (neg_ℤ high1) (neg_ℤ low1) (neg_ℤ high2) (neg_ℤ low2) gain w s1 s2 most in
    let faster = slower_most acc tol (neg_ℤ p) (neg_ℤ v) (neg_ℤ q) d t t2 u u2 (neg_ℤ yt) (neg_ℤ yt2) (neg_ℤ yu) (neg_ℤ yu2) (neg_ℤ high1) (neg_ℤ low1) (neg_ℤ high2) (neg_ℤ low2) longest w s1 s2 long in
    let e1 : neg_ℤ yu -ℤ neg_ℤ yt ≡ neg_ℤ (yu -ℤ yt) = omega (arith, linear) in
    let e2 : neg_ℤ low1 +ℤ neg_ℤ low2 ≡ neg_ℤ (low1 +ℤ low2) = omega (arith, linear) in
    let e3 : neg_ℤ high1 -ℤ neg_ℤ low2 ≡ low2 -ℤ high1 = omega (arith, linear) in
    record {
      ahead = ahead_most acc tol p v q d t t2 u u2 yt yt2 yu yu2 low1 high1 low2 high2 gain h r1 r2 most;
      back = rw (e1, e2) at back;
      slower = slower_most acc tol p v q d t t2 u u2 yt yt2 yu yu2 low1 high1 low2 high2 longest h r1 r2 long;
      faster = rw e3 at faster;
    }
