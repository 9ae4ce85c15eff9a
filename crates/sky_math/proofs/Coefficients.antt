-- A quadratic within the tolerance of three points has a leading coefficient that suits them; at one such coefficient the quadratics are lines over changed positions.
use Rattle.std.proofs.Common.{◌≡◌, ℕ, ◌-◌, ◌<◌, List, length, get_or, refl, sym, subst, ap, ◌∙◌, arith}
use Rattle.std.proofs.lemmas.Bool.{cases_lt}
use Rattle.std.proofs.lemmas.List.{get_or_default}
use Rattle.std.specs.List.{All}
use Rattle.std.specs.Prelude.{ℤ, pos, ◌+ℤ◌, ◌-ℤ◌, ◌*ℤ◌, ◌≤ℤ◌, ◌<ℤ◌}
use Prim.Native.Nat.{suc}
use mathlib.Core.Logic.{inl, inr}
use borrow.Author.Differences.{same_in, product_is}
use Rattle.sky_math.proofs.Ring.{ring, mul_comm, mul_assoc, mul_left_comm, mul_sub}
use Rattle.sky_math.proofs.Order.{linear, mul_positive, mul_not_negative, mul_within, within_cancel}
use Rattle.sky_math.proofs.Lines.{turn, off, lower, LineOfPair, line_of_pair}
use Rattle.sky_math.specs.Lists.{EachTwo, EachThree}
use Rattle.sky_math.specs.Quadratics.{IsWithin, Point, Quadratic, residual, Passes, Admits, PassesWith}
use Rattle.sky_math.specs.Triples.{bend, stretch, slack, Suits}

-- the positions less the parabola of the coefficient a/b, times b
abbrev pub levelled : ℤ → ℤ → ℤ → ℤ → ℤ
levelled a b s y = (b *ℤ y) -ℤ (a *ℤ (s *ℤ s))

turn_is : (a b si yi sj yj sk yk : ℤ) →
    turn si (levelled a b si yi) sj (levelled a b sj yj) sk (levelled a b sk yk)
    ≡ (b *ℤ turn si yi sj yj sk yk) -ℤ (a *ℤ (((sj -ℤ si) *ℤ (sk -ℤ sj)) *ℤ (sk -ℤ si)))
turn_is a b si yi sj yj sk yk = simp ring (omega (arith, linear))

-- the residuals of three points, each times the time between the other two, leave only the leading coefficient
combined : (p v q d si yi sj yj sk yk : ℤ) →
    (((sj -ℤ si) *ℤ (((p +ℤ (v *ℤ sk)) +ℤ (q *ℤ (sk *ℤ sk))) -ℤ (yk *ℤ d))) -ℤ ((sk -ℤ si) *ℤ (((p +ℤ (v *ℤ sj)) +ℤ (q *ℤ (sj *ℤ sj))) -ℤ (yj *ℤ d)))) +ℤ ((sk -ℤ sj) *ℤ (((p +ℤ (v *ℤ si)) +ℤ (q *ℤ (si *ℤ si))) -ℤ (yi *ℤ d)))
    ≡ (q *ℤ (((sj -ℤ si) *ℤ (sk -ℤ sj)) *ℤ (sk -ℤ si))) -ℤ (turn si yi sj yj sk yk *ℤ d)
combined p v q d si yi sj yj sk yk = simp ring (omega (arith, linear))

moved : (b s d : ℤ) → b *ℤ (s *ℤ d) ≡ d *ℤ (s *ℤ b)
moved b s d = simp ring

exchanged : (q b a d m n : ℤ) → q *ℤ b ≡ a *ℤ d → b *ℤ ((q *ℤ m) -ℤ (n *ℤ d)) ≡ d *ℤ ((a *ℤ m) -ℤ (n *ℤ b))
exchanged q b a d m n e =
    let u : b *ℤ (q *ℤ m) ≡ (q *ℤ b) *ℤ m = simp ring in
    let v : d *ℤ (a *ℤ m) ≡ (a *ℤ d) *ℤ m = simp ring in
    let w : (q *ℤ b) *ℤ m ≡ (a *ℤ d) *ℤ m = ap (λ (t : ℤ). t *ℤ m) e in
    let x : b *ℤ (n *ℤ d) ≡ d *ℤ (n *ℤ b) = moved b n d in
    simp (mul_sub) (omega (arith, linear))

within_sum : (a b c m rx ry rz e : ℤ) → m ≡ a +ℤ c → IsWithin (a *ℤ e) (a *ℤ rz) → IsWithin (m *ℤ e) (m *ℤ ry) → IsWithin (c *ℤ e) (c *ℤ rx) → b ≡ ((a *ℤ rz) -ℤ (m *ℤ ry)) +ℤ (c *ℤ rx) → IsWithin ((m +ℤ m) *ℤ e) b
within_sum a b c m rx ry rz e s h k l t =
    let u : m *ℤ e ≡ (a *ℤ e) +ℤ (c *ℤ e) = rw s (simp ring (omega (arith, linear))) in
    let v : (m +ℤ m) *ℤ e ≡ (m *ℤ e) +ℤ (m *ℤ e) = simp ring (omega (arith, linear)) in
    (omega (arith, linear, h, k, l), omega (arith, linear, h, k, l))

-- a quadratic within the tolerance of three points has a leading coefficient that suits them
pub suits_of_passes : (tol : ℤ) (f : Quadratic) (x y z : Point) → x.time <ℤ y.time → y.time <ℤ z.time → Passes tol f x → Passes tol f y → Passes tol f z → Suits tol f.q f.d x y z
suits_of_passes tol f x y z xy yz px py pz =
    let a = y.time -ℤ x.time in
    let c = z.time -ℤ y.time in
    let m = z.time -ℤ x.time in
    let e = tol *ℤ f.d in
    let ra = mul_within a e (residual f z) (omega (arith, linear)) pz in
    let rm = mul_within m e (residual f y) (omega (arith, linear)) py in
    let rc = mul_within c e (residual f x) (omega (arith, linear)) px in
    let t : (f.q *ℤ stretch x y z) -ℤ (bend x y z *ℤ f.d) ≡ ((a *ℤ residual f z) -ℤ (m *ℤ residual f y)) +ℤ (c *ℤ residual f x) = sym (combined f.p f.v f.q f.d x.time x.position y.time y.position z.time z.position) in
    let w = within_sum a ((f.q *ℤ stretch x y z) -ℤ (bend x y z *ℤ f.d)) c m (residual f x) (residual f y) (residual f z) e (omega (arith, linear)) ra rm rc t in
    let s : slack tol x z *ℤ f.d ≡ (m +ℤ m) *ℤ e = simp ring (omega (arith, linear)) in
    rw s w

-- two spellings of one leading coefficient suit the same points
pub suits_same : (tol q d a b : ℤ) (x y z : Point) → pos 0 <ℤ d → pos 0 <ℤ b → q *ℤ b ≡ a *ℤ d → Suits tol q d x y z → Suits tol a b x y z
suits_same tol q d a b x y z p p' e h =
    let k = mul_within b (slack tol x z *ℤ d) ((q *ℤ stretch x y z) -ℤ (bend x y z *ℤ d)) (omega (arith, linear)) h in
    let l : b *ℤ (slack tol x z *ℤ d) ≡ d *ℤ (slack tol x z *ℤ b) = moved b (slack tol x z) d in
    let r : b *ℤ ((q *ℤ stretch x y z) -ℤ (bend x y z *ℤ d)) ≡ d *ℤ ((a *ℤ stretch x y z) -ℤ (bend x y z *ℤ b)) = exchanged q b a d (stretch x y z) (bend x y z) e in
    within_cancel d (slack tol x z *ℤ b) ((a *ℤ stretch x y z) -ℤ (bend x y z *ℤ b)) p (rw (← l, ← r) k)

abbrev origin : Point
origin = record { time = pos 0; position = pos 0 }

three_of_suits : (tol a b : ℤ) (x y z : Point) → Suits tol a b x y z → IsWithin (((b *ℤ tol) +ℤ (b *ℤ tol)) *ℤ (z.time -ℤ x.time)) (turn x.time (levelled a b x.time x.position) y.time (levelled a b y.time y.position) z.time (levelled a b z.time z.position))
three_of_suits tol a b x y z h =
    let e : slack tol x z *ℤ b ≡ ((b *ℤ tol) +ℤ (b *ℤ tol)) *ℤ (z.time -ℤ x.time) = simp ring (omega (arith, linear)) in
    let t = turn_is a b x.time x.position y.time y.position z.time z.position in
    let m : bend x y z *ℤ b ≡ b *ℤ turn x.time x.position y.time y.position z.time z.position = mul_comm (bend x y z) b in
    (omega (arith, linear, h, t), omega (arith, linear, h, t))

off_is : (w a b p v d s y : ℤ) → ((p +ℤ (v *ℤ s)) -ℤ (levelled a b s y *ℤ d)) ≡ ((p +ℤ (v *ℤ s)) +ℤ ((a *ℤ d) *ℤ (s *ℤ s))) -ℤ (y *ℤ (b *ℤ d))
off_is w a b p v d s y = simp ring (omega (arith, linear))

-- a quadratic within the tolerance of all points, whose leading coefficient is a/b
pub record PassingWith (tol a b : ℤ) (xs : List Point) : Type 0 where
  pub quadratic : Quadratic
  pub scale : ℤ
  pub positive : pos 0 <ℤ scale
  pub leads : quadratic.q ≡ a *ℤ scale
  pub over : quadratic.d ≡ b *ℤ scale
  pub passes : All (Passes tol quadratic) xs

-- one point is met exactly
alone_is : (a b s y : ℤ) → (((((b *ℤ y) -ℤ (a *ℤ (s *ℤ s))) +ℤ (pos 0 *ℤ s)) +ℤ (a *ℤ (s *ℤ s))) -ℤ (y *ℤ b)) ≡ pos 0
alone_is a b s y =
    let e : pos 0 *ℤ s ≡ pos 0 = same_in _ _ (omega (arith, product_is (pos 0) s)) in
    let c : b *ℤ y ≡ y *ℤ b = mul_comm b y in
    omega (arith, linear)

one_is : (a : ℤ) → a ≡ a *ℤ pos 1
one_is a = same_in _ _ (omega (arith, product_is a (pos 1)))

passing_few : (tol a b : ℤ) (xs : List Point) → pos 0 ≤ℤ tol → pos 0 <ℤ b → length xs < 2 → PassingWith tol a b xs
passing_few tol a b xs t p few =
    let x : Point = get_or xs 0 origin in
    let n : pos 0 ≤ℤ (tol *ℤ b) = mul_not_negative tol b t (omega (arith, linear)) in
    let e = alone_is a b x.time x.position in
    record {
      quadratic = record { p = (b *ℤ x.position) -ℤ (a *ℤ (x.time *ℤ x.time)); v = pos 0; q = a; d = b };
      scale = pos 1;
      positive = omega (arith, linear);
      leads = one_is a;
      over = one_is b;
      passes = λ k d h.
          let z : 0 ≡ k = omega arith in
          subst (λ (i : ℕ). Passes tol (record { p = (b *ℤ x.position) -ℤ (a *ℤ (x.time *ℤ x.time)); v = pos 0; q = a; d = b }) (get_or xs i d)) z
          (rw (get_or_default xs 0 d origin (omega arith)) (omega (arith, linear, n, e), omega (arith, linear, n, e)));
    }

passing_many : (tol a b : ℤ) (xs : List Point) (n : ℕ) → length xs ≡ suc (suc n) → pos 0 ≤ℤ tol → pos 0 <ℤ b → EachTwo (λ x y. x.time <ℤ y.time) xs → EachThree (Suits tol a b) xs → PassingWith tol a b xs
passing_many tol a b xs n len t p rising suits =
    let s : ℕ → ℤ = λ i. (get_or xs i origin).time in
    let z : ℕ → ℤ = λ i. levelled a b (get_or xs i origin).time (get_or xs i origin).position in
    let w : ℤ = b *ℤ tol in
    let line : LineOfPair w s z (suc (suc n)) = line_of_pair w s z n (mul_not_negative b tol (omega (arith, linear)) t) (λ i j h m. rising i j origin h (omega arith))
    (λ i j k h m l. three_of_suits tol a b (get_or xs i origin) (get_or xs j origin) (get_or xs k origin) (suits i j k origin h m (omega arith))) in
    let i : ℕ = line.left in
    let j : ℕ = line.right in
    let ij : i < j = line.rising in
    let jn : j < suc (suc n) = line.within in
    let d : ℤ = s j -ℤ s i in
    let r = rising i j origin ij (omega arith) in
    let f : Quadratic = record { p = ((z i +ℤ w) *ℤ d) -ℤ (lower w (z i) (z j) *ℤ s i); v = lower w (z i) (z j); q = a *ℤ d; d = b *ℤ d } in
    record {
      quadratic = f;
      scale = d;
      positive = omega (arith, linear, r);
      leads = refl;
      over = refl;
      passes = λ k c h.
          let x : Point = get_or xs k origin in
          let o : off w (s i) (z i) (s j) (z j) (s k) (z k) ≡ residual f x = off_is w a b f.p f.v d x.time x.position in
          let m : (b *ℤ tol) *ℤ d ≡ tol *ℤ (b *ℤ d) = ap (λ (t : ℤ). t *ℤ d) (mul_comm b tol) ∙ mul_assoc tol b d in
          let b' : IsWithin ((b *ℤ tol) *ℤ d) (off w (s i) (z i) (s j) (z j) (s k) (z k)) = line.fits k (omega arith) in
          let g : IsWithin (tol *ℤ (b *ℤ d)) (residual f x) = rw (← m, ← o) b' in
          rw (get_or_default xs k c origin h) g;
    }

-- at a leading coefficient that suits each three points some quadratic is within the tolerance of all
pub passes_of_suits : (tol a b : ℤ) (xs : List Point) → pos 0 ≤ℤ tol → pos 0 <ℤ b → EachTwo (λ x y. x.time <ℤ y.time) xs → EachThree (Suits tol a b) xs → PassingWith tol a b xs
passes_of_suits tol a b xs t p rising suits = elim (cases_lt (length xs) 2) as (λ _. PassingWith tol a b xs) [
  | inl l ↦ passing_few tol a b xs t p l
  | inr l ↦ passing_many tol a b xs (length xs - 2) (omega arith) t p rising suits
]

-- ---- admitted quadratics, and those of one leading coefficient, are told by triples
pub suits_all_of_passes : (tol : ℤ) (f : Quadratic) (xs : List Point) → EachTwo (λ x y. x.time <ℤ y.time) xs → All (Passes tol f) xs → EachThree (Suits tol f.q f.d) xs
suits_all_of_passes tol f xs rising passes = λ i j k d ij jk kn.
    suits_of_passes tol f (get_or xs i d) (get_or xs j d) (get_or xs k d) (rising i j d ij (omega arith)) (rising j k d jk kn) (passes i d (omega arith)) (passes j d (omega arith)) (passes k d kn)

pub suits_all_same : (tol q d a b : ℤ) (xs : List Point) → pos 0 <ℤ d → pos 0 <ℤ b → q *ℤ b ≡ a *ℤ d → EachThree (Suits tol q d) xs → EachThree (Suits tol a b) xs
suits_all_same tol q d a b xs p p' e suits = λ i j k c ij jk kn. suits_same tol q d a b (get_or xs i c) (get_or xs j c) (get_or xs k c) p p' e (suits i j k c ij jk kn)

pub admits_of_suits : (acc tol a b : ℤ) (xs : List Point) → pos 0 ≤ℤ tol → pos 0 <ℤ b → IsWithin (acc *ℤ b) (pos 2000000000000 *ℤ a) → EachTwo (λ x y. x.time <ℤ y.time) xs → EachThree (Suits tol a b) xs → Admits acc tol xs
admits_of_suits acc tol a b xs t p within rising suits =
    let w = passes_of_suits tol a b xs t p rising suits in
    let c : ℤ = w.scale in
    let f : Quadratic = w.quadratic in
    let big = mul_within c (acc *ℤ b) (pos 2000000000000 *ℤ a) (let r = w.positive in omega (arith, linear, r)) within in
    let e : c *ℤ (acc *ℤ b) ≡ acc *ℤ f.d = rw w.over (simp (mul_left_comm) (ap (λ (t : ℤ). acc *ℤ t) (mul_comm c b))) in
    let g : c *ℤ (pos 2000000000000 *ℤ a) ≡ pos 2000000000000 *ℤ f.q = rw w.leads (mul_left_comm c (pos 2000000000000) a ∙ ap (λ (t : ℤ). pos 2000000000000 *ℤ t) (mul_comm c a)) in
    (f, (rw w.over (mul_positive b c p w.positive), rw (← e, ← g) big), w.passes)

pub passes_with_of_suits : (tol a b : ℤ) (xs : List Point) → pos 0 ≤ℤ tol → pos 0 <ℤ b → EachTwo (λ x y. x.time <ℤ y.time) xs → EachThree (Suits tol a b) xs → PassesWith tol a b xs
passes_with_of_suits tol a b xs t p rising suits =
    let w = passes_of_suits tol a b xs t p rising suits in
    let c : ℤ = w.scale in
    (w.quadratic, rw w.over (mul_positive b c p w.positive), rw w.leads (rw w.over (mul_assoc a c b ∙ ap (λ (t : ℤ). a *ℤ t) (mul_comm c b))), w.passes)

pub suits_of_passes_with : (tol a b : ℤ) (xs : List Point) → pos 0 <ℤ b → EachTwo (λ x y. x.time <ℤ y.time) xs → PassesWith tol a b xs → EachThree (Suits tol a b) xs
suits_of_passes_with tol a b xs p rising w = suits_all_same tol w.0.q w.0.d a b xs w.1 p w.2 (suits_all_of_passes tol w.0 xs rising w.3)
