-- Tight quadratics: of the least bend among those that pass the points, and the tolerance above one of them and below a later one. Nothing that passes comes before them.
use Rattle.std.proofs.Common.{◌≡◌, ◌∙◌, ℤ, pos, neg_ℤ, ◌+ℤ◌, ◌-ℤ◌, ◌*ℤ◌, ◌≤ℤ◌, ◌<ℤ◌, false, List, map, get_or, refl, sym, subst, ap, arith}
use Rattle.std.specs.Cmp.{int_cmp_is}
use Rattle.std.specs.Int.RustNames.{unsigned_abs}
use Rattle.std.specs.List.{All, Contains}
use Rattle.std.specs.Ordering.{int_cmp, is_gt, ordering_then}
use Rattle.std.specs.declared.cmp.Ordering.{Ordering}
use Rattle.std.specs.declared.cmp.Ordering.TheVariants.{Equal, Less}
use Rattle.std.proofs.lemmas.Int.{by_lt_z, ints, unsigned_abs-mul}
use Rattle.std.proofs.lemmas.List.{get_or-map, length-map}
use Rattle.std.proofs.lemmas.List.Elements.{All-contains, All-map}
use borrow.Author.Differences.{same_in, product_is}
use Rattle.sky_math.proofs.Order.{linear, le_cancel, mul_le, within_cancel}
use Rattle.sky_math.proofs.Ring.{mul_comm, mul_neg, ring}
use Rattle.sky_math.proofs.Shifts.{moved_point, passes_moved, shifted}
use Rattle.sky_math.specs.Quadratics.{IsAdmitted, Passes, Point, Quadratic, residual}
use Rattle.sky_units.specs.Reported.{quadratic_cmp}
use Rattle.quad_fit.specs.Lowering.{IsLowered, IsSeenFrom}

-- ---- comparing by one number after the other
not_above : (a b : ℤ) (rest : Ordering) → a ≤ℤ b → (a ≡ b → is_gt rest ≡ false) → is_gt (ordering_then (int_cmp a b) rest) ≡ false
not_above a b rest h next = by_lt_z {P = is_gt (ordering_then (int_cmp a b) rest) ≡ false} a b
    (λ less. let e : int_cmp a b ≡ Less = sym (int_cmp_is a b Less less) in rw e refl)
    (λ most. let s : a ≡ b = omega (arith, ints) in let e : int_cmp a b ≡ Equal = sym (int_cmp_is a b Equal s) in rw e (next s))

last_not_above : (a b : ℤ) → a ≤ℤ b → is_gt (int_cmp a b) ≡ false
last_not_above a b h = by_lt_z {P = is_gt (int_cmp a b) ≡ false} a b
    (λ less. let e : int_cmp a b ≡ Less = sym (int_cmp_is a b Less less) in rw e refl)
    (λ most. let s : a ≡ b = omega (arith, ints) in let e : int_cmp a b ≡ Equal = sym (int_cmp_is a b Equal s) in rw e refl)

-- the size of the leading coefficient over another denominator
abbrev pub size_over : Quadratic → Quadratic → ℤ
size_over f g = pos (unsigned_abs f.q) *ℤ g.d

not_greater : (f g : Quadratic) → size_over f g ≤ℤ size_over g f → (size_over f g ≡ size_over g f → (f.v *ℤ g.d) ≤ℤ (g.v *ℤ f.d)) →
    (size_over f g ≡ size_over g f → f.v *ℤ g.d ≡ g.v *ℤ f.d → (f.p *ℤ g.d) ≤ℤ (g.p *ℤ f.d)) → is_gt (quadratic_cmp f g) ≡ false
not_greater f g bend rate constant =
    not_above (size_over f g) (size_over g f) (ordering_then (int_cmp (f.v *ℤ g.d) (g.v *ℤ f.d)) (int_cmp (f.p *ℤ g.d) (g.p *ℤ f.d))) bend (λ one.
    not_above (f.v *ℤ g.d) (g.v *ℤ f.d) (int_cmp (f.p *ℤ g.d) (g.p *ℤ f.d)) (rate one) (λ two.
    last_not_above (f.p *ℤ g.d) (g.p *ℤ f.d) (constant one two)))

-- ---- tight quadratics
pub record IsTight (acc tol : ℤ) (xs : List Point) (f : Quadratic) : Type 0 where
  pub admitted : IsAdmitted acc f
  pub passes : All (Passes tol f) xs
  pub first : Point
  pub last : Point
  pub has_first : Contains xs first
  pub has_last : Contains xs last
  pub before : first.time <ℤ last.time
  pub at_first : residual f first ≡ tol *ℤ f.d
  pub at_last : residual f last ≡ neg_ℤ (tol *ℤ f.d)
  pub least_bend : (g : Quadratic) → IsAdmitted acc g → All (Passes tol g) xs → size_over f g ≤ℤ size_over g f
  pub one_bend : (g : Quadratic) → IsAdmitted acc g → All (Passes tol g) xs → size_over f g ≡ size_over g f → f.q *ℤ g.d ≡ g.q *ℤ f.d

-- ---- two quadratics of one leading coefficient differ by a line
-- how far one lies above the other at a point, times both denominators
abbrev apart : Quadratic → Quadratic → Point → ℤ
apart f g x = (f.d *ℤ residual g x) -ℤ (g.d *ℤ residual f x)

apart_sum : (p v q d p' v' q' e s y : ℤ) →
    (d *ℤ (((p' +ℤ (v' *ℤ s)) +ℤ (q' *ℤ (s *ℤ s))) -ℤ (y *ℤ e))) -ℤ (e *ℤ (((p +ℤ (v *ℤ s)) +ℤ (q *ℤ (s *ℤ s))) -ℤ (y *ℤ d)))
    ≡ (((p' *ℤ d) -ℤ (p *ℤ e)) +ℤ (((v' *ℤ d) -ℤ (v *ℤ e)) *ℤ s)) +ℤ (((q' *ℤ d) -ℤ (q *ℤ e)) *ℤ (s *ℤ s))
apart_sum p v q d p' v' q' e s y = simp ring (omega (arith, linear))

pub none_left : (k x : ℤ) → k ≡ pos 0 → k *ℤ x ≡ pos 0
none_left k x e = rw e (same_in _ _ (omega (arith, product_is (pos 0) x)))

apart_is : (f g : Quadratic) (x : Point) → f.q *ℤ g.d ≡ g.q *ℤ f.d → apart f g x ≡ ((g.p *ℤ f.d) -ℤ (f.p *ℤ g.d)) +ℤ (((g.v *ℤ f.d) -ℤ (f.v *ℤ g.d)) *ℤ x.time)
apart_is f g x e =
    let s = apart_sum f.p f.v f.q f.d g.p g.v g.q g.d x.time x.position in
    let z = none_left ((g.q *ℤ f.d) -ℤ (f.q *ℤ g.d)) (x.time *ℤ x.time) (omega (arith, linear, e)) in
    omega (arith, linear, s, z)

-- what lies the tolerance above a point lies above what passes it
below_first : (d e tol r r' : ℤ) → pos 0 <ℤ d → r ≡ tol *ℤ d → r' ≤ℤ (tol *ℤ e) → ((d *ℤ r') -ℤ (e *ℤ r)) ≤ℤ pos 0
below_first d e tol r r' p h k =
    let m = mul_le d r' (tol *ℤ e) (omega (arith, linear, p)) k in
    let s : d *ℤ (tol *ℤ e) ≡ e *ℤ (tol *ℤ d) = simp ring in
    let t : e *ℤ r ≡ e *ℤ (tol *ℤ d) = ap (λ (n : ℤ). e *ℤ n) h in
    omega (arith, linear, m, s, t)

above_last : (d e tol r r' : ℤ) → pos 0 <ℤ d → r ≡ neg_ℤ (tol *ℤ d) → neg_ℤ (tol *ℤ e) ≤ℤ r' → pos 0 ≤ℤ ((d *ℤ r') -ℤ (e *ℤ r))
above_last d e tol r r' p h k =
    let m = mul_le d (neg_ℤ (tol *ℤ e)) r' (omega (arith, linear, p)) k in
    let s : d *ℤ neg_ℤ (tol *ℤ e) ≡ e *ℤ neg_ℤ (tol *ℤ d) = simp ring in
    let t : e *ℤ r ≡ e *ℤ neg_ℤ (tol *ℤ d) = ap (λ (n : ℤ). e *ℤ n) h in
    omega (arith, linear, m, s, t)

rises : (p v a b : ℤ) → a <ℤ b → (p +ℤ (v *ℤ a)) ≤ℤ pos 0 → pos 0 ≤ℤ (p +ℤ (v *ℤ b)) → pos 0 ≤ℤ v
rises p v a b less low high =
    let s : (b -ℤ a) *ℤ v ≡ (v *ℤ b) -ℤ (v *ℤ a) = simp ring in
    let z : (b -ℤ a) *ℤ pos 0 ≡ pos 0 = mul_comm (b -ℤ a) (pos 0) ∙ none_left (pos 0) (b -ℤ a) refl in
    le_cancel (b -ℤ a) (pos 0) v (omega (arith, linear, less)) (omega (arith, linear, low, high, s, z))

module _ (acc tol : ℤ) (xs : List Point) (f g : Quadratic) (tight : IsTight acc tol xs f) (admitted : IsAdmitted acc g) (passes : All (Passes tol g) xs) (same : f.q *ℤ g.d ≡ g.q *ℤ f.d) where
  low : (((g.p *ℤ f.d) -ℤ (f.p *ℤ g.d)) +ℤ (((g.v *ℤ f.d) -ℤ (f.v *ℤ g.d)) *ℤ tight.first.time)) ≤ℤ pos 0
  low =
      let there = All-contains (Passes tol g) xs tight.first passes tight.has_first in
      rw (apart_is f g tight.first same) at (below_first f.d g.d tol (residual f tight.first) (residual g tight.first) tight.admitted.0 tight.at_first there.1)

  high : pos 0 ≤ℤ (((g.p *ℤ f.d) -ℤ (f.p *ℤ g.d)) +ℤ (((g.v *ℤ f.d) -ℤ (f.v *ℤ g.d)) *ℤ tight.last.time))
  high =
      let there = All-contains (Passes tol g) xs tight.last passes tight.has_last in
      rw (apart_is f g tight.last same) at (above_last f.d g.d tol (residual f tight.last) (residual g tight.last) tight.admitted.0 tight.at_last there.0)

  least_rate : (f.v *ℤ g.d) ≤ℤ (g.v *ℤ f.d)
  least_rate =
      let r = rises ((g.p *ℤ f.d) -ℤ (f.p *ℤ g.d)) ((g.v *ℤ f.d) -ℤ (f.v *ℤ g.d)) tight.first.time tight.last.time tight.before low high in
      omega (arith, linear, r)

  least_constant : f.v *ℤ g.d ≡ g.v *ℤ f.d → (f.p *ℤ g.d) ≤ℤ (g.p *ℤ f.d)
  least_constant e =
      let z = none_left ((g.v *ℤ f.d) -ℤ (f.v *ℤ g.d)) tight.last.time (omega (arith, linear, e)) in
      let h = high in
      omega (arith, linear, h, z)

-- nothing that passes the points comes before a tight quadratic
pub least_of_tight : (acc tol : ℤ) (xs : List Point) (f g : Quadratic) → IsTight acc tol xs f → IsAdmitted acc g → All (Passes tol g) xs → is_gt (quadratic_cmp f g) ≡ false
least_of_tight acc tol xs f g tight admitted passes =
    not_greater f g (tight.least_bend g admitted passes)
    (λ one. least_rate acc tol xs f g tight admitted passes (tight.one_bend g admitted passes one))
    (λ one. least_constant acc tol xs f g tight admitted passes (tight.one_bend g admitted passes one))

-- ---- counted from another time and position
abbrev pub all_moved : ℤ → ℤ → List Point → List Point
all_moved c h = map (λ x. moved_point x c h)

residual_moved : (p v q d s y c h : ℤ) →
    (((((p +ℤ (v *ℤ c)) +ℤ (q *ℤ (c *ℤ c))) -ℤ (h *ℤ d)) +ℤ ((v +ℤ ((q *ℤ c) +ℤ (q *ℤ c))) *ℤ (s -ℤ c))) +ℤ (q *ℤ ((s -ℤ c) *ℤ (s -ℤ c)))) -ℤ ((y -ℤ h) *ℤ d)
    ≡ ((p +ℤ (v *ℤ s)) +ℤ (q *ℤ (s *ℤ s))) -ℤ (y *ℤ d)
residual_moved p v q d s y c h = simp ring (omega (arith, linear))

-- what a shift tells
pub seen_shifted : (f : Quadratic) (c h : ℤ) → IsSeenFrom c h f (shifted f c h)
seen_shifted f c h = record { same_den = refl; same_bend = refl; same_residual = λ x. residual_moved f.p f.v f.q f.d x.time x.position c h }

moved_back : (x : Point) (c h : ℤ) → moved_point (moved_point x c h) (neg_ℤ c) (neg_ℤ h) ≡ x
moved_back x c h =
    let t : (x.time -ℤ c) -ℤ neg_ℤ c ≡ x.time = omega (arith, ints) in
    let p : (x.position -ℤ h) -ℤ neg_ℤ h ≡ x.position = omega (arith, ints) in
    rw (t, p) refl

contains_moved : (xs : List Point) (x : Point) (c h : ℤ) → Contains xs x → Contains (all_moved c h xs) (moved_point x c h)
contains_moved xs x c h (i, l, e) = (
  i,
  omega (arith, length-map xs (λ y. moved_point y c h), l),
  get_or-map (λ y. moved_point y c h) xs i x (moved_point x c h) l ∙ ap (λ y. moved_point y c h) e,
)

passes_back : (tol : ℤ) (g : Quadratic) (xs : List Point) (c h : ℤ) → All (Passes tol g) (all_moved c h xs) → All (Passes tol (shifted g (neg_ℤ c) (neg_ℤ h))) xs
passes_back tol g xs c h all = λ k d l.
    let x : Point = get_or xs k d in
    let is : get_or (all_moved c h xs) k (moved_point d c h) ≡ moved_point x c h = get_or-map (λ y. moved_point y c h) xs k d (moved_point d c h) l in
    let there : Passes tol g (get_or (all_moved c h xs) k (moved_point d c h)) = all k (moved_point d c h) (omega (arith, length-map xs (λ y. moved_point y c h), l)) in
    let here : Passes tol g (moved_point x c h) = subst (Passes tol g) is there in
    subst (Passes tol (shifted g (neg_ℤ c) (neg_ℤ h))) (moved_back x c h) (passes_moved tol g (moved_point x c h) (neg_ℤ c) (neg_ℤ h) here)

passes_seen : (tol : ℤ) (f g : Quadratic) (x : Point) (c h : ℤ) → IsSeenFrom c h f g → Passes tol f x → Passes tol g (moved_point x c h)
passes_seen tol f g x c h seen w = rw (seen.same_residual x, seen.same_den) w

pub tight_seen : (acc tol : ℤ) (xs : List Point) (f g : Quadratic) (c h : ℤ) → IsSeenFrom c h f g → IsTight acc tol xs f → IsTight acc tol (all_moved c h xs) g
tight_seen acc tol xs f g c h seen tight = record {
  admitted = rw (seen.same_den, seen.same_bend) tight.admitted;
  passes = All-map (Passes tol g) (λ x. moved_point x c h) xs (λ k d l. passes_seen tol f g (get_or xs k d) c h seen (tight.passes k d l));
  first = moved_point tight.first c h;
  last = moved_point tight.last c h;
  has_first = contains_moved xs tight.first c h tight.has_first;
  has_last = contains_moved xs tight.last c h tight.has_last;
  before = omega (arith, linear, tight.before);
  at_first = seen.same_residual tight.first ∙ tight.at_first ∙ ap (λ (d : ℤ). tol *ℤ d) (sym seen.same_den);
  at_last = seen.same_residual tight.last ∙ tight.at_last ∙ ap (λ (d : ℤ). neg_ℤ (tol *ℤ d)) (sym seen.same_den);
  least_bend = λ k admitted passes. rw (seen.same_den, seen.same_bend) (tight.least_bend (shifted k (neg_ℤ c) (neg_ℤ h)) admitted (passes_back tol k xs c h passes));
  one_bend = λ k admitted passes. rw (seen.same_den, seen.same_bend) (tight.one_bend (shifted k (neg_ℤ c) (neg_ℤ h)) admitted (passes_back tol k xs c h passes));
}

-- ---- over a smaller denominator
-- all four numbers times k
abbrev pub multiple : ℤ → Quadratic → Quadratic
multiple k f = record { p = f.p *ℤ k; v = f.v *ℤ k; q = f.q *ℤ k; d = f.d *ℤ k }

residual_multiple : (p v q d k s y : ℤ) → ((((p *ℤ k) +ℤ ((v *ℤ k) *ℤ s)) +ℤ ((q *ℤ k) *ℤ (s *ℤ s))) -ℤ (y *ℤ (d *ℤ k))) ≡ k *ℤ (((p +ℤ (v *ℤ s)) +ℤ (q *ℤ (s *ℤ s))) -ℤ (y *ℤ d))
residual_multiple p v q d k s y = simp ring (omega (arith, linear))

turned : (t d k : ℤ) → t *ℤ (d *ℤ k) ≡ k *ℤ (t *ℤ d)
turned t d k = simp ring

pub same_cancel : (k a b : ℤ) → pos 0 <ℤ k → k *ℤ a ≡ k *ℤ b → a ≡ b
same_cancel k a b p e =
    let l : a ≤ℤ b = le_cancel k a b p (omega (arith, linear, e)) in
    let m : b ≤ℤ a = le_cancel k b a p (omega (arith, linear, e)) in
    omega (arith, ints)

passes_lowered : (tol k : ℤ) (f : Quadratic) (x : Point) → pos 0 <ℤ k → Passes tol (multiple k f) x → Passes tol f x
passes_lowered tol k f x p h =
    within_cancel k (tol *ℤ f.d) (residual f x) p (rw (turned tol f.d k, residual_multiple f.p f.v f.q f.d k x.time x.position) at h)

pub positive_lowered : (d k : ℤ) → pos 0 <ℤ k → pos 0 <ℤ (d *ℤ k) → pos 0 <ℤ d
positive_lowered d k p h = by_lt_z {P = pos 0 <ℤ d} (pos 0) d (λ l. l) (λ l.
    let m = mul_le k d (pos 0) (omega (arith, linear, p)) l in
    let z : k *ℤ pos 0 ≡ pos 0 = mul_comm k (pos 0) ∙ none_left (pos 0) k refl in
    let c = mul_comm k d in
    absurd (omega (arith, linear, m, z, c, h)))

size_multiple : (q e k : ℤ) → pos 0 <ℤ k → pos (unsigned_abs (q *ℤ k)) *ℤ e ≡ k *ℤ (pos (unsigned_abs q) *ℤ e)
size_multiple q e k p =
    let a : pos (unsigned_abs k) ≡ k = omega (arith, ints) in
    let b : pos (unsigned_abs (q *ℤ k)) ≡ pos (unsigned_abs q) *ℤ pos (unsigned_abs k) = ap pos (unsigned_abs-mul q k) in
    let c : (pos (unsigned_abs q) *ℤ k) *ℤ e ≡ k *ℤ (pos (unsigned_abs q) *ℤ e) = simp ring in
    ap (λ (n : ℤ). n *ℤ e) (b ∙ ap (λ (n : ℤ). pos (unsigned_abs q) *ℤ n) a) ∙ c

over_multiple : (q d k : ℤ) → q *ℤ (d *ℤ k) ≡ k *ℤ (q *ℤ d)
over_multiple q d k = simp ring

multiple_over : (q e k : ℤ) → (q *ℤ k) *ℤ e ≡ k *ℤ (q *ℤ e)
multiple_over q e k = simp ring

tight_multiple : (acc tol : ℤ) (xs : List Point) (f : Quadratic) (k : ℤ) → pos 0 <ℤ k → IsTight acc tol xs (multiple k f) → IsTight acc tol xs f
tight_multiple acc tol xs f k p tight = record {
  admitted = (
    positive_lowered f.d k p tight.admitted.0,
    within_cancel k (acc *ℤ f.d) (pos 2000000000000 *ℤ f.q) p (rw (turned acc f.d k, turned (pos 2000000000000) f.q k) at tight.admitted.1),
  );
  passes = λ i d l. passes_lowered tol k f (get_or xs i d) p (tight.passes i d l);
  first = tight.first;
  last = tight.last;
  has_first = tight.has_first;
  has_last = tight.has_last;
  before = tight.before;
  at_first = same_cancel k (residual f tight.first) (tol *ℤ f.d) p (sym (residual_multiple f.p f.v f.q f.d k tight.first.time tight.first.position) ∙ tight.at_first ∙ turned tol f.d k);
  at_last = same_cancel k (residual f tight.last) (neg_ℤ (tol *ℤ f.d)) p (sym (residual_multiple f.p f.v f.q f.d k tight.last.time tight.last.position) ∙ tight.at_last ∙ ap neg_ℤ (turned tol f.d k) ∙ sym (mul_neg k (tol *ℤ f.d)));
  least_bend = λ g admitted passes.
      le_cancel k (size_over f g) (size_over g f) p (rw (size_multiple f.q g.d k p, over_multiple (pos (unsigned_abs g.q)) f.d k) at (tight.least_bend g admitted passes));
  one_bend = λ g admitted passes e.
      same_cancel k (f.q *ℤ g.d) (g.q *ℤ f.d) p (sym (multiple_over f.q g.d k) ∙ tight.one_bend g admitted passes (size_multiple f.q g.d k p ∙ ap (λ (n : ℤ). k *ℤ n) e ∙ sym (over_multiple (pos (unsigned_abs g.q)) f.d k)) ∙ over_multiple g.q f.d k);
}

abbrev quadratic : ℤ → ℤ → ℤ → ℤ → Quadratic
quadratic p v q d = record { p = p; v = v; q = q; d = d }

same_coefficients : (p v q d p' v' q' d' : ℤ) → p ≡ p' → v ≡ v' → q ≡ q' → d ≡ d' → quadratic p v q d ≡ quadratic p' v' q' d'
same_coefficients p v q d p' v' q' d' a b c e = rw (a, b, c, e) refl

pub tight_lowered : (acc tol : ℤ) (xs : List Point) (f g : Quadratic) → IsLowered f g → IsTight acc tol xs f → IsTight acc tol xs g
tight_lowered acc tol xs f g is tight =
    let same : f ≡ multiple is.divisor g = same_coefficients f.p f.v f.q f.d (g.p *ℤ is.divisor) (g.v *ℤ is.divisor) (g.q *ℤ is.divisor) (g.d *ℤ is.divisor) (sym is.p_is) (sym is.v_is) (sym is.q_is) (sym is.d_is) in
    tight_multiple acc tol xs g is.divisor is.positive (subst (IsTight acc tol xs) same tight)
