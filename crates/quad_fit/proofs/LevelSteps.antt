-- The steps of an exchange, and where it ends.
use Rattle.std.proofs.Common.{◌≡◌, ℕ, ◌<◌, ℤ, pos, ◌*ℤ◌, ◌≤ℤ◌, ◌<ℤ◌, Bool, true, false, List, refl, sym, ◌∙◌, arith}
use Rattle.std.specs.Prelude.{IsTrue, ◌↔◌}
use Rattle.std.proofs.lemmas.Bool.{false≢true}
use Rattle.std.proofs.lemmas.Int.{ints}
use Rattle.std.specs.Int.RustNames.{unsigned_abs}
use borrow.Author.Differences.{same_in, product_is}
use Rattle.sky_math.proofs.Order.{linear, mul_le, mul_not_negative, le_cancel, lt_cancel}
use Rattle.sky_math.proofs.Ring.{ring, mul_comm, mul_neg}
use Rattle.sky_math.specs.Quadratics.{Point, Quadratic, IsAdmitted, IsWithin, Admits}
use Rattle.sky_math.specs.Triples.{stretch}
use Rattle.quad_fit.specs.Curves.{CurveData, quadratic_of, IsCurveData}
use Rattle.quad_fit.specs.Levels.{IsBent}
use Rattle.quad_fit.specs.References.{signed, least_bend, IsTripleOf, IsLevelled, IsLevelLine, AsksMoreBend, AsksMoreSlope}
use Rattle.quad_fit.specs.declared.references.Pair.{Pair}
use Rattle.quad_fit.specs.declared.references.Triple.{Triple}
use Rattle.quad_fit.proofs.Exchanges.{levelled_is_least, stretch_positive, suits_of}
use Rattle.quad_fit.proofs.Heights.{IsBounded, headroom, sinks}

-- three points and the curve that is levelled on them
pub record IsState (tol : ℤ) (up : Bool) (xs : List Point) (t : Triple) (c : CurveData) : Type 0 where
  pub is : IsTripleOf xs t
  pub levelled : IsLevelled tol up t c
  pub range : IsCurveData c

signed_size : (up : Bool) (n : ℤ) → unsigned_abs (signed up n) ≡ unsigned_abs n
signed_size true n = refl
signed_size false n = omega (arith, ints)

bounded : (up : Bool) (c : CurveData) → IsCurveData c → IsBounded (signed up c.bend) c.den
bounded up c r = let e = signed_size up c.bend in let b = r.bend_size in record { num = omega (arith, e, b); den = r.den_range }

den_positive : (c : CurveData) → IsCurveData c → pos 0 <ℤ c.den
den_positive c r = let d = r.den_range in omega (arith, ints)

-- the measure
abbrev pub bend_left : Bool → CurveData → ℕ
bend_left up c = headroom (signed up c.bend) c.den

pub bend_sinks : (tol : ℤ) (up : Bool) (xs : List Point) (t u : Triple) (c e : CurveData) → IsState tol up xs t c → AsksMoreBend tol up c u → IsLevelled tol up u e → IsCurveData e → bend_left up e < bend_left up c
bend_sinks tol up xs t u c e s asks l r =
    let a : (signed up c.bend *ℤ e.den) <ℤ (signed up e.bend *ℤ c.den) = rw (l.leads, l.over) asks in
    sinks (signed up c.bend) c.den (signed up e.bend) e.den (bounded up c s.range) (bounded up e r) a

-- more bend than some is some
pub still_bent : (tol : ℤ) (up : Bool) (xs : List Point) (t u : Triple) (c : CurveData) → IsState tol up xs t c → IsBent tol up t → IsTripleOf xs u → AsksMoreBend tol up c u → IsBent tol up u
still_bent tol up xs t u c s bent iu asks =
    let l = s.levelled.leads in
    let b : pos 0 <ℤ signed up c.bend = rw l bent in
    let n = mul_not_negative (signed up c.bend) (stretch u.first u.middle u.last) (omega (arith, linear, b)) (let p = stretch_positive u iu.is in omega (arith, linear, p)) in
    let z : c.den *ℤ pos 0 ≡ pos 0 = same_in _ _ (omega (arith, product_is c.den (pos 0))) in
    let m = mul_comm (least_bend tol up u) c.den in
    lt_cancel c.den (pos 0) (least_bend tol up u) (den_positive c s.range) (omega (arith, linear, n, z, m, asks))

keeps_limit : (k acc b q d e : ℤ) → pos 0 ≤ℤ k → pos 0 <ℤ d → pos 0 <ℤ e → (b *ℤ d) ≤ℤ (q *ℤ e) → (k *ℤ q) ≤ℤ (acc *ℤ d) → (k *ℤ b) ≤ℤ (acc *ℤ e)
keeps_limit k acc b q d e pk pd pe least most =
    let m1 = mul_le k (b *ℤ d) (q *ℤ e) pk least in
    let m2 = mul_le e (k *ℤ q) (acc *ℤ d) (omega (arith, linear, pe)) most in
    let e1 : k *ℤ (b *ℤ d) ≡ d *ℤ (k *ℤ b) = simp ring in
    let e2 : k *ℤ (q *ℤ e) ≡ e *ℤ (k *ℤ q) = simp ring in
    let e3 : e *ℤ (acc *ℤ d) ≡ d *ℤ (acc *ℤ e) = simp ring in
    le_cancel d (k *ℤ b) (acc *ℤ e) pd (omega (arith, linear, m1, m2, e1, e2, e3))

signed_limit : (up : Bool) (k bound q : ℤ) → IsWithin bound (k *ℤ q) → (k *ℤ signed up q) ≤ℤ bound
signed_limit true k bound q w = w.1
signed_limit false k bound q w = let e = mul_neg k q in omega (arith, linear, w, e)

limit_signed : (up : Bool) (k bound b : ℤ) → pos 0 ≤ℤ bound → pos 0 ≤ℤ (k *ℤ signed up b) → (k *ℤ signed up b) ≤ℤ bound → IsWithin bound (k *ℤ b)
limit_signed true k bound b p n h = (omega (arith, linear, p, n), h)
limit_signed false k bound b p n h = let e = mul_neg k b in (omega (arith, linear, h, e), omega (arith, linear, p, n, e))

-- what a bent triple asks for is admitted where any quadratic is
pub admitted_of : (acc tol : ℤ) (up : Bool) (xs : List Point) (t : Triple) (c : CurveData) → pos 0 ≤ℤ acc → IsState tol up xs t c → IsBent tol up t → Admits acc tol xs → IsAdmitted acc (quadratic_of c)
admitted_of acc tol up xs t c pa s bent w =
    let f : Quadratic = w.0 in
    let pd : pos 0 <ℤ f.d = w.1.0 in
    let pe = den_positive c s.range in
    let k : ℤ = pos 2000000000000 in
    let pk : pos 0 ≤ℤ k = omega (arith, ints) in
    let least = levelled_is_least tol f.q f.d up t c s.levelled (suits_of tol f xs t s.is w.2) in
    let most = signed_limit up k (acc *ℤ f.d) f.q w.1.1 in
    let l = s.levelled.leads in
    let b : pos 0 <ℤ signed up c.bend = rw l bent in
    let n = mul_not_negative k (signed up c.bend) pk (omega (arith, linear, b)) in
    let room = mul_not_negative acc c.den pa (omega (arith, linear, pe)) in
    (pe, limit_signed up k (acc *ℤ c.den) c.bend room n (keeps_limit k acc (signed up c.bend) (signed up f.q) f.d c.den pk pd pe least most))

pub not_admitted : (acc tol : ℤ) (up : Bool) (xs : List Point) (t : Triple) (c : CurveData) (test : Bool) → pos 0 ≤ℤ acc → IsState tol up xs t c → IsBent tol up t → test ≡ false → IsTrue test ↔ IsAdmitted acc (quadratic_of c) → ¬ Admits acc tol xs
not_admitted acc tol up xs t c test pa s bent e iff = λ w. let yes : test ≡ true = iff.1 (admitted_of acc tol up xs t c pa s bent w) in absurd (false≢true (sym e ∙ yes))

-- ---- lines
pub slope_sinks : (tol : ℤ) (pair next : Pair) (c e : CurveData) → IsCurveData c → AsksMoreSlope tol c next → IsLevelLine tol next e → IsCurveData e → headroom e.slope e.den < headroom c.slope c.den
slope_sinks tol pair next c e r asks l r' =
    let a : (c.slope *ℤ e.den) <ℤ (e.slope *ℤ c.den) = rw (l.leads, l.over) asks in
    sinks c.slope c.den e.slope e.den (record { num = r.slope_size; den = r.den_range }) (record { num = r'.slope_size; den = r'.den_range }) a

pub line_admitted : (acc tol : ℤ) (pair : Pair) (c : CurveData) → pos 0 ≤ℤ acc → IsLevelLine tol pair c → IsCurveData c → IsAdmitted acc (quadratic_of c)
line_admitted acc tol pair c pa l r =
    let pe = den_positive c r in
    let room = mul_not_negative acc c.den pa (omega (arith, linear, pe)) in
    let s = l.straight in
    let z : pos 2000000000000 *ℤ c.bend ≡ pos 0 = rw s refl in
    (pe, (omega (arith, linear, room, z), omega (arith, linear, room, z)))
