-- A curve at which the exchange ended is tight.
use Rattle.std.proofs.Common.{◌≡◌, ◌∙◌, ℤ, pos, neg_ℤ, ◌*ℤ◌, ◌≤ℤ◌, ◌<ℤ◌, Bool, true, false, List, refl, sym, ap, arith}
use Rattle.std.specs.Int.RustNames.{unsigned_abs}
use Rattle.std.specs.List.{All}
use Rattle.std.proofs.lemmas.Int.{ints}
use Rattle.sky_math.proofs.Order.{linear, mul_le, mul_not_negative}
use Rattle.sky_math.proofs.Ring.{mul_comm, neg_mul}
use Rattle.sky_math.specs.Quadratics.{IsAdmitted, Passes, Point, Quadratic, residual}
use Rattle.quad_fit.specs.Curves.{CurveData, quadratic_of}
use Rattle.quad_fit.specs.Levels.{IsBent, IsLevel, RestsOn}
use Rattle.quad_fit.specs.References.{signed, IsLevelled, IsLevelLine, IsPairOf, IsTripleOf}
use Rattle.quad_fit.specs.declared.levelling.Levelled.{Levelled}
use Rattle.quad_fit.specs.declared.levelling.Reference.{Reference}
use Rattle.quad_fit.specs.declared.levelling.Reference.TheVariants.{Pair, Triple}
use Rattle.quad_fit.specs.declared.references.Pair as two
use Rattle.quad_fit.specs.declared.references.Triple as three
use Rattle.quad_fit.proofs.Exchanges.{levelled_is_least, suits_of}
use Rattle.quad_fit.proofs.Tight.{IsTight, none_left, same_cancel, size_over}

-- ---- a line
flat_least : (q r d e : ℤ) → q ≡ pos 0 → pos 0 <ℤ d → (pos (unsigned_abs q) *ℤ e) ≤ℤ (pos (unsigned_abs r) *ℤ d)
flat_least q r d e z p =
    let n : pos (unsigned_abs q) ≡ pos 0 = omega (arith, ints) in
    let l = none_left (pos (unsigned_abs q)) e n in
    let m = mul_not_negative (pos (unsigned_abs r)) d (omega (arith, ints)) (omega (arith, linear, p)) in
    omega (arith, linear, l, m)

no_size : (r : ℤ) → pos (unsigned_abs r) ≤ℤ pos 0 → r ≡ pos 0
no_size r h = omega (arith, ints)

flat_one : (q r d e : ℤ) → q ≡ pos 0 → pos 0 <ℤ d → pos (unsigned_abs q) *ℤ e ≡ pos (unsigned_abs r) *ℤ d → q *ℤ e ≡ r *ℤ d
flat_one q r d e z p h =
    let n : pos (unsigned_abs q) ≡ pos 0 = omega (arith, ints) in
    let l = none_left (pos (unsigned_abs q)) e n in
    let c : d *ℤ pos (unsigned_abs r) ≡ d *ℤ pos 0 = mul_comm d (pos (unsigned_abs r)) ∙ sym h ∙ l ∙ sym (none_left (pos 0) d refl) ∙ mul_comm (pos 0) d in
    let s : pos (unsigned_abs r) ≡ pos 0 = same_cancel d (pos (unsigned_abs r)) (pos 0) p c in
    let k : r ≡ pos 0 = no_size r (omega (arith, linear, s)) in
    none_left q e z ∙ sym (none_left r d k)

tight_line : (acc tol : ℤ) (xs : List Point) (c : CurveData) (pair : two.Pair) → IsAdmitted acc (quadratic_of c) → All (Passes tol (quadratic_of c)) xs → IsPairOf xs pair → IsLevelLine tol pair c → IsTight acc tol xs (quadratic_of c)
tight_line acc tol xs c pair admitted passes is level = record {
  admitted = admitted;
  passes = passes;
  first = pair.first;
  last = pair.last;
  has_first = is.has_first;
  has_last = is.has_last;
  before = is.before;
  at_first = level.at_first;
  at_last = level.at_last;
  least_bend = λ g good all. flat_least c.bend g.q c.den g.d level.straight admitted.0;
  one_bend = λ g good all. flat_one c.bend g.q c.den g.d level.straight admitted.0;
}

-- ---- a curve that bends
signed_size : (up : Bool) (x : ℤ) → pos 0 <ℤ signed up x → pos (unsigned_abs x) ≡ signed up x
signed_size true x h = omega (arith, ints)
signed_size false x h = omega (arith, ints)

signed_most : (up : Bool) (x : ℤ) → signed up x ≤ℤ pos (unsigned_abs x)
signed_most true x = omega (arith, ints)
signed_most false x = omega (arith, ints)

bent_chain : (s t a b d e : ℤ) → pos 0 <ℤ d → a ≡ s → t ≤ℤ b → (s *ℤ e) ≤ℤ (t *ℤ d) → ((a *ℤ e) ≤ℤ (b *ℤ d)) × (a *ℤ e ≡ b *ℤ d → s *ℤ e ≡ t *ℤ d)
bent_chain s t a b d e p es most h =
    let m = mul_le d t b (omega (arith, linear, p)) most in
    let x = mul_comm d t in
    let y = mul_comm d b in
    let z : a *ℤ e ≡ s *ℤ e = ap (λ (n : ℤ). n *ℤ e) es in
    (omega (arith, linear, m, x, y, z, h), λ same. omega (arith, linear, m, x, y, z, h, same))

unsigned : (up : Bool) (q r d e : ℤ) → signed up q *ℤ e ≡ signed up r *ℤ d → q *ℤ e ≡ r *ℤ d
unsigned true q r d e h = h
unsigned false q r d e h = let a = neg_mul q e in let b = neg_mul r d in omega (arith, linear, a, b, h)

-- the two marks of a triple between which the residual falls
record Falls (tol : ℤ) (xs : List Point) (c : CurveData) : Type 0 where
  pub first : Point
  pub last : Point
  pub pair : IsPairOf xs (record { first = first; last = last })
  pub at_first : residual (quadratic_of c) first ≡ tol *ℤ c.den
  pub at_last : residual (quadratic_of c) last ≡ neg_ℤ (tol *ℤ c.den)

falls : (tol : ℤ) (up : Bool) (xs : List Point) (c : CurveData) (t : three.Triple) → IsTripleOf xs t → IsLevelled tol up t c → Falls tol xs c
falls tol true xs c t is level = record {
  first = t.middle;
  last = t.last;
  pair = record { before = is.is.after; has_first = is.has_middle; has_last = is.has_last };
  at_first = level.at_middle;
  at_last = level.at_last;
}
falls tol false xs c t is level =
    let f = level.at_first in
    let m = level.at_middle in
    record {
      first = t.first;
      last = t.middle;
      pair = record { before = is.is.before; has_first = is.has_first; has_last = is.has_middle };
      at_first = omega (arith, linear, f);
      at_last = omega (arith, linear, m);
    }

tight_curve : (acc tol : ℤ) (up : Bool) (xs : List Point) (c : CurveData) (t : three.Triple) → IsAdmitted acc (quadratic_of c) → All (Passes tol (quadratic_of c)) xs → IsTripleOf xs t → IsBent tol up t → IsLevelled tol up t c → IsTight acc tol xs (quadratic_of c)
tight_curve acc tol up xs c t admitted passes is bent level =
    let ends = falls tol up xs c t is level in
    let some : pos 0 <ℤ signed up c.bend = rw level.leads bent in
    let chain : (g : Quadratic) → All (Passes tol g) xs → (size_over (quadratic_of c) g ≤ℤ size_over g (quadratic_of c)) × (size_over (quadratic_of c) g ≡ size_over g (quadratic_of c) → signed up c.bend *ℤ g.d ≡ signed up g.q *ℤ c.den) =
    λ g all. bent_chain (signed up c.bend) (signed up g.q) (pos (unsigned_abs c.bend)) (pos (unsigned_abs g.q)) c.den g.d admitted.0 (signed_size up c.bend some) (signed_most up g.q)
    (levelled_is_least tol g.q g.d up t c level (suits_of tol g xs t is all)) in
    record {
      admitted = admitted;
      passes = passes;
      first = ends.first;
      last = ends.last;
      has_first = ends.pair.has_first;
      has_last = ends.pair.has_last;
      before = ends.pair.before;
      at_first = ends.at_first;
      at_last = ends.at_last;
      least_bend = λ g good all. (chain g all).0;
      one_bend = λ g good all same. unsigned up c.bend g.q c.den g.d ((chain g all).1 same);
    }

-- ---- both
tight_rests : (acc tol : ℤ) (xs : List Point) (c : CurveData) (r : Reference) → IsAdmitted acc (quadratic_of c) → All (Passes tol (quadratic_of c)) xs → RestsOn tol xs c r → IsTight acc tol xs (quadratic_of c)
tight_rests acc tol xs c (Pair pair) admitted passes is = tight_line acc tol xs c pair admitted passes is.0 is.1
tight_rests acc tol xs c (Triple t up) admitted passes is = tight_curve acc tol up xs c t admitted passes is.0 is.1 is.2

pub tight_level : (acc tol : ℤ) (xs : List Point) (l : Levelled) → IsLevel acc tol xs l → IsTight acc tol xs (quadratic_of l.curve)
tight_level acc tol xs l is = tight_rests acc tol xs l.curve l.reference is.admitted is.passes is.rests
