-- What three points ask of a leading coefficient, as two fractions.
use Rattle.std.proofs.Common.{ℤ, pos, neg_ℤ, ◌+ℤ◌, ◌-ℤ◌, ◌*ℤ◌, ◌≤ℤ◌, ◌<ℤ◌, List, get_or, arith}
use Rattle.std.proofs.lemmas.Int.{by_lt_z}
use Rattle.sky_math.proofs.Coefficients.{admits_of_suits}
use Rattle.sky_math.proofs.Lines.{at_most_chain}
use Rattle.sky_math.proofs.Order.{linear, mul_not_negative, mul_positive}
use Rattle.sky_math.proofs.Ring.{neg_mul}
use Rattle.sky_math.specs.Lists.{EachThree}
use Rattle.sky_math.specs.Quadratics.{Point, IsWithin, Admits}
use Rattle.sky_math.specs.Triples.{Suits, bend, slack, stretch}
use Rattle.sky_units.specs.FracData.{FracData}
use Rattle.quad_fit.specs.MarkRanges.{RiseInTime}
use Rattle.quad_fit.proofs.Ends.{ends_of_suits, suits_of_ends, within_of_ends, ends_of_within}
use Rattle.refusal_cert.specs.Coefficients.{IsAtMost, KeepsLimit, coefficient_of}

-- the quotient a/b
abbrev pub over : ℤ → ℤ → FracData
over a b = record { num = a; den = b }

-- the least and the greatest coefficient that suits three points
abbrev pub least : ℤ → Point → Point → Point → FracData
least tol x y z = record { num = bend x y z -ℤ slack tol x z; den = stretch x y z }

abbrev pub greatest : ℤ → Point → Point → Point → FracData
greatest tol x y z = record { num = bend x y z +ℤ slack tol x z; den = stretch x y z }

pub chain : (f g h : FracData) → pos 0 <ℤ f.den → pos 0 <ℤ g.den → pos 0 <ℤ h.den → IsAtMost f g → IsAtMost g h → IsAtMost f h
chain f g h pf pg ph one other = at_most_chain f.num f.den g.num g.den h.num h.den pf pg ph one other

pub suits_from : (tol a b : ℤ) (x y z : Point) → IsAtMost (least tol x y z) (over a b) → IsAtMost (over a b) (greatest tol x y z) → Suits tol a b x y z
suits_from tol a b x y z low high = suits_of_ends (bend x y z) (slack tol x z) (stretch x y z) a b low high

pub ends_from : (tol a b : ℤ) (x y z : Point) → Suits tol a b x y z → IsAtMost (least tol x y z) (over a b) × IsAtMost (over a b) (greatest tol x y z)
ends_from tol a b x y z s = ends_of_suits (bend x y z) (slack tol x z) (stretch x y z) a b s

pub stretch_above : (x y z : Point) → x.time <ℤ y.time → y.time <ℤ z.time → pos 0 <ℤ stretch x y z
stretch_above x y z xy yz =
    let two = mul_positive (y.time -ℤ x.time) (z.time -ℤ y.time) (omega (arith, linear)) (omega (arith, linear)) in
    mul_positive ((y.time -ℤ x.time) *ℤ (z.time -ℤ y.time)) (z.time -ℤ x.time) two (omega (arith, linear))

-- the quotient keeps the limit of acceleration exactly where it lies between the limit's two coefficients
pub limits_from : (acc a b : ℤ) → IsWithin (acc *ℤ b) (pos 2000000000000 *ℤ a) → IsAtMost (coefficient_of (neg_ℤ acc)) (over a b) × IsAtMost (over a b) (coefficient_of acc)
limits_from acc a b w = ends_of_within acc a b w

pub within_from : (acc a b : ℤ) → IsAtMost (coefficient_of (neg_ℤ acc)) (over a b) → IsAtMost (over a b) (coefficient_of acc) → IsWithin (acc *ℤ b) (pos 2000000000000 *ℤ a)
within_from acc a b low high = within_of_ends acc a b low high

-- a limit is kept by its own lower end
lowest_kept : (acc : ℤ) → pos 0 ≤ℤ acc → IsAtMost (coefficient_of (neg_ℤ acc)) (coefficient_of acc)
lowest_kept acc p =
    let n = mul_not_negative acc (pos 2000000000000) p (omega (arith, linear)) in
    let m = neg_mul acc (pos 2000000000000) in
    omega (arith, linear, n, m)

-- each three points leave some coefficient of the limit
abbrev pub EachKeepsLimit : ℤ → ℤ → List Point → Type 0
EachKeepsLimit acc tol = EachThree (λ x y z. KeepsLimit acc (least tol x y z) (greatest tol x y z))

-- a coefficient at most the limit suits all points: then they are admitted, by it or by the lower end of the limit
pub admits_from : (acc tol a b : ℤ) (xs : List Point) → pos 0 ≤ℤ acc → pos 0 ≤ℤ tol → pos 0 <ℤ b → RiseInTime xs → EachThree (Suits tol a b) xs → IsAtMost (over a b) (coefficient_of acc) → EachKeepsLimit acc tol xs → Admits acc tol xs
admits_from acc tol a b xs pa pt pb rise suits most keeps = by_lt_z (a *ℤ pos 2000000000000) (neg_ℤ acc *ℤ b)
    (λ l. admits_of_suits acc tol (neg_ℤ acc) (pos 2000000000000) xs pt (omega (arith, linear))
    (within_from acc (neg_ℤ acc) (pos 2000000000000) (omega (arith, linear)) (lowest_kept acc pa)) rise
    (λ i j k d ij jk kn.
    let x : Point = get_or xs i d in
    let y : Point = get_or xs j d in
    let z : Point = get_or xs k d in
    let e = ends_from tol a b x y z (suits i j k d ij jk kn) in
    let k' = keeps i j k d ij jk kn in
    let ps = stretch_above x y z (rise i j d ij (omega arith)) (rise j k d jk kn) in
    suits_from tol (neg_ℤ acc) (pos 2000000000000) x y z
    (chain (least tol x y z) (over a b) (coefficient_of (neg_ℤ acc)) ps pb (omega (arith, linear)) e.0 (omega (arith, linear, l))) k'.1))
    (λ l. admits_of_suits acc tol a b xs pt pb (within_from acc a b l most) rise suits)
