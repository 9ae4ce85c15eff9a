-- An axis admits points exactly where some coefficient is left once the interval of the acceleration is narrowed by all triples.
use Rattle.std.proofs.Common.{◌≡◌, ◌<◌, ℤ, pos, ◌*ℤ◌, ◌≤ℤ◌, ◌↔◌, List, length, refl, arith}
use Rattle.std.specs.Prelude.{Option, Some, None, IsTrue, is_some, []}
use Rattle.std.proofs.lemmas.Bool.{false≢true}
use borrow.Author.Differences.{same_in, product_is}
use Rattle.sky_math.proofs.Coefficients.{admits_of_suits, suits_all_of_passes}
use Rattle.sky_math.proofs.Order.{linear}
use Rattle.sky_math.specs.Lists.{EachThree}
use Rattle.sky_math.specs.Quadratics.{Point, IsWithin, Admits}
use Rattle.sky_math.specs.Triples.{Suits}
use Rattle.quad_fit.proofs.Intervals.{Interval, Holds, HoldsExactly, IsFilled, IsNarrowed}
use Rattle.quad_fit.specs.MarkRanges.{RiseInTime}

-- a filled interval holds its own lower end
pub holds_low : (r : Interval) → IsFilled r → Holds r r.low.num r.low.den
holds_low r f = (omega (arith, linear), f.0)

pub admitted_exactly : (acc tol : ℤ) (xs : List Point) (limit : Interval) (result : Option Interval) → pos 0 ≤ℤ tol → RiseInTime xs →
    HoldsExactly (λ a b. IsWithin (acc *ℤ b) (pos 2000000000000 *ℤ a)) limit → IsNarrowed limit (λ a b. EachThree (Suits tol a b) xs) result → IsTrue (is_some result) ↔ Admits acc tol xs
admitted_exactly acc tol xs limit None t rise exact n =
    (λ h. absurd (false≢true h), λ w. absurd (n w.0.q w.0.d w.1.0 ((exact w.0.q w.0.d w.1.0).1 w.1.1) (suits_all_of_passes tol w.0 xs rise w.2)))
admitted_exactly acc tol xs limit (Some r) t rise exact n =
    let low = (n.1 r.low.num r.low.den n.0.1).0 (holds_low r n.0) in
    let within = (exact r.low.num r.low.den n.0.1).0 low.0 in
    (λ h. admits_of_suits acc tol r.low.num r.low.den xs t n.0.1 within rise low.1, λ w. refl)

-- fewer than two points are admitted
pub few_admitted : (acc tol : ℤ) (xs : List Point) → pos 0 ≤ℤ acc → pos 0 ≤ℤ tol → length xs < 2 → Admits acc tol xs
few_admitted acc tol xs p t few =
    let one : acc *ℤ pos 1 ≡ acc = same_in _ _ (omega (arith, product_is acc (pos 1))) in
    admits_of_suits acc tol (pos 0) (pos 1) xs t (omega (arith, linear)) (rw one (omega (arith, linear), omega (arith, linear))) (λ i j d ij jn. absurd (omega arith)) (λ i j k d ij jk kn. absurd (omega arith))

-- no points at all are admitted
pub none_admitted : (acc tol : ℤ) → pos 0 ≤ℤ acc → Admits acc tol []
none_admitted acc tol p =
    let one : acc *ℤ pos 1 ≡ acc = same_in _ _ (omega (arith, product_is acc (pos 1))) in
    (record { p = pos 0; v = pos 0; q = pos 0; d = pos 1 }, (omega (arith, linear), rw one (omega (arith, linear), omega (arith, linear))), λ k d h. absurd (omega arith))
