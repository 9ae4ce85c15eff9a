-- The two extreme curves tell the range of the leading coefficients.
use Rattle.std.proofs.Common.{◌≡◌, ℤ, pos, neg_ℤ, ◌*ℤ◌, ◌≤ℤ◌, ◌<ℤ◌, true, false, List, arith}
use Rattle.sky_math.proofs.Coefficients.{suits_all_of_passes, suits_all_same, passes_with_of_suits, suits_of_passes_with}
use Rattle.sky_math.proofs.Order.{linear}
use Rattle.sky_math.proofs.Ring.{neg_mul}
use Rattle.sky_math.specs.Lists.{EachThree}
use Rattle.sky_math.specs.Quadratics.{Point, PassesWith}
use Rattle.sky_math.specs.Triples.{Suits}
use Rattle.sky_units.specs.Coefficients.{IsCoefficientRange}
use Rattle.sky_units.specs.FracData.{FracData, IsFrac, HaveOneValue, IsInLowestTerms, frac_data}
use Rattle.sky_units.specs.Motion.{points}
use Rattle.sky_units.specs.SpotData.{SpotData}
use Rattle.sky_units.specs.declared.axis.Axis.{Axis}
use Rattle.quad_fit.specs.Curves.{CurveData, quadratic_of}
use Rattle.quad_fit.specs.Levels.{IsExtreme}
use Rattle.quad_fit.specs.MarkRanges.{RiseInTime}
use Rattle.quad_fit.proofs.Ends.{at_most_of_lower, at_least_of_higher, positive_from}
use Rattle.quad_fit.proofs.Intervals.{IsAtMost, IsAtLeast}

-- a fraction of the same value bounds the same
same_low : (f g : FracData) (a b : ℤ) → HaveOneValue f g → pos 0 <ℤ f.den → pos 0 <ℤ g.den → pos 0 <ℤ b → IsAtMost f a b → IsAtMost g a b
same_low f g a b e p q r h = at_most_of_lower g f a b q p r (omega (arith, linear, e)) h

same_high : (f g : FracData) (a b : ℤ) → HaveOneValue f g → pos 0 <ℤ f.den → pos 0 <ℤ g.den → pos 0 <ℤ b → IsAtLeast f a b → IsAtLeast g a b
same_high f g a b e p q r h = at_least_of_higher g f a b q p r (omega (arith, linear, e)) h

-- what suits at a fraction is the coefficient of some quadratic at a fraction of the same value
leads_same : (tol : ℤ) (xs : List Point) (f g : FracData) → pos 0 ≤ℤ tol → RiseInTime xs → HaveOneValue f g → pos 0 <ℤ f.den → pos 0 <ℤ g.den → EachThree (Suits tol f.num f.den) xs → PassesWith tol g.num g.den xs
leads_same tol xs f g t rise e p q suits = passes_with_of_suits tol g.num g.den xs t q rise (suits_all_same tol f.num f.den g.num g.den xs p q e suits)

pub range_of_extremes : (axis : Axis) (tol : ℤ) (spots : List SpotData) (c e : CurveData) (f g low high : FracData) → pos 0 ≤ℤ tol → RiseInTime (points axis spots) →
    IsExtreme tol true (points axis spots) c → IsExtreme tol false (points axis spots) e → f ≡ frac_data c.bend c.den → g ≡ frac_data e.bend e.den → IsFrac f.num f.den → IsFrac g.num g.den →
    HaveOneValue f low → IsInLowestTerms low → IsFrac low.num low.den → HaveOneValue g high → IsInLowestTerms high → IsFrac high.num high.den →
    IsCoefficientRange axis tol spots low high
range_of_extremes axis tol spots c e f g low high t rise xc xe ef eg hf hg el ll fl eh lh fh =
    let xs : List Point = points axis spots in
    let pf : pos 0 <ℤ f.den = positive_from f.num f.den hf in
    let pg : pos 0 <ℤ g.den = positive_from g.num g.den hg in
    let pl : pos 0 <ℤ low.den = positive_from low.num low.den fl in
    let ph : pos 0 <ℤ high.den = positive_from high.num high.den fh in
    let sc : EachThree (Suits tol f.num f.den) xs = rw ef (suits_all_of_passes tol (quadratic_of c) xs rise xc.passes) in
    let se : EachThree (Suits tol g.num g.den) xs = rw eg (suits_all_of_passes tol (quadratic_of e) xs rise xe.passes) in
    record {
      low_is_one = leads_same tol xs f low t rise el pf pl sc;
      low_is_least = λ a b p w. let m : IsAtMost f a b = rw ef (xc.is_extreme a b p (suits_of_passes_with tol a b xs p rise w)) in same_low f low a b el pf pl p m;
      low_is_lowest = ll;
      high_is_one = leads_same tol xs g high t rise eh pg ph se;
      high_is_greatest = λ a b p w. let m : IsAtLeast g a b = rw eg (turned e.bend e.den a b (xe.is_extreme a b p (suits_of_passes_with tol a b xs p rise w))) in same_high g high a b eh pg ph p m;
      high_is_lowest = lh;
    }
  where
    turned : (n d a b : ℤ) → (neg_ℤ n *ℤ b) ≤ℤ (neg_ℤ a *ℤ d) → (a *ℤ d) ≤ℤ (n *ℤ b)
    turned n d a b h = let e = neg_mul n b in let k = neg_mul a d in omega (arith, linear, h, e, k)
