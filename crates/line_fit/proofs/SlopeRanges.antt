-- The least and the greatest slope of the lines near some spots.
use Rattle.std.proofs.Common.{◌≡◌, ◌≤◌, ℤ, pos, ◌-ℤ◌, ◌*ℤ◌, ◌≤ℤ◌, ◌<ℤ◌, List, length, get_or, refl, arith}
use Rattle.std.specs.Prelude.{Some, None}
use Rattle.std.proofs.lemmas.Int.{ints}
use Rattle.sky_math.proofs.Lines.{at_most_chain}
use Rattle.sky_math.proofs.Order.{linear}
use Rattle.sky_math.specs.Lists.{EachTwo}
use Rattle.sky_units.specs.Arcs.{HaveRisingEpochs, IsArc}
use Rattle.sky_units.specs.FracData.{FracData, HaveOneValue, IsFrac, IsInLowestTerms}
use Rattle.sky_units.specs.SpotData.{SpotData}
use Rattle.sky_units.specs.declared.axis.Axis.{Axis}
use Rattle.line_fit.specs.Lines.{least_slope, greatest_slope}
use Rattle.line_fit.specs.Slopes.{HasSlope, NoSlope, IsSlopeRange, IsNarrowed, Suits}
use Rattle.line_fit.specs.declared.slopes.Slopes.{Slopes}
use Rattle.line_fit.proofs.Bounds.{holds_low, holds_high}
use Rattle.line_fit.proofs.Steps.{read_two}
use Rattle.line_fit.proofs.Tells.{line_of_slope, suits_of_line}

-- two spellings of one slope suit the same spots
suits_same : (axis : Axis) (tol a b c d : ℤ) (x y : SpotData) → x.epoch <ℤ y.epoch → pos 0 <ℤ b → pos 0 <ℤ d → a *ℤ d ≡ c *ℤ b → Suits axis tol a b x y → Suits axis tol c d x y
suits_same axis tol a b c d x y later p q e s =
    let l : FracData = least_slope axis tol (x, y) in
    let h : FracData = greatest_slope axis tol (x, y) in
    let m : pos 0 <ℤ (y.epoch -ℤ x.epoch) = omega (arith, ints) in
    (at_most_chain l.num l.den a b c d m p q s.0 (omega (arith, linear, e)), at_most_chain c d a b h.num h.den q p m (omega (arith, linear, e)) s.1)

all_same : (axis : Axis) (tol a b c d : ℤ) (spots : List SpotData) → HaveRisingEpochs spots → pos 0 <ℤ b → pos 0 <ℤ d → a *ℤ d ≡ c *ℤ b → EachTwo (Suits axis tol a b) spots → EachTwo (Suits axis tol c d) spots
all_same axis tol a b c d spots rise p q e s = λ i j u ij jn. suits_same axis tol a b c d (get_or spots i u) (get_or spots j u) (rise i j u ij jn) p q e (s i j u ij jn)

slope_of_suits : (axis : Axis) (tol a b : ℤ) (spots : List SpotData) → pos 0 ≤ℤ tol → pos 0 <ℤ b → IsArc spots → EachTwo (Suits axis tol a b) spots → HasSlope axis tol spots a b
slope_of_suits axis tol a b spots t p arc s =
    let l = line_of_slope axis tol a b spots t p arc.spread s in
    (record { p = l.p; v = a; d = b }, p, refl, l.near)

suits_of_slope : (axis : Axis) (tol a b : ℤ) (spots : List SpotData) → pos 0 <ℤ b → IsArc spots → HasSlope axis tol spots a b → EachTwo (Suits axis tol a b) spots
suits_of_slope axis tol a b spots p arc w = all_same axis tol w.0.v w.0.d a b spots arc.rising w.1 p w.2 (suits_of_line axis tol w.0 spots arc.spread w.3)

-- what suits each two suits the first two as read
first_two : (axis : Axis) (tol a b : ℤ) (spots : List SpotData) (x y : SpotData) → 2 ≤ length spots → x ≡ get_or spots 0 x → y ≡ get_or spots 1 y → EachTwo (Suits axis tol a b) spots → Suits axis tol a b x y
first_two axis tol a b spots x y two ex ey s = read_two (Suits axis tol a b) spots 0 1 x y (omega arith) (omega arith) ex ey s

pub no_slope : (axis : Axis) (tol : ℤ) (spots : List SpotData) (widest : Slopes) (x y : SpotData) → IsArc spots → 2 ≤ length spots → x ≡ get_or spots 0 x → y ≡ get_or spots 1 y →
    widest.low ≡ least_slope axis tol (x, y) → widest.high ≡ greatest_slope axis tol (x, y) → IsNarrowed widest (λ a b. EachTwo (Suits axis tol a b) spots) None → NoSlope axis tol spots
no_slope axis tol spots widest x y arc two ex ey el eh n = λ f p near.
    let s = suits_of_line axis tol f spots arc.spread near in
    n f.v f.d p (rw (el, eh) (first_two axis tol f.v f.d spots x y two ex ey s)) s

pub slope_range_of : (axis : Axis) (tol : ℤ) (spots : List SpotData) (widest r : Slopes) (x y : SpotData) (low high : FracData) → pos 0 ≤ℤ tol → IsArc spots → 2 ≤ length spots → x ≡ get_or spots 0 x → y ≡ get_or spots 1 y →
    widest.low ≡ least_slope axis tol (x, y) → widest.high ≡ greatest_slope axis tol (x, y) → IsNarrowed widest (λ a b. EachTwo (Suits axis tol a b) spots) (Some r) →
    HaveOneValue r.low low → IsInLowestTerms low → IsFrac low.num low.den → HaveOneValue r.high high → IsInLowestTerms high → IsFrac high.num high.den → IsSlopeRange axis tol spots low high
slope_range_of axis tol spots widest r x y low high t arc two ex ey el eh n vl ll fl vh lh fh =
    let pl : pos 0 <ℤ low.den = omega (arith, linear, fl.den_in_range.from) in
    let ph : pos 0 <ℤ high.den = omega (arith, linear, fh.den_in_range.from) in
    let one_low = ((n.1 r.low.num r.low.den n.0.1).0 (holds_low r n.0)).1 in
    let one_high = ((n.1 r.high.num r.high.den n.0.2).0 (holds_high r n.0)).1 in
    record {
      low_is_one = slope_of_suits axis tol low.num low.den spots t pl arc (all_same axis tol r.low.num r.low.den low.num low.den spots arc.rising n.0.1 pl vl one_low);
      low_is_least = λ a b p w.
          let s = suits_of_slope axis tol a b spots p arc w in
          let h = (n.1 a b p).1 (rw (el, eh) (first_two axis tol a b spots x y two ex ey s), s) in
          at_most_chain low.num low.den r.low.num r.low.den a b pl n.0.1 p (omega (arith, linear, vl)) h.0;
      low_is_lowest = ll;
      high_is_one = slope_of_suits axis tol high.num high.den spots t ph arc (all_same axis tol r.high.num r.high.den high.num high.den spots arc.rising n.0.2 ph vh one_high);
      high_is_greatest = λ a b p w.
          let s = suits_of_slope axis tol a b spots p arc w in
          let h = (n.1 a b p).1 (rw (el, eh) (first_two axis tol a b spots x y two ex ey s), s) in
          at_most_chain a b r.high.num r.high.den high.num high.den p n.0.2 ph h.1 (omega (arith, linear, vh));
      high_is_lowest = lh;
    }
