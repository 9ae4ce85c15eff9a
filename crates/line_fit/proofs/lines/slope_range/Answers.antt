use Rattle.std.proofs.Common.{◌≡◌, to_z, of_z, w64}
use Rattle.std.specs.Prelude.{Some, None}
use Rattle.std.proofs.lemmas.Int.{to_z-of_z}
use Rattle.sky_math.specs.Lists.{EachTwo}
use Rattle.sky_units.specs.FracData.{HaveOneValue}
use Rattle.line_fit.specs.Lines.{least_slope, greatest_slope}
use Rattle.line_fit.specs.Slopes.{IsNarrowed, Suits}
use Rattle.line_fit.proofs.SlopeRanges.{no_slope, slope_range_of}
use Rattle.line_fit.proofs.lines.slope_range.Goals as goal

pub returns-in_err-range : goal.returns-in_err-range
returns-in_err-range c =
    let tol : to_z w64 (of_z w64 c.args.tol) ≡ c.args.tol = to_z-of_z w64 c.args.tol c.ranges.tol in
    let low : c.of_two-widest.result.low ≡ least_slope c.args.axis c.args.tol (c.index-spots-0.result, c.index-spots-1.result) = rw tol at c.of_two-widest.ensures.low in
    let high : c.of_two-widest.result.high ≡ greatest_slope c.args.axis c.args.tol (c.index-spots-0.result, c.index-spots-1.result) = rw tol at c.of_two-widest.ensures.high in
    let narrowed : IsNarrowed c.of_two-widest.result (λ a b. EachTwo (Suits c.args.axis c.args.tol a b) c.args.spots.now) None = rw tol at c.in_err-range.ensures in
    rw c.from_residual.ensures (no_slope c.args.axis c.args.tol c.args.spots.now c.of_two-widest.result c.index-spots-0.result c.index-spots-1.result c.requires.arc c.requires.two c.index-spots-0.is c.index-spots-1.is low high narrowed)

pub returns : goal.returns
returns c =
    let tol : to_z w64 (of_z w64 c.args.tol) ≡ c.args.tol = to_z-of_z w64 c.args.tol c.ranges.tol in
    let low : c.of_two-widest.result.low ≡ least_slope c.args.axis c.args.tol (c.index-spots-0.result, c.index-spots-1.result) = rw tol at c.of_two-widest.ensures.low in
    let high : c.of_two-widest.result.high ≡ greatest_slope c.args.axis c.args.tol (c.index-spots-0.result, c.index-spots-1.result) = rw tol at c.of_two-widest.ensures.high in
    let narrowed : IsNarrowed c.of_two-widest.result (λ a b. EachTwo (Suits c.args.axis c.args.tol a b) c.args.spots.now) (Some c.in_ok-range.range) = rw tol at c.in_ok-range.ensures in
    let least = c.lowest_terms.ensures in
    let greatest = c.lowest_terms-2.ensures in
    let vl : HaveOneValue c.in_ok-range.range.low c.lowest_terms.result = rw c.fraction.ensures at least.value in
    let vh : HaveOneValue c.in_ok-range.range.high c.lowest_terms-2.result = rw c.fraction-2.ensures at greatest.value in
    slope_range_of c.args.axis c.args.tol c.args.spots.now c.of_two-widest.result c.in_ok-range.range c.index-spots-0.result c.index-spots-1.result c.lowest_terms.result c.lowest_terms-2.result c.requires.tol.from c.requires.arc c.requires.two c.index-spots-0.is c.index-spots-1.is low high narrowed vl least.lowest least.range vh greatest.lowest greatest.range
