use Rattle.std.proofs.Common.{◌≡◌, neg_ℤ, to_z, of_z, w64}
use Rattle.std.proofs.lemmas.Int.{to_z-of_z}
use Rattle.sky_math.specs.Lists.{EachTwo}
use Rattle.line_fit.specs.Lines.{per_tick}
use Rattle.line_fit.specs.Slopes.{IsNarrowed, Suits}
use Rattle.line_fit.proofs.Whole.{meets_exactly}
use Rattle.line_fit.proofs.lines.axis_fits.Goals as goal

pub returns : goal.returns
returns c =
    let tol : to_z w64 (of_z w64 c.args.tol) ≡ c.args.tol = to_z-of_z w64 c.args.tol c.ranges.tol in
    let rate : to_z w64 (of_z w64 c.args.rate) ≡ c.args.rate = to_z-of_z w64 c.args.rate c.ranges.rate in
    let low : c.of_rate.result.low ≡ per_tick (neg_ℤ c.args.rate) = rw rate at c.of_rate.ensures.low in
    let high : c.of_rate.result.high ≡ per_tick c.args.rate = rw rate at c.of_rate.ensures.high in
    let narrowed : IsNarrowed c.of_rate.result (λ a b. EachTwo (Suits c.args.axis c.args.tol a b) c.args.spots.now) c.narrow.result = rw tol at c.narrow.ensures in
    rw c.is_some.ensures (meets_exactly c.args.axis c.args.tol c.args.rate c.args.spots.now c.of_rate.result c.narrow.result c.requires.arc low high narrowed)
