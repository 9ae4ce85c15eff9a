use Rattle.std.proofs.Common.{◌≡◌, neg_ℤ, true, rules, to_z, of_z, w64, arith}
use Rattle.std.proofs.lemmas.Int.{ints, to_z-of_z}
use Rattle.line_fit.specs.Lines.{per_tick}
use Rattle.line_fit.specs.Slopes.{Holds}
use Rattle.line_fit.proofs.Along.{meets_along}
use Rattle.line_fit.proofs.lines.lies_along.Goals as goal

pub returns : goal.returns
returns c = λ same.
    let rate : to_z w64 (of_z w64 c.args.rate) ≡ c.args.rate = to_z-of_z w64 c.args.rate c.ranges.rate in
    let low : c.of_rate.result.low ≡ per_tick (neg_ℤ c.args.rate) = rw rate at c.of_rate.ensures.low in
    let high : c.of_rate.result.high ≡ per_tick c.args.rate = rw rate at c.of_rate.ensures.high in
    let held : c.hold.result ≡ true = search rules in
    let among : Holds c.of_rate.result c.of_two-along.result.low.num c.of_two-along.result.low.den = c.hold.ensures held in
    let bounds = rw (low, high) at among in
    meets_along c.args.axis c.args.tol c.args.rate _ c.of_two-along.result.low.num c.of_two-along.result.low.den c.args.spots.now c.requires.arc c.of_two-along.ensures.filled.1 (let tol = c.requires.tol in omega (arith, ints)) (let tol = c.requires.tol in omega (arith, ints)) bounds.0 bounds.1 (c.are_near.ensures same)
