use Rattle.std.proofs.Common.{◌≡◌, ◌<◌, pos, ◌-ℤ◌, ◌≤ℤ◌, ◌<ℤ◌, length, to_z, of_z, w64, arith}
use Rattle.std.specs.Prelude.{Some, None}
use Rattle.std.proofs.lemmas.Int.{to_z-of_z}
use Rattle.line_fit.specs.Lines.{least_slope, greatest_slope}
use Rattle.line_fit.specs.Slopes.{IsNarrowed}
use Rattle.line_fit.proofs.Steps.{SuitsUpTo, read_two, up_to_step, up_to_stop, up_to_all}
use Rattle.line_fit.proofs.narrowing.narrow_to.Goals as goal

pub of_two-requires-clause-later : goal.of_two-requires-clause-later
of_two-requires-clause-later c = read_two (λ x y. x.epoch <ℤ y.epoch) c.args.spots.now c.loop-i.i c.args.last c.index-spots-i.result c.index-spots-last.result c.loop-i-test.true c.requires.within c.index-spots-i.is c.index-spots-last.is c.requires.rising

pub of_two-requires-clause-day : goal.of_two-requires-clause-day
of_two-requires-clause-day c = read_two (λ x y. (y.epoch -ℤ x.epoch) ≤ℤ pos 1000000) c.args.spots.now c.loop-i.i c.args.last c.index-spots-i.result c.index-spots-last.result c.loop-i-test.true c.requires.within c.index-spots-i.is c.index-spots-last.is c.requires.day

pub returns-in_err-left : goal.returns-in_err-left
returns-in_err-left c =
    let tol : to_z w64 (of_z w64 c.args.tol) ≡ c.args.tol = to_z-of_z w64 c.args.tol c.ranges.tol in
    let seen : IsNarrowed c.args.slopes (SuitsUpTo c.args.axis c.args.tol c.args.spots.now c.args.last c.loop-i.i) (Some c.loop-i.left) = rw tol at c.loop-i.invariant in
    let low : c.of_two.result.low ≡ least_slope c.args.axis c.args.tol (c.index-spots-i.result, c.index-spots-last.result) = rw tol at c.of_two.ensures.low in
    let high : c.of_two.result.high ≡ greatest_slope c.args.axis c.args.tol (c.index-spots-i.result, c.index-spots-last.result) = rw tol at c.of_two.ensures.high in
    let inside : c.loop-i.i < length c.args.spots.now = omega (arith, c.requires.within, c.loop-i-test.true) in
    rw c.from_residual.ensures (up_to_stop c.args.axis c.args.tol c.args.spots.now c.args.last c.loop-i.i c.args.slopes c.loop-i-test.true
    (up_to_step c.args.axis c.args.tol c.args.spots.now c.args.last c.loop-i.i c.index-spots-i.result c.index-spots-last.result c.args.slopes c.loop-i.left c.of_two.result None
    inside c.requires.within c.index-spots-i.is c.index-spots-last.is low high seen c.in_err-left.ensures))

pub loop-i-preserved : goal.loop-i-preserved
loop-i-preserved c =
    let tol : to_z w64 (of_z w64 c.args.tol) ≡ c.args.tol = to_z-of_z w64 c.args.tol c.ranges.tol in
    let seen : IsNarrowed c.args.slopes (SuitsUpTo c.args.axis c.args.tol c.args.spots.now c.args.last c.loop-i.i) (Some c.loop-i.left) = rw tol at c.loop-i.invariant in
    let low : c.of_two.result.low ≡ least_slope c.args.axis c.args.tol (c.index-spots-i.result, c.index-spots-last.result) = rw tol at c.of_two.ensures.low in
    let high : c.of_two.result.high ≡ greatest_slope c.args.axis c.args.tol (c.index-spots-i.result, c.index-spots-last.result) = rw tol at c.of_two.ensures.high in
    let inside : c.loop-i.i < length c.args.spots.now = omega (arith, c.requires.within, c.loop-i-test.true) in
    rw tol (up_to_step c.args.axis c.args.tol c.args.spots.now c.args.last c.loop-i.i c.index-spots-i.result c.index-spots-last.result c.args.slopes c.loop-i.left c.of_two.result (Some c.in_ok-left.left)
    inside c.requires.within c.index-spots-i.is c.index-spots-last.is low high seen c.in_ok-left.ensures)

pub returns : goal.returns
returns c =
    let tol : to_z w64 (of_z w64 c.args.tol) ≡ c.args.tol = to_z-of_z w64 c.args.tol c.ranges.tol in
    let seen : IsNarrowed c.args.slopes (SuitsUpTo c.args.axis c.args.tol c.args.spots.now c.args.last c.loop-i.i) (Some c.loop-i.left) = rw tol at c.loop-i.invariant in
    up_to_all c.args.axis c.args.tol c.args.spots.now c.args.last c.loop-i.i c.args.slopes c.loop-i.left (omega arith) seen
