use Rattle.std.proofs.Common.{◌≡◌, to_z, of_z, w64, arith}
use Rattle.std.specs.Prelude.{Some, None}
use Rattle.std.proofs.lemmas.Int.{to_z-of_z}
use Rattle.line_fit.specs.Slopes.{IsNarrowed, SuitsEarlier}
use Rattle.line_fit.proofs.Steps.{SuitsBelow, below_step, below_stop, below_all}
use Rattle.line_fit.proofs.narrowing.narrow.Goals as goal

pub returns-in_err-left : goal.returns-in_err-left
returns-in_err-left c =
    let tol : to_z w64 (of_z w64 c.args.tol) ≡ c.args.tol = to_z-of_z w64 c.args.tol c.ranges.tol in
    let seen : IsNarrowed c.args.slopes (SuitsBelow c.args.axis c.args.tol c.args.spots.now c.loop-last.last) (Some c.loop-last.left) = rw tol at c.loop-last.invariant in
    let step : IsNarrowed c.loop-last.left (SuitsEarlier c.args.axis c.args.tol c.args.spots.now c.loop-last.last) None = rw tol at c.in_err-left.ensures in
    rw c.from_residual.ensures (below_stop c.args.axis c.args.tol c.args.spots.now c.loop-last.last c.args.slopes c.loop-last-test.true
    (below_step c.args.axis c.args.tol c.args.spots.now c.loop-last.last c.args.slopes c.loop-last.left None seen step))

pub loop-last-preserved : goal.loop-last-preserved
loop-last-preserved c =
    let tol : to_z w64 (of_z w64 c.args.tol) ≡ c.args.tol = to_z-of_z w64 c.args.tol c.ranges.tol in
    let seen : IsNarrowed c.args.slopes (SuitsBelow c.args.axis c.args.tol c.args.spots.now c.loop-last.last) (Some c.loop-last.left) = rw tol at c.loop-last.invariant in
    let step : IsNarrowed c.loop-last.left (SuitsEarlier c.args.axis c.args.tol c.args.spots.now c.loop-last.last) (Some c.in_ok-left.left) = rw tol at c.in_ok-left.ensures in
    rw tol (below_step c.args.axis c.args.tol c.args.spots.now c.loop-last.last c.args.slopes c.loop-last.left (Some c.in_ok-left.left) seen step)

pub returns : goal.returns
returns c =
    let tol : to_z w64 (of_z w64 c.args.tol) ≡ c.args.tol = to_z-of_z w64 c.args.tol c.ranges.tol in
    let seen : IsNarrowed c.args.slopes (SuitsBelow c.args.axis c.args.tol c.args.spots.now c.loop-last.last) (Some c.loop-last.left) = rw tol at c.loop-last.invariant in
    below_all c.args.axis c.args.tol c.args.spots.now c.loop-last.last c.args.slopes c.loop-last.left (omega arith) seen
