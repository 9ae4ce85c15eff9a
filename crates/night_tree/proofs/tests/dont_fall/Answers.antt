use Rattle.std.proofs.Common.{◌≤ℤ◌, arith}
use Rattle.std.proofs.lemmas.Int.{ints}
use Rattle.line_fit.proofs.OneDay.{none_falls, none_falls_more, none_falls_yet}
use Rattle.night_tree.proofs.tests.dont_fall.Goals as goal

pub loop-i-init : goal.loop-i-init
loop-i-init c = none_falls_yet c.args.spots.now

pub returns : goal.returns
returns c = λ h. none_falls c.args.spots.now c.loop-i.i (omega arith) c.loop-i.invariant

pub loop-i-preserved : goal.loop-i-preserved
loop-i-preserved c =
    let step : c.before-in-loop-i.inside.epoch ≤ℤ c.spot.inside.epoch = omega (arith, ints, c.if-spot-before.false) in
    let step' : c.index-spots-i.result.epoch ≤ℤ c.index-spots-i-in-loop-i.result.epoch = rw (← c.before-in-loop-i.view_is, ← c.spot.view_is) step in
    none_falls_more c.args.spots.now c.loop-i.i c.index-spots-i.result c.index-spots-i-in-loop-i.result (omega (arith, c.loop-i.auto.i)) (omega (arith, c.loop-i-test.true)) c.index-spots-i.is c.index-spots-i-in-loop-i.is step' c.loop-i.invariant
