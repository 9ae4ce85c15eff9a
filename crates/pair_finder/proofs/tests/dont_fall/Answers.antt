use Rattle.std.proofs.Common.{◌≤ℤ◌, arith}
use Rattle.std.proofs.lemmas.Int.{ints}
use Rattle.pair_finder.proofs.NoneFalls.{no_steps, none_falls, steps_more}
use Rattle.pair_finder.proofs.tests.dont_fall.Goals as goal

pub loop-later-init : goal.loop-later-init
loop-later-init c = no_steps c.args.spots.now

pub loop-later-preserved : goal.loop-later-preserved
loop-later-preserved c =
    let inside : c.before-in-loop-later.inside.epoch ≤ℤ c.spot.inside.epoch = omega (arith, ints, c.if-spot-before.false) in
    let step : c.index-spots-later.result.epoch ≤ℤ c.index-spots-later-in-loop-later.result.epoch = rw (← c.before-in-loop-later.view_is, ← c.spot.view_is) inside in
    steps_more c.args.spots.now c.loop-later.later c.index-spots-later.result c.index-spots-later-in-loop-later.result (omega (arith, c.loop-later.auto.later)) (omega (arith, c.loop-later-test.true)) c.index-spots-later.is c.index-spots-later-in-loop-later.is step c.loop-later.invariant

pub returns : goal.returns
returns c = λ h. none_falls c.args.spots.now c.loop-later.later (omega arith) c.loop-later.invariant
