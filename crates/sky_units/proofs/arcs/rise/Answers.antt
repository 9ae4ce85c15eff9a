use Rattle.std.proofs.Common.{◌++◌, ◌≤ℤ◌, ◌<ℤ◌, arith}
use Rattle.std.proofs.lemmas.Bool.{false≢true}
use Rattle.std.proofs.lemmas.Int.{ints}
use Rattle.sky_units.proofs.EpochOrder.{rise_more, no_rise}
use Rattle.sky_units.proofs.arcs.rise.Goals as goal

pub returns-then-spot-before : goal.returns-then-spot-before
returns-then-spot-before c =
    let before = c.joined_spot-before in
    let spot = c.joined_spot-spot in
    let read : c.spot.inside.epoch ≤ℤ c.before-in-loop-i.inside.epoch = omega (arith, ints) in
    let falls : spot.result.now.epoch ≤ℤ before.result.now.epoch = rw (← c.spot.view_is, ← c.before-in-loop-i.view_is) read in
    (λ h. absurd (false≢true h), λ h. absurd (no_rise (c.args.a.now ++ c.args.b.now ++ c.args.c.now) c.loop-i.i before.result.now spot.result.now (omega arith) (omega arith) before.ensures spot.ensures falls h))

pub loop-i-preserved : goal.loop-i-preserved
loop-i-preserved c =
    let before = c.joined_spot-before in
    let spot = c.joined_spot-spot in
    let read : c.before-in-loop-i.inside.epoch <ℤ c.spot.inside.epoch = omega (arith, ints) in
    let rises : before.result.now.epoch <ℤ spot.result.now.epoch = rw (← c.spot.view_is, ← c.before-in-loop-i.view_is) read in
    rise_more (c.args.a.now ++ c.args.b.now ++ c.args.c.now) c.loop-i.i before.result.now spot.result.now (omega arith) (omega arith) before.ensures spot.ensures rises c.loop-i.invariant
