use Rattle.std.proofs.Common.{◌+◌, subst, sym, take}
use Rattle.window_incr.specs.LinkerState.{LinkerState}
use Rattle.window_incr.proofs.Steps.{TellAll, tells_one_more}
use Rattle.window_incr.proofs.answers.tracks_of.Goals as goal

pub loop-set-preserved : goal.loop-set-preserved
loop-set-preserved c =
    let s : LinkerState = record { settings = c.args.settings.now; log = c.args.log.now } in
    subst (TellAll s (take (c.loop-set.set-index + 1) c.args.sets.now)) (sym c.in_ok-push.ensures.ok)
    (tells_one_more s c.args.sets.now c.loop-set.tracks c.loop-set.set-index c.set-item.result c.in_ok-track_of.field-0 c.loop-set-test.true c.set-item.is c.loop-set.invariant c.in_ok-track_of.ensures.track c.in_ok-track_of.ensures.valid)
