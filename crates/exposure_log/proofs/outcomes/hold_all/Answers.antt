use Rattle.std.proofs.Common.{◌≡◌, length, ap, ◌∙◌, arith}
use Rattle.std.specs.Result.{IsOk}
use Rattle.std.proofs.lemmas.List.{length_push}
use Rattle.exposure_log.proofs.Delivered.{all_held, nothing_yet, one_more}
use Rattle.exposure_log.proofs.outcomes.hold_all.Goals as goal

pub loop-exposure-init : goal.loop-exposure-init
loop-exposure-init c =
    let rest = c.into_iter-exposure-iterator.ensures.into_iter_gives.0 in (
      nothing_yet c.args.log.now c.args.exposures.items c.into_iter-exposure-iterator.result.rest.items c.in_ok-outcomes.outcomes.items rest c.in_ok-outcomes.ensures.items,
      omega (arith, ap length rest, ap length c.in_ok-outcomes.ensures.items, c.in_ok-outcomes.ensures.capacity, c.len.ensures, c.args.exposures.ok.0),
    )

pub loop-exposure-preserved : goal.loop-exposure-preserved
loop-exposure-preserved c =
    let step = c.in-Some.ensures.steps.0 in
    let fewer = ap length step in
    let ok : IsOk c.push.result = c.push.ensures.succeeds (omega (arith, fewer, c.loop-exposure.invariant.1, c.loop-exposure.outcomes.ok.0)) in
    let items = rw ok at c.push.ensures.items in
    let more = length_push c.loop-exposure.outcomes.items c.in-Ok.outcome in (
      one_more c.args.log.now c.loop-exposure.log c.hold_one.new.log c.args.exposures.items c.loop-exposure.exposure-iterator.rest.items c.next.new.self.rest.items c.loop-exposure.outcomes.items c.push.new.self.items c.in-Some.exposure c.in-Ok.outcome
          c.loop-exposure.invariant.0 step c.hold_one.ensures.orderly c.hold_one.ensures.epoch c.in-Ok.ensures.ok items,
      omega (arith, fewer, ap length items, more, c.push.ensures.capacity, c.loop-exposure.invariant.1),
    )
