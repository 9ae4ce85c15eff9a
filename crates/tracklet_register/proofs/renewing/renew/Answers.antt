use Rattle.std.proofs.Common.{take}
use Rattle.std.proofs.lemmas.List.{take_all}
use Rattle.set_grow.specs.Nights.{numbered_by}
use Rattle.sky_units.proofs.Steps.{taken}
use Rattle.tracklet_register.proofs.Renewal.{are_held, is_fresh, renewed_more, renewed_none}
use Rattle.tracklet_register.proofs.renewing.renew.Goals as goal

pub loop-tracklet-init : goal.loop-tracklet-init
loop-tracklet-init c = rw (c.new.ensures.items, c.new-2.ensures.items) (renewed_none (numbered_by c.args.numbers.now c.args.before.now) c.args.taken.now)

pub loop-tracklet-preserved : goal.loop-tracklet-preserved
loop-tracklet-preserved c =
    let next = taken c.args.after.now c.loop-tracklet.tracklet-index c.tracklet-item.result c.loop-tracklet-test.true c.tracklet-item.is in
    let fresh = is_fresh c.args.after.now c.loop-tracklet.tracklet-index c.tracklet-item.result c.requires.different c.loop-tracklet-test.true c.tracklet-item.is in
    let held = are_held c.args.numbers.now c.args.before.now c.args.taken.now c.requires.once c.requires.held in
    rw next (renewed_more c.args.before.now c.args.numbers.now c.args.taken.now (take c.loop-tracklet.tracklet-index c.args.after.now) c.tracklet-item.result c.in_ok-kept.kept c.loop-tracklet.renewed c.push_number.new.renewed c.requires.size held c.loop-tracklet.invariant fresh c.in_ok-kept.ensures c.in_ok-push_number.ensures)

pub returns : goal.returns
returns c =
    let all = take_all c.loop-tracklet.tracklet-index c.args.after.now c.loop-tracklet-test.false in
    rw all at c.loop-tracklet.invariant
