use Rattle.std.proofs.Common.{take, get_or}
use Rattle.std.proofs.lemmas.List.{take_all, take_more}
use Rattle.tracklet_register.proofs.Marks.{AreMarked, marked_more, marked_none}
use Rattle.tracklet_register.proofs.marking.mark.Goals as goal

pub loop-number-init : goal.loop-number-init
loop-number-init c = marked_none c.args.taken.now.items c.args.value

pub loop-number-preserved : goal.loop-number-preserved
loop-number-preserved c =
    let number = get_or c.args.numbers.now c.loop-number.number-index 0 in
    let next = take_more c.args.numbers.now c.loop-number.number-index 0 c.loop-number-test.true in
    rw next (marked_more c.args.taken.now.items c.loop-number.taken.items c.mark_one.new.taken.items (take c.loop-number.number-index c.args.numbers.now) c.args.value number c.loop-number.invariant c.mark_one.ensures.len c.mark_one.ensures.here c.mark_one.ensures.others)

pub returns-clause-listed : goal.returns-clause-listed
returns-clause-listed c =
    let all = take_all c.loop-number.number-index c.args.numbers.now c.loop-number-test.false in
    let marked : AreMarked c.args.taken.now.items c.loop-number.taken.items c.args.numbers.now c.args.value = rw all at c.loop-number.invariant in
    marked.listed

pub returns-clause-others : goal.returns-clause-others
returns-clause-others c =
    let all = take_all c.loop-number.number-index c.args.numbers.now c.loop-number-test.false in
    let marked : AreMarked c.args.taken.now.items c.loop-number.taken.items c.args.numbers.now c.args.value = rw all at c.loop-number.invariant in
    marked.others
