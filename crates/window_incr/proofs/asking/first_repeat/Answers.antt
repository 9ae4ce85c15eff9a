use Rattle.std.proofs.Common.{sym}
use Rattle.window_incr.proofs.AskedIds.{none_repeated, repeated_at}
use Rattle.window_incr.proofs.asking.first_repeat.Goals as goal

pub returns-then-has_id : goal.returns-then-has_id
returns-then-has_id c = sym (repeated_at c.args.ids.now c.loop-place.place c.index-ids-place.result c.loop-place-test.true c.index-ids-place.is (sym c.if-has_id.ensures) c.loop-place.invariant)

pub returns : goal.returns
returns c = sym (none_repeated c.args.ids.now c.loop-place.place c.loop-place-test.false c.loop-place.invariant)
