use Rattle.std.proofs.Common.{refl, sym, ◌∙◌}
use Rattle.window_incr.proofs.AskedIds.{all_known, one_known, unknown_at}
use Rattle.window_incr.proofs.asking.numbers_of.Goals as goal

pub returns-in-None-clause-err : goal.returns-in-None-clause-err
returns-in-None-clause-err c = λ h. (
  c.loop-place.place,
  unknown_at c.args.log.now c.args.ids.now c.loop-place.place c.index-ids-place.result c.loop-place.numbers.items c.requires.orderly c.loop-place-test.true c.index-ids-place.is
      (λ n d held same. c.find.ensures.none c.in-None.is n d held (same ∙ sym c.bytes.ensures)) c.loop-place.invariant,
  refl,
)

pub loop-place-preserved : goal.loop-place-preserved
loop-place-preserved c =
    let there = c.find.ensures.some c.in-Some.number c.in-Some.is in
    rw c.in_ok-add_number-in-Some.ensures
    (one_known c.args.log.now c.args.ids.now c.loop-place.place c.index-ids-place.result c.loop-place.numbers.items c.in-Some.number there.0 c.loop-place-test.true c.index-ids-place.is there.1 (there.2 ∙ c.bytes.ensures) c.loop-place.invariant)

pub returns-clause-ok : goal.returns-clause-ok
returns-clause-ok c = all_known c.args.log.now c.args.ids.now c.loop-place.place c.loop-place.numbers.items c.loop-place-test.false c.loop-place.invariant
