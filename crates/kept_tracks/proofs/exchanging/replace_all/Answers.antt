use Rattle.std.proofs.Common.{drop, arith}
use Rattle.kept_tracks.proofs.SeveralNights.{none_later, one_step, sized_still}
use Rattle.kept_tracks.proofs.exchanging.replace_all.Goals as goal

pub replace_one-requires-clause-size : goal.replace_one-requires-clause-size
replace_one-requires-clause-size c =
    sized_still c.args.nights.now (drop c.loop-left.left c.args.changed.now) c.args.register.now c.loop-left.register _ _ c.index-changed-left.result.number c.requires.numbered
    (none_later c.args.changed.now c.loop-left.left c.index-changed-left.result c.requires.once c.loop-left-test.true c.loop-left.invariant.within c.index-changed-left.is) c.loop-left.invariant.replaced

pub loop-left-preserved : goal.loop-left-preserved
loop-left-preserved c =
    let within = c.loop-left.invariant.within in
    record {
      within = omega (arith, within);
      undone = c.replace_one.ensures.undone c.args.register.now c.loop-left.invariant.undone;
      replaced = one_step c.args.nights.now c.args.changed.now c.loop-left.left c.index-changed-left.result c.args.register.now c.loop-left.register c.replace_one.new.register c.loop-left.done.items c.replace_one.new.done.items c.in_ok-replace_one.ensures.ok.0
          c.requires.rising c.requires.once c.loop-left-test.true c.loop-left.invariant.within c.index-changed-left.is c.loop-left.invariant.replaced c.in_ok-replace_one.ensures.ok.1 c.in_ok-replace_one.ensures.ok.2;
    }
