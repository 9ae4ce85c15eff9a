use Rattle.std.proofs.Common.{sym, ◌∙◌}
use Rattle.collapse.proofs.Searching.{first_more, first_passes}
use Rattle.collapse.proofs.Together.{no_spot}
use Rattle.collapse.proofs.joining.first_in.Goals as goal

pub loop-at-preserved : goal.loop-at-preserved
loop-at-preserved c = first_more c.args.settings.now c.args.spots.now c.args.pair c.args.groups.now c.args.entries.now c.loop-at.at c.args.below c.loop-at.first c.in_ok-first.first _ c.loop-at-test.true c.loop-at.invariant c.in_ok-first.ensures

pub loop-at-preserved-then-passes_by : goal.loop-at-preserved-then-passes_by
loop-at-preserved-then-passes_by c =
    let before = c.passes_by.ensures.before c.if-passes_by.true in
    first_passes c.args.settings.now c.args.spots.now c.args.pair c.args.groups.now c.args.entries.now c.loop-at.at c.count_before-at.result c.args.below c.loop-at.first _ c.requires.order c.requires.pair c.requires.groups c.requires.entries c.requires.in_order c.loop-at-test.true c.count_before-at.ensures.within before
    (sym (c.passes_by.ensures.late no_spot before) ∙ c.if-passes_by.true) c.count_before-at.ensures.parts c.loop-at.invariant
