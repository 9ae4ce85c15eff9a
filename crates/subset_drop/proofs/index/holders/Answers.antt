use Rattle.subset_drop.proofs.Pairs.{holders_between, in_order}
use Rattle.subset_drop.proofs.index.holders.Goals as goal

pub slice_bounds-result-count : goal.slice_bounds-result-count
slice_bounds-result-count c = in_order c.args.pairs.now c.args.number c.first_of-first.result c.end_of-end.result c.first_of-first.ensures.bound c.first_of-first.ensures.first c.end_of-end.ensures.end

pub slice_bounds-result-start : goal.slice_bounds-result-start
slice_bounds-result-start c = in_order c.args.pairs.now c.args.number c.first_of-first.result c.end_of-end.result c.first_of-first.ensures.bound c.first_of-first.ensures.first c.end_of-end.ensures.end

pub returns : goal.returns
returns c = holders_between c.args.pairs.now c.args.number c.first_of-first.result c.end_of-end.result c.end_of-end.ensures.bound c.first_of-first.ensures.first c.end_of-end.ensures.end
