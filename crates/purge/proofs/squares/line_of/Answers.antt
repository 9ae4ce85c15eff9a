use Rattle.purge.proofs.Terms.{level_terms, scale_terms, slope_terms, small_line}
use Rattle.purge.proofs.squares.line_of.Goals as goal

pub overflow_sub-result : goal.overflow_sub-result
overflow_sub-result c = (level_terms c.args.sums.count c.args.sums.times c.args.sums.squares c.args.sums.positions c.args.sums.products c.requires).both_fit

pub overflow_mul-result-3 : goal.overflow_mul-result-3
overflow_mul-result-3 c = (slope_terms c.args.sums.count c.args.sums.times c.args.sums.squares c.args.sums.positions c.args.sums.products c.requires).one_fits

pub overflow_mul-result-4 : goal.overflow_mul-result-4
overflow_mul-result-4 c = (slope_terms c.args.sums.count c.args.sums.times c.args.sums.squares c.args.sums.positions c.args.sums.products c.requires).two_fits

pub overflow_sub-result-2 : goal.overflow_sub-result-2
overflow_sub-result-2 c = (slope_terms c.args.sums.count c.args.sums.times c.args.sums.squares c.args.sums.positions c.args.sums.products c.requires).both_fit

pub overflow_mul-result-5 : goal.overflow_mul-result-5
overflow_mul-result-5 c = (scale_terms c.args.sums.count c.args.sums.times c.args.sums.squares c.args.sums.positions c.args.sums.products c.requires).one_fits

pub overflow_sub-result-3 : goal.overflow_sub-result-3
overflow_sub-result-3 c = (scale_terms c.args.sums.count c.args.sums.times c.args.sums.squares c.args.sums.positions c.args.sums.products c.requires).both_fit

pub returns-clause-level : goal.returns-clause-level
returns-clause-level c = (level_terms c.args.sums.count c.args.sums.times c.args.sums.squares c.args.sums.positions c.args.sums.products c.requires).is

pub returns-clause-slope : goal.returns-clause-slope
returns-clause-slope c = (slope_terms c.args.sums.count c.args.sums.times c.args.sums.squares c.args.sums.positions c.args.sums.products c.requires).is

pub returns-clause-scale : goal.returns-clause-scale
returns-clause-scale c = (scale_terms c.args.sums.count c.args.sums.times c.args.sums.squares c.args.sums.positions c.args.sums.products c.requires).is

pub returns-clause-size : goal.returns-clause-size
returns-clause-size c =
    let scale = scale_terms c.args.sums.count c.args.sums.times c.args.sums.squares c.args.sums.positions c.args.sums.products c.requires in
    let slope = slope_terms c.args.sums.count c.args.sums.times c.args.sums.squares c.args.sums.positions c.args.sums.products c.requires in
    let level = level_terms c.args.sums.count c.args.sums.times c.args.sums.squares c.args.sums.positions c.args.sums.products c.requires in
    rw (scale.is, slope.is, level.is) (small_line _ _ _ scale.size slope.size level.size)
