use Rattle.std.proofs.Common.{◌≡◌, to_z, of_z, w64}
use Rattle.std.specs.List.{All}
use Rattle.std.proofs.lemmas.Int.{to_z-of_z}
use Rattle.sky_math.specs.Quadratics.{Passes}
use Rattle.quad_fit.specs.Curves.{quadratic_of}
use Rattle.quad_fit.specs.References.{IsLevelLine, IsOutsideOf}
use Rattle.quad_fit.proofs.LevelSteps.{slope_sinks, line_admitted}
use Rattle.quad_fit.proofs.levelling.level_pair.Goals as goal

pub level_triple-requires-clause-triple : goal.level_triple-requires-clause-triple
level_triple-requires-clause-triple c =
    let tol : to_z w64 (of_z w64 c.args.tol) ≡ c.args.tol = to_z-of_z w64 c.args.tol c.ranges.tol in
    let limit = c.requires.tol in
    let state = c.loop-outside.invariant in
    let level : IsLevelLine c.args.tol c.loop-outside.pair c.loop-outside.line = rw tol at state.level in
    let outside : IsOutsideOf c.args.tol c.loop-outside.line c.args.marks.now c.in-Some.outside = rw tol at c.in-Some.ensures in
    let bent = c.in-Triple.ensures c.args.tol c.loop-outside.line c.args.marks.now limit.from c.requires.marks state.pair level outside in
    bent.0

pub level_triple-requires-clause-bent : goal.level_triple-requires-clause-bent
level_triple-requires-clause-bent c =
    let tol : to_z w64 (of_z w64 c.args.tol) ≡ c.args.tol = to_z-of_z w64 c.args.tol c.ranges.tol in
    let limit = c.requires.tol in
    let state = c.loop-outside.invariant in
    let level : IsLevelLine c.args.tol c.loop-outside.pair c.loop-outside.line = rw tol at state.level in
    let outside : IsOutsideOf c.args.tol c.loop-outside.line c.args.marks.now c.in-Some.outside = rw tol at c.in-Some.ensures in
    let bent = c.in-Triple.ensures c.args.tol c.loop-outside.line c.args.marks.now limit.from c.requires.marks state.pair level outside in
    rw tol bent.1

pub returns-in-Triple : goal.returns-in-Triple
returns-in-Triple c =
    let tol : to_z w64 (of_z w64 c.args.tol) ≡ c.args.tol = to_z-of_z w64 c.args.tol c.ranges.tol in
    let acc : to_z w64 (of_z w64 c.args.acc) ≡ c.args.acc = to_z-of_z w64 c.args.acc c.ranges.acc in
    rw (acc, tol) at c.level_triple.ensures

pub level_line-line-requires-in-Some-clause-rising : goal.level_line-line-requires-in-Some-clause-rising
level_line-line-requires-in-Some-clause-rising c =
    let tol : to_z w64 (of_z w64 c.args.tol) ≡ c.args.tol = to_z-of_z w64 c.args.tol c.ranges.tol in
    let limit = c.requires.tol in
    let state = c.loop-outside.invariant in
    let level : IsLevelLine c.args.tol c.loop-outside.pair c.loop-outside.line = rw tol at state.level in
    let outside : IsOutsideOf c.args.tol c.loop-outside.line c.args.marks.now c.in-Some.outside = rw tol at c.in-Some.ensures in
    let next = c.in-Pair.ensures c.args.tol c.loop-outside.line c.args.marks.now limit.from c.requires.marks state.pair level outside in
    next.0.before

pub loop-outside-smaller : goal.loop-outside-smaller
loop-outside-smaller c =
    let tol : to_z w64 (of_z w64 c.args.tol) ≡ c.args.tol = to_z-of_z w64 c.args.tol c.ranges.tol in
    let limit = c.requires.tol in
    let state = c.loop-outside.invariant in
    let level : IsLevelLine c.args.tol c.loop-outside.pair c.loop-outside.line = rw tol at state.level in
    let outside : IsOutsideOf c.args.tol c.loop-outside.line c.args.marks.now c.in-Some.outside = rw tol at c.in-Some.ensures in
    let next = c.in-Pair.ensures c.args.tol c.loop-outside.line c.args.marks.now limit.from c.requires.marks state.pair level outside in
    let following : IsLevelLine c.args.tol c.in-Pair.steeper c.level_line-line-in-Some.result = rw tol at c.level_line-line-in-Some.ensures.level in
    slope_sinks c.args.tol c.loop-outside.pair c.in-Pair.steeper c.loop-outside.line c.level_line-line-in-Some.result state.range next.1 following c.level_line-line-in-Some.ensures.range

pub loop-outside-preserved : goal.loop-outside-preserved
loop-outside-preserved c =
    let tol : to_z w64 (of_z w64 c.args.tol) ≡ c.args.tol = to_z-of_z w64 c.args.tol c.ranges.tol in
    let limit = c.requires.tol in
    let state = c.loop-outside.invariant in
    let level : IsLevelLine c.args.tol c.loop-outside.pair c.loop-outside.line = rw tol at state.level in
    let outside : IsOutsideOf c.args.tol c.loop-outside.line c.args.marks.now c.in-Some.outside = rw tol at c.in-Some.ensures in
    let next = c.in-Pair.ensures c.args.tol c.loop-outside.line c.args.marks.now limit.from c.requires.marks state.pair level outside in
    record { pair = next.0; level = c.level_line-line-in-Some.ensures.level; range = c.level_line-line-in-Some.ensures.range }

pub returns : goal.returns
returns c =
    let tol : to_z w64 (of_z w64 c.args.tol) ≡ c.args.tol = to_z-of_z w64 c.args.tol c.ranges.tol in
    let limit = c.requires.tol in
    let state = c.loop-outside.invariant in
    let level : IsLevelLine c.args.tol c.loop-outside.pair c.loop-outside.line = rw tol at state.level in
    let most = c.requires.acc in
    let passes : All (Passes c.args.tol (quadratic_of c.loop-outside.line)) c.args.marks.now = rw tol at c.in_default.ensures in
    record { admitted = line_admitted c.args.acc c.args.tol c.loop-outside.pair c.loop-outside.line most.from level state.range; passes = passes; rests = (state.pair, level) }
