use Rattle.std.proofs.Common.{◌≡◌, ◌<◌, length, take, ◌∙◌, arith}
use Rattle.std.proofs.lemmas.List.{take_all}
use Rattle.sky_math.specs.Quadratics.{Point}
use Rattle.sky_units.specs.Motion.{point_from, points}
use Rattle.purge.specs.Sizes.{IsSmallPoint}
use Rattle.purge.proofs.Terms.{held_position, held_time}
use Rattle.purge.proofs.Totals.{AreSumsOf, one_more_point, point_read, points_length, small_read, sums_taken}
use Rattle.purge.proofs.farthest.least_squares.Goals as goal

pub with_point-sums-requires-clause-sums : goal.with_point-sums-requires-clause-sums
with_point-sums-requires-clause-sums c = sums_taken c.args.axis c.args.spots.now c.loop-at.at _ _ _ _ _ c.requires.arc c.requires.day c.loop-at.invariant

pub with_point-sums-requires-clause-point : goal.with_point-sums-requires-clause-point
with_point-sums-requires-clause-point c =
    let small = small_read c.args.axis c.args.spots.now c.index-spots-0.result c.index-spots-at.result c.loop-at.at c.requires.arc c.requires.day c.index-spots-0.is c.loop-at-test.true c.index-spots-at.is in
    let same : IsSmallPoint c.time_from.result c.offset.result = rw (c.time_from.ensures, c.offset.ensures.value) small in
    rw (held_time _ _ same, held_position _ _ same) same

pub loop-at-preserved : goal.loop-at-preserved
loop-at-preserved c =
    let small = small_read c.args.axis c.args.spots.now c.index-spots-0.result c.index-spots-at.result c.loop-at.at c.requires.arc c.requires.day c.index-spots-0.is c.loop-at-test.true c.index-spots-at.is in
    let same : IsSmallPoint c.time_from.result c.offset.result = rw (c.time_from.ensures, c.offset.ensures.value) small in
    let x : Point = point_from c.args.axis c.index-spots-0.result c.index-spots-at.result in
    let t = held_time _ _ same ∙ c.time_from.ensures in
    let p = held_position _ _ same ∙ c.offset.ensures.value in
    let e = c.with_point-sums.ensures in
    let n = points_length c.args.axis c.args.spots.now in
    let inside : c.loop-at.at < length (points c.args.axis c.args.spots.now) = omega (arith, n, c.loop-at-test.true) in
    one_more_point (points c.args.axis c.args.spots.now) c.loop-at.at x _ _ _ _ _ _ _ _ _ _ inside
    (point_read c.args.axis c.args.spots.now c.index-spots-0.result c.index-spots-at.result c.loop-at.at x c.index-spots-0.is c.loop-at-test.true c.index-spots-at.is)
    c.loop-at.invariant e.count (rw t at e.times) (rw t at e.squares) (rw p at e.positions) (rw (t, p) at e.products)

pub line_of-requires : goal.line_of-requires
line_of-requires c = sums_taken c.args.axis c.args.spots.now c.loop-at.at _ _ _ _ _ c.requires.arc c.requires.day c.loop-at.invariant

pub returns : goal.returns
returns c =
    let n = points_length c.args.axis c.args.spots.now in
    let whole : take c.loop-at.at (points c.args.axis c.args.spots.now) ≡ points c.args.axis c.args.spots.now = take_all c.loop-at.at (points c.args.axis c.args.spots.now) (omega (arith, n, c.loop-at-test.false)) in
    let all : AreSumsOf c.loop-at.sums.count c.loop-at.sums.times c.loop-at.sums.squares c.loop-at.sums.positions c.loop-at.sums.products (points c.args.axis c.args.spots.now) = rw whole at c.loop-at.invariant in
    let e = c.line_of.ensures in
    record {
      level = rw (all.positions_is, all.squares_is, all.times_is, all.products_is) at e.level;
      slope = rw (all.count_is, all.products_is, all.times_is, all.positions_is) at e.slope;
      scale = rw (all.count_is, all.squares_is, all.times_is) at e.scale;
      size = e.size;
    }
