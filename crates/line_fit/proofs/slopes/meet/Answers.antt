use Rattle.std.proofs.Common.{arith}
use Rattle.sky_math.proofs.Order.{linear}
use Rattle.line_fit.proofs.Bounds.{above_from, filled_of_between}
use Rattle.line_fit.proofs.slopes.meet.Goals as goal

pub returns-else-is_at_most : goal.returns-else-is_at_most
returns-else-is_at_most c = λ a b p one other.
    let low = c.greater-low.result in
    let high = c.lesser-high.result in
    let l = above_from low high c.is_at_most.result c.is_at_most.ensures c.if-is_at_most.false in
    let above = (c.greater-low.ensures.bounds a b p).1 (one.0, other.0) in
    let below = (c.lesser-high.ensures.bounds a b p).1 (one.1, other.1) in
    let filled = filled_of_between low high a b c.greater-low.ensures.positive c.lesser-high.ensures.positive p above below in
    absurd (omega (arith, linear, l, filled))
