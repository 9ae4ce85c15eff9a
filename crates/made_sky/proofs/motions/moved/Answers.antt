use Rattle.made_sky.proofs.Moving.{acceleration_fits, moved_is}
use Rattle.made_sky.proofs.motions.moved.Goals as goal

pub returns-clause-value : goal.returns-clause-value
returns-clause-value c =
    (moved_is c.args.rate c.args.acceleration c.args.ticks _ _ c.requires.rate c.requires.acceleration c.requires.ticks c.ranges.rate c.ranges.acceleration c.ranges.ticks
    c.div_euclid-by_rate.ensures c.div_euclid-by_acceleration.ensures).value

pub returns-clause-range : goal.returns-clause-range
returns-clause-range c =
    (moved_is c.args.rate c.args.acceleration c.args.ticks _ _ c.requires.rate c.requires.acceleration c.requires.ticks c.ranges.rate c.ranges.acceleration c.ranges.ticks
    c.div_euclid-by_rate.ensures c.div_euclid-by_acceleration.ensures).range

pub overflow_mul-acceleration : goal.overflow_mul-acceleration
overflow_mul-acceleration c =
    acceleration_fits c.args.rate c.args.acceleration c.args.ticks c.requires.rate c.requires.acceleration c.requires.ticks c.ranges.acceleration c.ranges.ticks

pub overflow_add-result : goal.overflow_add-result
overflow_add-result c =
    (moved_is c.args.rate c.args.acceleration c.args.ticks _ _ c.requires.rate c.requires.acceleration c.requires.ticks c.ranges.rate c.ranges.acceleration c.ranges.ticks
    c.div_euclid-by_rate.ensures c.div_euclid-by_acceleration.ensures).fits
