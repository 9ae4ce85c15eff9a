use Rattle.std.proofs.Common.{◌-◌, arith}
use Rattle.miti_text.proofs.ShortDecimals.{limit_small, none_within, few_places, more_places}
use Rattle.miti_text.proofs.short_decimals.units_within.Goals as goal

pub overflow_mul-limit : goal.overflow_mul-limit
overflow_mul-limit c =
    let small = limit_small c.args.limit c.power_of_ten.result c.args.written 12 c.requires.limit c.requires.written c.power_of_ten.ensures.value in omega (arith, small.0)

pub returns-then-value-limit-clause-value : goal.returns-then-value-limit-clause-value
returns-then-value-limit-clause-value c = none_within c.args.value c.args.written c.args.limit c.power_of_ten.result _ c.power_of_ten.ensures.value c.if-value-limit.true

pub overflow_mul-result : goal.overflow_mul-result
overflow_mul-result c =
    let exact = few_places c.args.value c.args.written c.args.limit c.args.places c.power_of_ten.result c.power_of_ten-then-written-places.result c.requires.limit c.requires.places
    c.if-written-places.true c.power_of_ten.ensures.value c.if-value-limit.false c.power_of_ten-then-written-places.ensures.value in omega (arith, exact.most)

pub returns-then-written-places-clause-value : goal.returns-then-written-places-clause-value
returns-then-written-places-clause-value c =
    (few_places c.args.value c.args.written c.args.limit c.args.places c.power_of_ten.result c.power_of_ten-then-written-places.result c.requires.limit c.requires.places
    c.if-written-places.true c.power_of_ten.ensures.value c.if-value-limit.false c.power_of_ten-then-written-places.ensures.value).found

pub returns-then-written-places-clause-range : goal.returns-then-written-places-clause-range
returns-then-written-places-clause-range c =
    (few_places c.args.value c.args.written c.args.limit c.args.places c.power_of_ten.result c.power_of_ten-then-written-places.result c.requires.limit c.requires.places
    c.if-written-places.true c.power_of_ten.ensures.value c.if-value-limit.false c.power_of_ten-then-written-places.ensures.value).range

pub overflow_mul-result-3 : goal.overflow_mul-result-3
overflow_mul-result-3 c =
    let small = limit_small c.args.limit c.power_of_ten-surplus.result (c.args.written - c.args.places) 12 c.requires.limit (omega arith) c.power_of_ten-surplus.ensures.value in omega (arith, small.1)

pub returns-clause-value : goal.returns-clause-value
returns-clause-value c =
    (more_places c.args.value c.args.written c.args.limit c.args.places c.power_of_ten.result c.power_of_ten-surplus.result c.requires.limit c.requires.places
    c.if-written-places.false c.power_of_ten.ensures.value c.if-value-limit.false c.power_of_ten-surplus.ensures.value).found

pub returns-clause-range : goal.returns-clause-range
returns-clause-range c =
    (more_places c.args.value c.args.written c.args.limit c.args.places c.power_of_ten.result c.power_of_ten-surplus.result c.requires.limit c.requires.places
    c.if-written-places.false c.power_of_ten.ensures.value c.if-value-limit.false c.power_of_ten-surplus.ensures.value).range
