use Rattle.std.proofs.Common.{arith, sym, ◌∙◌}
use Rattle.miti_text.proofs.Fractions.{some_digits}
use Rattle.miti_text.proofs.Limits.{units_refused, units_read}
use Rattle.miti_text.proofs.quantities.read_units.Goals as goal

pub returns-then-not-is_within-clause-value : goal.returns-then-not-is_within-clause-value
returns-then-not-is_within-clause-value c =
    let whole = some_digits _ _ _ c.in_ok-count.ensures in
    let part = some_digits _ _ _ c.in_ok-part.ensures.value in
    sym (units_refused c.args.whole.now c.args.fraction.now c.args.limit c.args.places c.in_ok-count.count c.requires.limit part.0 whole.1 (sym c.is_within.ensures ∙ c.if-not-is_within.true))

pub overflow_mul-result : goal.overflow_mul-result
overflow_mul-result c =
    let read = units_read c.args.whole.now c.args.fraction.now c.args.limit c.args.places c.in_ok-count.count c.in_ok-part.part c.power_of_ten.result c.requires.places c.requires.limit
    (sym c.have_digits.ensures ∙ c.if-not-have_digits.false) c.in_ok-count.ensures c.in_ok-part.ensures.value (sym c.is_within.ensures ∙ c.if-not-is_within.false) c.power_of_ten.ensures.value in
    omega (arith, read.2)

pub overflow_add-result : goal.overflow_add-result
overflow_add-result c =
    let read = units_read c.args.whole.now c.args.fraction.now c.args.limit c.args.places c.in_ok-count.count c.in_ok-part.part c.power_of_ten.result c.requires.places c.requires.limit
    (sym c.have_digits.ensures ∙ c.if-not-have_digits.false) c.in_ok-count.ensures c.in_ok-part.ensures.value (sym c.is_within.ensures ∙ c.if-not-is_within.false) c.power_of_ten.ensures.value in
    omega (arith, read.2)

pub returns-clause-value : goal.returns-clause-value
returns-clause-value c =
    (units_read c.args.whole.now c.args.fraction.now c.args.limit c.args.places c.in_ok-count.count c.in_ok-part.part c.power_of_ten.result c.requires.places c.requires.limit
    (sym c.have_digits.ensures ∙ c.if-not-have_digits.false) c.in_ok-count.ensures c.in_ok-part.ensures.value (sym c.is_within.ensures ∙ c.if-not-is_within.false) c.power_of_ten.ensures.value).0

pub returns-clause-range : goal.returns-clause-range
returns-clause-range c =
    (units_read c.args.whole.now c.args.fraction.now c.args.limit c.args.places c.in_ok-count.count c.in_ok-part.part c.power_of_ten.result c.requires.places c.requires.limit
    (sym c.have_digits.ensures ∙ c.if-not-have_digits.false) c.in_ok-count.ensures c.in_ok-part.ensures.value (sym c.is_within.ensures ∙ c.if-not-is_within.false) c.power_of_ten.ensures.value).1
