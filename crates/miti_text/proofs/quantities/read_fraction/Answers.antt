use Rattle.std.proofs.Common.{arith, refl, sym, ◌∙◌}
use Rattle.std.specs.Str.Parse.{digits_value}
use Rattle.miti_text.specs.Numerals.{nearest, denominator}
use Rattle.miti_text.proofs.Fractions.{fraction_read}
use Rattle.miti_text.proofs.quantities.read_fraction.Goals as goal

pub overflow_mul-result : goal.overflow_mul-result
overflow_mul-result c =
    let back = c.split_at.result.1.now in
    let read = fraction_read c.args.fraction.now c.split_at.result.0.now back c.args.places c.min-kept.result c.in_ok-units.units c.power_of_ten.result (nearest (digits_value 10 back) (denominator back)) c.requires c.min-kept.ensures c.split_at.ensures.front c.split_at.ensures.back c.in_ok-units.ensures (sym c.are_digits.ensures ∙ c.if-not-are_digits.false) c.power_of_ten.ensures.value refl in
    omega (arith, read.2)

pub overflow_add-result : goal.overflow_add-result
overflow_add-result c =
    let read = fraction_read c.args.fraction.now c.split_at.result.0.now c.split_at.result.1.now c.args.places c.min-kept.result c.in_ok-units.units c.power_of_ten.result c.rounding.result c.requires c.min-kept.ensures c.split_at.ensures.front c.split_at.ensures.back c.in_ok-units.ensures (sym c.are_digits.ensures ∙ c.if-not-are_digits.false) c.power_of_ten.ensures.value c.rounding.ensures in
    omega (arith, read.2)

pub returns-clause-value : goal.returns-clause-value
returns-clause-value c =
    (fraction_read c.args.fraction.now c.split_at.result.0.now c.split_at.result.1.now c.args.places c.min-kept.result c.in_ok-units.units c.power_of_ten.result c.rounding.result c.requires c.min-kept.ensures c.split_at.ensures.front c.split_at.ensures.back c.in_ok-units.ensures (sym c.are_digits.ensures ∙ c.if-not-are_digits.false) c.power_of_ten.ensures.value c.rounding.ensures).0

pub returns-clause-range : goal.returns-clause-range
returns-clause-range c =
    (fraction_read c.args.fraction.now c.split_at.result.0.now c.split_at.result.1.now c.args.places c.min-kept.result c.in_ok-units.units c.power_of_ten.result c.rounding.result c.requires c.min-kept.ensures c.split_at.ensures.front c.split_at.ensures.back c.in_ok-units.ensures (sym c.are_digits.ensures ∙ c.if-not-are_digits.false) c.power_of_ten.ensures.value c.rounding.ensures).1
