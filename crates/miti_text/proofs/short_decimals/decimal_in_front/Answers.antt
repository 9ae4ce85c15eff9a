use Rattle.std.proofs.Common.{◌≡◌, get_or, refl, arith}
use Rattle.miti_text.proofs.ShortDecimals.{few_whole, with_dot, with_no_dot, by_first}
use Rattle.miti_text.proofs.short_decimals.decimal_in_front.Goals as goal

pub leading_digits-value-requires-clause-number : goal.leading_digits-value-requires-clause-number
leading_digits-value-requires-clause-number c =
    few_whole c.args.text.now c.leading_digits-whole.result.0 c.leading_digits-whole.result.1 c.leading_digits-whole.ensures.most c.leading_digits-whole.ensures.within c.leading_digits-whole.ensures.digits c.leading_digits-whole.ensures.value

pub returns-in-46 : goal.returns-in-46
returns-in-46 c =
    let dot : get_or c.split_at.result.1.now 0 0 ≡ 46 = omega arith in
    with_dot c.args.text.now c.split_at.result.1.now _ c.leading_digits-whole.result.0 c.leading_digits-whole.result.1 _ c.split_at.ensures.back (by_first c.split_at.result.1.now 46 c.in-46.len_at_least dot)
    c.leading_digits-whole.ensures.digits c.leading_digits-whole.ensures.within c.leading_digits-whole.ensures.most c.leading_digits-whole.ensures.value
    c.leading_digits-value.ensures.digits c.leading_digits-value.ensures.within c.leading_digits-value.ensures.most c.leading_digits-value.ensures.value refl c.split_at-in-46.ensures.back

pub returns-in_default : goal.returns-in_default
returns-in_default c =
    with_no_dot c.args.text.now c.leading_digits-whole.result.1 _ c.split_at.ensures.back c.leading_digits-whole.ensures.digits c.leading_digits-whole.ensures.within c.leading_digits-whole.ensures.most c.leading_digits-whole.ensures.value refl refl
