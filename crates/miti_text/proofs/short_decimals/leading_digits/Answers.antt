use Rattle.std.proofs.Common.{◌+◌, ◌*◌, get_or, ap, arith}
use Rattle.miti_text.proofs.ShortDecimals.{digit_more, value_small, digit_by_difference}
use Rattle.miti_text.proofs.short_decimals.leading_digits.Goals as goal

pub overflow_mul-value : goal.overflow_mul-value
overflow_mul-value c =
    let small = value_small c.args.text.now c.args.number c.loop-i.i 11 c.loop-i.value c.requires.number (omega arith) (omega arith) (omega arith) c.loop-i.invariant.0 c.loop-i.invariant.1 in
    omega (arith, small)

pub overflow_add-value : goal.overflow_add-value
overflow_add-value c =
    let small = value_small c.args.text.now c.args.number c.loop-i.i 11 c.loop-i.value c.requires.number (omega arith) (omega arith) (omega arith) c.loop-i.invariant.0 c.loop-i.invariant.1 in
    omega (arith, small, c.if-digit-gt9.false)

pub loop-i-preserved : goal.loop-i-preserved
loop-i-preserved c =
    let digit = digit_by_difference (get_or c.args.text.now c.loop-i.i 0) c.from.result c.from-in-loop-i.result c.from.ensures c.from-in-loop-i.ensures (omega (arith, c.type_inv.text c.loop-i.i)) c.if-digit-gt9.false in
    digit_more c.args.text.now c.args.number c.loop-i.i c.loop-i.value _ (omega arith) c.loop-i.invariant.0 digit.0 c.loop-i.invariant.1 (ap (λ d. c.loop-i.value * 10 + d) digit.1)
