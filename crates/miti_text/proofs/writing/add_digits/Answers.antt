use Rattle.std.proofs.Common.{◌≡◌, ◌+◌, ◌-◌, ◌/◌, ◌%◌, ◌^◌, ◌++◌, ap, ◌∙◌, arith}
use Rattle.miti_text.specs.Written.{last_digits}
use Rattle.miti_text.proofs.Digits.{next_digit}
use Rattle.miti_text.proofs.writing.add_digits.Goals as goal

pub loop-left-preserved : goal.loop-left-preserved
loop-left-preserved c =
    let digit : 48 + c.args.number / c.power_of_ten.result % 10 ≡ 48 + c.args.number / 10 ^ (c.loop-left.left - 1) % 10 = ap (λ p. 48 + c.args.number / p % 10) c.power_of_ten.ensures.value in (
      omega arith,
      ap (λ text. text ++ last_digits (c.loop-left.left - 1) c.args.number) c.in_ok-push.ensures.items
          ∙ next_digit c.loop-left.text.items c.loop-left.left (c.loop-left.left - 1) c.args.number _ (omega arith) digit ∙ c.loop-left.invariant.1,
    )
