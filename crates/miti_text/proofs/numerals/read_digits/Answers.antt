use Rattle.std.proofs.Common.{◌≡◌, ◌+◌, ◌-◌, ◌*◌, ◌^◌, true, get_or, min, sym, ◌∙◌}
use Rattle.std.specs.Char.{is_ascii_digit}
use Rattle.miti_text.proofs.DigitTexts.{digits_step}
use Rattle.miti_text.proofs.numerals.read_digits.Goals as goal

pub loop-byte-preserved : goal.loop-byte-preserved
loop-byte-preserved c =
    let here : is_ascii_digit (get_or c.args.text.now c.loop-byte.byte-index 0) ≡ true = sym c.is_ascii_digit.ensures.value ∙ c.if-not-is_ascii_digit.false in
    let next : c.min-value.result ≡ min (10 ^ 18) (c.loop-byte.value * 10 + (get_or c.args.text.now c.loop-byte.byte-index 0 - 48)) = rw (← c.from.ensures) c.min-value.ensures in
    digits_step c.args.text.now c.loop-byte.byte-index c.loop-byte.value c.min-value.result (10 ^ 18) c.loop-byte-test.true c.loop-byte.invariant.0 here c.loop-byte.invariant.1 next
