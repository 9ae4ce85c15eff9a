use Rattle.std.proofs.Common.{arith}
use Rattle.std.proofs.lemmas.Bool.Decides.{nat_tests}
use Rattle.miti_text.proofs.DigitTexts.{size_by_digits}
use Rattle.miti_text.proofs.numerals.read_size.Goals as goal

pub returns-clause-value : goal.returns-clause-value
returns-clause-value c =
    size_by_digits c.args.digits.now c.read_digits.result (grind (arith, nat_tests, c.is_empty.ensures, c.if-is_empty.false)) c.if-digits-gt-MOST_DIGITS.false c.read_digits.ensures
