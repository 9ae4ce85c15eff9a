use Rattle.std.proofs.Common.{◌∙◌}
use Rattle.std.specs.Str.Parse.{digits_value}
use Rattle.miti_text.specs.Numerals.{denominator}
use Rattle.miti_text.proofs.DigitTexts.{value_below}
use Rattle.miti_text.proofs.Limits.{zeros, within_equal, within_less}
use Rattle.miti_text.proofs.quantities.is_within.Goals as goal

pub returns-then-count-limit : goal.returns-then-count-limit
returns-then-count-limit c =
    c.are_zeros.ensures ∙ zeros c.args.fraction.now c.requires
    ∙ within_equal c.args.count (denominator c.args.fraction.now) (digits_value 10 c.args.fraction.now) c.args.limit c.if-count-limit.true

pub returns-else-count-limit : goal.returns-else-count-limit
returns-else-count-limit c =
    within_less c.args.count (denominator c.args.fraction.now) (digits_value 10 c.args.fraction.now) c.args.limit
    (value_below c.args.fraction.now c.requires) c.if-count-limit.false
