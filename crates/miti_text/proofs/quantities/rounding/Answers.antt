use Rattle.std.proofs.Common.{arith, sym}
use Rattle.std.proofs.lemmas.Bool.Decides.{nat_tests}
use Rattle.miti_text.proofs.Fractions.{rounded_up, rounded_down, rounded_nothing}
use Rattle.miti_text.proofs.quantities.rounding.Goals as goal

pub returns-in-empty : goal.returns-in-empty
returns-in-empty c = sym (rounded_nothing c.args.digits.now (omega arith))

pub returns-in-len1-up : goal.returns-in-len1-up
returns-in-len1-up c =
    let up = rounded_up c.args.digits.now c.requires c.in-len1-up.len_at_least in
    let down = rounded_down c.args.digits.now c.requires c.in-len1-up.len_at_least in
    grind (arith, nat_tests, up, down, c.from.ensures)
