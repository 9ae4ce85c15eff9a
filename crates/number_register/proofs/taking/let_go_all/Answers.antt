use Rattle.std.proofs.Common.{ℕ, take, get_or, arith, None, Option, ap, ◌∙◌}
use Rattle.miti_text.specs.Observation.{Observation}
use Rattle.number_register.specs.Numbering.{slot}
use Rattle.number_register.specs.Numbering.{without_numbers}
use Rattle.number_register.proofs.Takings.{not_yet, one_more_gone, with_same, all_gone}
use Rattle.number_register.proofs.taking.let_go_all.Goals as goal

pub let_go-requires : goal.let_go-requires
let_go-requires c =
    let is = c.loop-number.invariant.at (get_or c.args.numbers.now c.loop-number.number-index 0) in
    let not = not_yet c.args.numbers.now c.loop-number.number-index c.requires.apart (omega arith) in
    record { held = rw (is, not) (c.requires.held c.loop-number.number-index (omega arith)) }

pub loop-number-preserved : goal.loop-number-preserved
loop-number-preserved c =
    record {
      at = λ k. ap (λ (f : ℕ → Option Observation). f k) c.let_go.ensures.at ∙ (with_same (slot c.loop-number.register) (without_numbers (slot c.args.register.now) (take c.loop-number.number-index c.args.numbers.now)) c.loop-number.invariant.at (get_or c.args.numbers.now c.loop-number.number-index 0) None k ∙ one_more_gone (slot c.args.register.now) c.args.numbers.now c.loop-number.number-index (omega arith) k);
      count = omega (arith, c.let_go.ensures.count, c.loop-number.invariant.count);
    }

pub returns-clause-at : goal.returns-clause-at
returns-clause-at c = λ i k. (c.loop-number.invariant.at k ∙ all_gone (slot c.args.register.now) c.args.numbers.now c.loop-number.number-index (omega arith) k) i
