use Rattle.std.proofs.Common.{◌↔◌, ℕ, List, subst, ap, ◌∙◌}
use Rattle.std.proofs.lemmas.List.{take_all}
use Rattle.std.specs.List.{Contains}
use Rattle.kept_tracks.specs.SeveralNights.{all_gone, all_new}
use Rattle.kept_tracks.proofs.exchanging.change_of.Goals as goal

pub returns-clause-went : goal.returns-clause-went
returns-clause-went c =
    subst (λ (list : List ℕ). (number : ℕ) → Contains c.in_order.result.items number ↔ Contains list number) (c.loop-one.invariant.went ∙ ap all_gone (take_all c.loop-one.one-index c.args.done.now c.loop-one-test.false)) c.in_order.ensures.exactly

pub returns-clause-came : goal.returns-clause-came
returns-clause-came c =
    subst (λ (list : List ℕ). (number : ℕ) → Contains c.in_order-2.result.items number ↔ Contains list number) (c.loop-one.invariant.came ∙ ap all_new (take_all c.loop-one.one-index c.args.done.now c.loop-one-test.false)) c.in_order-2.ensures.exactly
