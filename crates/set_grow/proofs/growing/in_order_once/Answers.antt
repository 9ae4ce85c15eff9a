use Rattle.std.proofs.Common.{◌≡◌, ◌++◌, ◌↔◌, ◌∙◌, ℕ, List, ap, subst}
use Rattle.std.specs.List.{Contains}
use Rattle.set_grow.proofs.growing.in_order_once.Goals as goal

pub returns : goal.returns
returns c =
    let copied : c.extend_from_slice.new.self.items ≡ c.args.numbers.now = c.in_ok-extend_from_slice.ensures.items ∙ ap (λ (list : List ℕ). list ++ c.args.numbers.now) c.new-copied.ensures.items in
    record { is_set = c.set_of.ensures.is_set; exactly = subst (λ (list : List ℕ). (x : ℕ) → Contains c.set_of.result.items x ↔ Contains list x) copied c.set_of.ensures.exactly }
