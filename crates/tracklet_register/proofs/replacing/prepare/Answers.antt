use Rattle.std.proofs.Common.{ℕ, List, ◌↔◌, subst}
use Rattle.std.specs.List.{Contains}
use Rattle.tracklet_register.proofs.replacing.prepare.Goals as goal

pub returns-clause-went : goal.returns-clause-went
returns-clause-went c =
    subst (λ (list : List ℕ). (number : ℕ) → Contains c.in_ok-went.went.items number ↔ (Contains c.args.numbers.now number × ¬ (Contains list number))) c.as_slice.ensures.value c.in_ok-went.ensures.exactly
