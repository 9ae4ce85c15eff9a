use Rattle.std.proofs.Common.{List, ℕ, subst}
use Rattle.std.specs.List.{Contains}
use Rattle.tracklet_register.proofs.tests.replaced.Goals as goal

pub release-requires : goal.release-requires
release-requires c = λ night number d. c.in_ok-exchange.ensures.replaced.gone night number (subst (λ (list : List ℕ). Contains list number) c.as_slice-went.ensures.value d)
