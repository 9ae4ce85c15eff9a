use Rattle.std.proofs.Common.{List, ℕ, subst}
use Rattle.std.specs.List.{Contains}
use Rattle.tracklet_register.proofs.Exchanged.{none_left}
use Rattle.tracklet_register.proofs.tests.forgotten.Goals as goal

pub release-requires : goal.release-requires
release-requires c = λ night number d.
    none_left c.args.register.now.nights c.forget_before.new.self.nights _ c.in_ok-numbers.numbers.items c.in_ok-numbers.ensures.apart c.forget_before.ensures.gone c.forget_before.ensures.kept night number (subst (λ (list : List ℕ). Contains list number) c.as_slice.ensures.value d)
