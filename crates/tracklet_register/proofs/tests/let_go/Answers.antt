use Rattle.std.proofs.Common.{List, subst}
use Rattle.std.specs.List.{Contains}
use Rattle.tracklet_register.proofs.Exchanged.{none_of_it}
use Rattle.tracklet_register.proofs.tests.let_go.Goals as goal

pub release-requires : goal.release-requires
release-requires c = λ night number d. none_of_it _ _ _ c.in_ok-numbers.numbers.items c.in_ok-numbers.ensures.apart c.forget_night.ensures.gone c.forget_night.ensures.kept night number (subst (λ list. Contains list number) c.as_slice.ensures.value d)
