use Rattle.refusal_cert.proofs.Suffices.{each_admitted, limits_are, suffice}
use Rattle.refusal_cert.proofs.laws.four_suffice.Goals as goal

pub returns : goal.returns
returns c = λ axis settings spots s arc. (
  λ w. (each_admitted 3 axis settings spots arc w, each_admitted 4 axis settings spots arc w),
  λ each. suffice axis settings spots (limits_are axis settings s) arc each.0 each.1,
)
