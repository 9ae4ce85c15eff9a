use Rattle.std.proofs.Common.{◌≡◌, ◌∙◌, ap, arith, FitsSigned, pos, to_z, of_z}
use Rattle.std.specs.Int.{w128}
use Rattle.std.proofs.Math.Facts.{to_z-of_z}
use Rattle.track_report.proofs.NumberTexts.{nights_is}
use Rattle.track_report.proofs.reading.night_count.Goals as goal

pub returns : goal.returns
returns c n small is =
    let fits : FitsSigned w128 (pos n) = record { sfits = omega arith } in
    let read : to_z w128 (of_z w128 c.wide_number.result) ≡ pos n =
    ap (λ z. to_z w128 (of_z w128 z)) (c.wide_number.ensures (pos n) fits is) ∙ to_z-of_z fits in
    c.unwrap_or.ensures ∙ nights_is c.try_from.result _ n read small c.try_from.ensures
