use Rattle.std.proofs.Common.{◌∙◌, sym, subst}
use Rattle.std.specs.Str.{IsUtf8}
use Rattle.std.proofs.lemmas.Str.{IsUtf8-from_ascii}
use Rattle.std.proofs.Math.Facts.{to_z-of_z}
use Rattle.itoa.proofs.Decimal.{signed_wide}
use Rattle.track_report.proofs.NumberTexts.{wide_read_back}
use Rattle.track_report.proofs.reading.wide_number.Goals as goal

pub returns-in-Ok : goal.returns-in-Ok
returns-in-Ok c z fits is =
    let read = wide_read_back z c.in-Ok.text.now c.parse.result fits (c.in-Ok.ensures.cases.0 ∙ is) c.parse.ensures.value.0 in
    rw (c.unwrap_or.ensures, read) (to_z-of_z fits)

pub returns-in-Err : goal.returns-in-Err
returns-in-Err c z fits is = absurd (c.in-Err.ensures.cases.0 (subst IsUtf8 (sym is) (IsUtf8-from_ascii _ (signed_wide z fits).0)))
