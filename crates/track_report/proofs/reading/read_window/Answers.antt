use Rattle.std.proofs.Common.{◌∙◌, sym}
use Rattle.track_report.proofs.NumberTexts.{number_no_dash}
use Rattle.track_report.proofs.reading.read_window.Goals as goal

pub returns-then-is_dash-clause-some : goal.returns-then-is_dash-clause-some
returns-then-is_dash-clause-some c first last first_fits last_fits first_is last_is = absurd (number_no_dash first first_fits (sym first_is ∙ c.if-is_dash.ensures))
