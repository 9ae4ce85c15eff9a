use Rattle.mops_run.proofs.Existence.{all_answers}
use Rattle.mops_run.proofs.laws.replies_exist.Goals as goal

pub returns : goal.returns
returns c = all_answers (record { report = c.report_exists.ensures; stats = c.stats_exist.ensures; asked = c.asked_exists.ensures })
