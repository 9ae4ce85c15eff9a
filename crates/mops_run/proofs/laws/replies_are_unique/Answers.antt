use Rattle.mops_run.proofs.Agreement.{AnswersAll-only}
use Rattle.mops_run.proofs.laws.replies_are_unique.Goals as goal

pub returns : goal.returns
returns c = AnswersAll-only
