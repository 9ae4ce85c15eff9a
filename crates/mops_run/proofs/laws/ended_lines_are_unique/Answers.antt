use Rattle.mops_run.proofs.EndedLines.{ended_only}
use Rattle.mops_run.proofs.laws.ended_lines_are_unique.Goals as goal

pub returns : goal.returns
returns c = ended_only
