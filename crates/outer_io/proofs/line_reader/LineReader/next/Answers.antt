use Rattle.outer_io.proofs.Answering.{line_handed_out, end_reached, no_line_before_fault, no_line_before_limit, faults_after, counts_on, limit_passed, uses_up, ends_marked, end_answered, stops_exactly, empty_when_stopped, over_is_end}
use Rattle.outer_io.proofs.line_reader.LineReader.next.Goals as goal

pub returns-clause-line : goal.returns-clause-line
returns-clause-line g c = line_handed_out _ _ _ _ c.advance.result c.advance.ensures.advances

pub returns-clause-end : goal.returns-clause-end
returns-clause-end g c = end_reached _ _ _ _ c.advance.result c.advance.ensures.advances

pub returns-clause-failed : goal.returns-clause-failed
returns-clause-failed g c = no_line_before_fault _ _ _ _ c.advance.result c.advance.ensures.advances

pub returns-clause-too_long : goal.returns-clause-too_long
returns-clause-too_long g c = no_line_before_limit _ _ _ _ c.advance.result c.advance.ensures.advances

pub returns-clause-faults : goal.returns-clause-faults
returns-clause-faults g c = faults_after _ _ _ _ c.advance.result c.advance.ensures.advances

pub returns-clause-counts : goal.returns-clause-counts
returns-clause-counts g c = counts_on _ _ _ _ c.advance.result c.advance.ensures.advances

pub returns-clause-limit : goal.returns-clause-limit
returns-clause-limit g c = limit_passed _ _ _ _ c.advance.result c.advance.ensures.advances

pub returns-clause-progress : goal.returns-clause-progress
returns-clause-progress g c = uses_up _ _ _ _ c.advance.result c.advance.ensures.advances

pub returns-clause-ends : goal.returns-clause-ends
returns-clause-ends g c = ends_marked _ _ _ _ c.advance.result c.advance.ensures.advances

pub returns-clause-answered : goal.returns-clause-answered
returns-clause-answered g c = end_answered _ _ _ _ c.advance.result c.advance.ensures.advances

pub returns-clause-stopped : goal.returns-clause-stopped
returns-clause-stopped g c = stops_exactly _ _ _ _ c.advance.result c.advance.ensures.advances

pub returns-clause-empty : goal.returns-clause-empty
returns-clause-empty g c = empty_when_stopped _ _ _ _ c.advance.result c.advance.ensures.advances

pub returns-clause-over : goal.returns-clause-over
returns-clause-over g c = λ ended. (over_is_end _ _ _ _ c.advance.result c.advance.ensures.advances ended, c.advance.ensures.over ended)
