use Rattle.mops_run.proofs.Works.{work_of_command}
use Rattle.mops_run.proofs.watching.script_reply.Goals as goal

pub returns-in_err-obey-in-Asks-clause-work : goal.returns-in_err-obey-in-Asks-clause-work
returns-in_err-obey-in-Asks-clause-work c = work_of_command _ _ _ _ _ _ c.in-Asks.is c.deliver_waiting.ensures.work c.obey.ensures.tally

pub returns-in_err-push-in-Asks-clause-work : goal.returns-in_err-push-in-Asks-clause-work
returns-in_err-push-in-Asks-clause-work c = work_of_command _ _ _ _ _ _ c.in-Asks.is c.deliver_waiting.ensures.work c.obey.ensures.tally

pub returns-in_ok-push-in-Asks-clause-work : goal.returns-in_ok-push-in-Asks-clause-work
returns-in_ok-push-in-Asks-clause-work c = work_of_command _ _ _ _ _ _ c.in-Asks.is c.deliver_waiting.ensures.work c.obey.ensures.tally
