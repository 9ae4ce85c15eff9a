use Rattle.mops_run.proofs.reading.last_replies.Goals as goal

pub returns-in-Script-clause-replies : goal.returns-in-Script-clause-replies
returns-in-Script-clause-replies c = rw c.in-Script.is c.deliver.ensures.replies

pub returns-in-Plain-clause-replies : goal.returns-in-Plain-clause-replies
returns-in-Plain-clause-replies c = rw c.in-Plain.is c.link_and_report.ensures.replies
