use Rattle.std.proofs.Common.{refl}
use Rattle.mops_run.proofs.ByForm.{Runs-watch, Runs-link, Runs-generate, Runs-summary}
use Rattle.mops_run.proofs.top.run_form.Goals as goal

pub returns-in-Watch-clause-runs : goal.returns-in-Watch-clause-runs
returns-in-Watch-clause-runs g c = rw c.in-Watch.is (Runs-watch _ _ _ _ _ c.read_all.ensures.reads)

pub returns-in-Watch-clause-unread : goal.returns-in-Watch-clause-unread
returns-in-Watch-clause-unread g c = rw c.in-Watch.is (λ no. absurd (no tt))

pub returns-in-Link-clause-runs : goal.returns-in-Link-clause-runs
returns-in-Link-clause-runs g c = rw c.in-Link.is (Runs-link _ _ _ _ _ c.read_all-in-Link.ensures.reads)

pub returns-in-Link-clause-unread : goal.returns-in-Link-clause-unread
returns-in-Link-clause-unread g c = rw c.in-Link.is (λ no. absurd (no tt))

pub generate-requires : goal.generate-requires
generate-requires g c = rw c.in-Generate.is at c.requires

pub returns-in-Generate-clause-runs : goal.returns-in-Generate-clause-runs
returns-in-Generate-clause-runs g c = rw c.in-Generate.is (Runs-generate _ _ _ _ _ c.generate.ensures)

pub returns-in-Generate-clause-unread : goal.returns-in-Generate-clause-unread
returns-in-Generate-clause-unread g c = λ _. (refl, c.generate.ensures.ends)

pub summarize-requires : goal.summarize-requires
summarize-requires g c = rw c.in-Summary.is at c.requires

pub returns-in-Summary-clause-runs : goal.returns-in-Summary-clause-runs
returns-in-Summary-clause-runs g c = rw c.in-Summary.is (Runs-summary _ _ _ _ _ c.summarize.ensures.summary)

pub returns-in-Summary-clause-unread : goal.returns-in-Summary-clause-unread
returns-in-Summary-clause-unread g c = λ _. (refl, c.summarize.ensures.summary.ends)

pub returns-in-Watch-clause-work : goal.returns-in-Watch-clause-work
returns-in-Watch-clause-work g c = rw c.in-Watch.is c.read_all.ensures.work

pub returns-in-Link-clause-work : goal.returns-in-Link-clause-work
returns-in-Link-clause-work g c = rw c.in-Link.is c.read_all-in-Link.ensures.work

pub returns-in-Generate-clause-work : goal.returns-in-Generate-clause-work
returns-in-Generate-clause-work g c = rw c.in-Generate.is refl

pub returns-in-Summary-clause-work : goal.returns-in-Summary-clause-work
returns-in-Summary-clause-work g c = rw c.in-Summary.is c.summarize.ensures.work
