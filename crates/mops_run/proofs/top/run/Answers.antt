use Rattle.std.proofs.Common.{◌≡◌, sym, ◌∙◌}
use Rattle.std.specs.Prelude.{Some, None}
use Rattle.mops_run.specs.Forms.{form_of}
use Rattle.mops_run.proofs.ByForm.{completed, for_form}
use Rattle.mops_run.proofs.top.run.Goals as goal

pub returns-clause-usage : goal.returns-clause-usage
returns-clause-usage g c =
    let found : form_of c.args.words.now ≡ Some c.in-Some.form = sym c.form_of.ensures.form ∙ c.in-Some.is in
    (λ is. absurd (c.run_form.ensures.runs.used is), λ none. let both = sym found ∙ none in cc)

pub returns-clause-untouched : goal.returns-clause-untouched
returns-clause-untouched g c = λ is. absurd (c.run_form.ensures.runs.used is)

pub returns-clause-whole : goal.returns-clause-whole
returns-clause-whole g c = for_form _ _ _ (sym c.form_of.ensures.form ∙ c.in-Some.is) c.run_form.ensures.runs.whole

pub returns-clause-front : goal.returns-clause-front
returns-clause-front g c = for_form _ _ _ (sym c.form_of.ensures.form ∙ c.in-Some.is) c.run_form.ensures.runs.front

pub returns-clause-part : goal.returns-clause-part
returns-clause-part g c = λ stops. for_form _ _ _ (sym c.form_of.ensures.form ∙ c.in-Some.is) (c.run_form.ensures.runs.part stops)

pub returns-clause-spent : goal.returns-clause-spent
returns-clause-spent g c = for_form _ _ _ (sym c.form_of.ensures.form ∙ c.in-Some.is) c.run_form.ensures.runs.spent

pub returns-clause-flushed : goal.returns-clause-flushed
returns-clause-flushed g c = c.run_form.ensures.runs.flushed

pub returns-clause-source_faults : goal.returns-clause-source_faults
returns-clause-source_faults g c = c.run_form.ensures.runs.source_faults

pub returns-clause-sink_faults : goal.returns-clause-sink_faults
returns-clause-sink_faults g c = c.run_form.ensures.runs.sink_faults

pub returns-clause-taken : goal.returns-clause-taken
returns-clause-taken g c = λ _. c.run_form.ensures.runs.taken

pub returns-clause-unread : goal.returns-clause-unread
returns-clause-unread g c = for_form _ _ _ (sym c.form_of.ensures.form ∙ c.in-Some.is) c.run_form.ensures.unread

pub returns-clause-completes : goal.returns-clause-completes
returns-clause-completes g c = for_form _ _ _ (sym c.form_of.ensures.form ∙ c.in-Some.is)
    (completed _ _ _ _ _ _ c.run_form.ensures.runs (λ no. (c.run_form.ensures.unread no).1))

pub returns-clause-work : goal.returns-clause-work
returns-clause-work g c = for_form _ _ _ (sym c.form_of.ensures.form ∙ c.in-Some.is) c.run_form.ensures.work
