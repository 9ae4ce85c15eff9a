use Rattle.std.proofs.Common.{◌∙◌, rules}
use Rattle.mops_run.proofs.Words.{minus_has_no_size, number_without_minus}
use Rattle.mops_run.proofs.forms.read_size.Goals as goal

pub returns-then-begins_with_minus : goal.returns-then-begins_with_minus
returns-then-begins_with_minus c = minus_has_no_size c.args.word.now (search rules)

pub returns : goal.returns
returns c = c.read_number.ensures ∙ number_without_minus c.args.word.now (search rules)
