use Rattle.std.proofs.Common.{sym, ◌∙◌}
use Rattle.miti_text.specs.Words.{words}
use Rattle.script_text.proofs.Cases.{detection_case, no_bad_command}
use Rattle.script_text.proofs.reading.read_script_line.Goals as goal

pub returns-then-not-begins_with-clause-answer : goal.returns-then-not-begins_with-clause-answer
returns-then-not-begins_with-clause-answer c =
    let case = detection_case c.args.line.now (sym c.begins_with.ensures ∙ c.if-begins_with.false) c.if-line-gt-MOST_BYTES.false
    (sym c.are_blanks.ensures ∙ c.if-are_blanks.false) (sym c.begins_with-2.ensures ∙ c.if-not-begins_with.true) in
    rw case c.read_detection.ensures.answer

pub returns-clause-cause : goal.returns-clause-cause
returns-clause-cause c = no_bad_command (words c.args.line.now) c.read_command.result c.read_command.ensures
