use Rattle.std.proofs.Common.{sym, ◌∙◌}
use Rattle.miti_text.proofs.Shown.{seven_shown}
use Rattle.miti_text.proofs.reading.parse.Goals as goal

pub parse_words-requires-clause-id : goal.parse_words-requires-clause-id
parse_words-requires-clause-id c = (seven_shown c.args.line.now c.in-Some.words (sym c.is_text.ensures ∙ c.if-not-is_text.false) c.in-Some.ensures.value).0

pub parse_words-requires-clause-site : goal.parse_words-requires-clause-site
parse_words-requires-clause-site c = (seven_shown c.args.line.now c.in-Some.words (sym c.is_text.ensures ∙ c.if-not-is_text.false) c.in-Some.ensures.value).1

pub parse_words-requires-clause-name : goal.parse_words-requires-clause-name
parse_words-requires-clause-name c = (seven_shown c.args.line.now c.in-Some.words (sym c.is_text.ensures ∙ c.if-not-is_text.false) c.in-Some.ensures.value).2
