use Rattle.std.proofs.Common.{drop, ap, ◌∙◌}
use Rattle.miti_text.specs.Words.{is_blank, words}
use Rattle.miti_text.proofs.Cutting.{words_after_blanks}
use Rattle.miti_text.proofs.pieces.without_blanks.Goals as goal

pub returns-clause-words : goal.returns-clause-words
unfolding words
returns-clause-words c =
    ap words (c.split_at.ensures.back ∙ ap (λ n. drop n c.args.text.now) c.blanks_in_front.ensures.blanks) ∙ words_after_blanks is_blank c.args.text.now
