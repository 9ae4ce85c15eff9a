use Rattle.std.proofs.Common.{refl, arith}
use Rattle.miti_text.proofs.Cutting.{next_none, next_some}
use Rattle.miti_text.proofs.pieces.next_word.Goals as goal

pub returns-then-end-eq0 : goal.returns-then-end-eq0
returns-then-end-eq0 c = next_none _ _ _ _ refl c.without_blanks-text.ensures.same c.word_len-end.ensures.bytes c.if-end-eq0.true

pub returns : goal.returns
returns c =
    rw (c.split_at.ensures.front, c.split_at.ensures.back)
    (next_some _ _ _ _ refl c.without_blanks-text.ensures.same c.word_len-end.ensures.bytes (omega arith))
