use Rattle.std.proofs.Common.{◌+◌, ◌-◌, ◌∙◌, ap, take, arith}
use Rattle.outer_io.proofs.Pieces.{moved_front}
use Rattle.outer_io.proofs.line_reader.keep_begun.Goals as goal

pub returns-clause-front : goal.returns-clause-front
returns-clause-front c = ap (λ xs. take c.min-count.result xs) c.copy_within.ensures.after
    ∙ moved_front c.args.buffer.now c.args.start c.args.end c.min-count.result ((c.args.start + c.min-count.result) - c.args.start) c.min-count.ensures (omega arith) (omega arith)
