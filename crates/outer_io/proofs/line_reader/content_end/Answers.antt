use Rattle.std.proofs.Common.{◌∙◌, ap, take}
use Rattle.std.specs.Prelude.{slice_range}
use Rattle.outer_io.proofs.Pieces.{range_min}
use Rattle.outer_io.proofs.line_reader.content_end.Goals as goal

pub returns-clause-content : goal.returns-clause-content
returns-clause-content c = ap (λ n. slice_range c.args.buffer.now c.args.start n) c.min.ensures
    ∙ range_min c.args.buffer.now c.args.start c.stripped_end.result 1025 ∙ ap (λ line. take 1025 line) c.stripped_end.ensures.content
