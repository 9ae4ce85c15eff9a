use Rattle.std.proofs.Common.{◌++◌, ◌∷◌, ap, ◌∙◌, Ok}
use Rattle.miti_text.specs.contracts.detections.Detection.{the_view}
use Rattle.miti_text.specs.Lines.{detection_of}
use Rattle.miti_text.specs.Written.{line_of}
use Rattle.miti_text.proofs.RoundTrip.{line_written, line_again}
use Rattle.miti_text.proofs.writing.write_line.Goals as goal

pub returns-clause-text : goal.returns-clause-text
returns-clause-text c =
    line_written (the_view c.detection.inside) c.detection.invariant c.in_ok-text.text.items c.add_decimal.new.text.items c.add_decimal-2.new.text.items c.add_decimal-3.new.text.items
    c.add_decimal-4.new.text.items c.add_word.new.text.items c.add_word-2.new.text.items (c.in_ok-text.ensures.items ∙ c.bytes.ensures) c.in_ok-add_decimal.ensures c.in_ok-add_decimal-2.ensures c.in_ok-add_decimal-3.ensures
    c.in_ok-add_decimal-4.ensures (c.in_ok-add_word.ensures ∙ ap (λ w. c.add_decimal-4.new.text.items ++ 32 ∷ w) c.bytes-2.ensures) (c.in_ok-add_word-2.ensures ∙ ap (λ w. c.add_word.new.text.items ++ 32 ∷ w) c.bytes-3.ensures) ∙ ap line_of c.detection.view_is

pub returns-clause-reads : goal.returns-clause-reads
returns-clause-reads c =
    ap detection_of (line_written (the_view c.detection.inside) c.detection.invariant c.in_ok-text.text.items c.add_decimal.new.text.items c.add_decimal-2.new.text.items c.add_decimal-3.new.text.items
    c.add_decimal-4.new.text.items c.add_word.new.text.items c.add_word-2.new.text.items (c.in_ok-text.ensures.items ∙ c.bytes.ensures) c.in_ok-add_decimal.ensures c.in_ok-add_decimal-2.ensures c.in_ok-add_decimal-3.ensures
    c.in_ok-add_decimal-4.ensures (c.in_ok-add_word.ensures ∙ ap (λ w. c.add_decimal-4.new.text.items ++ 32 ∷ w) c.bytes-2.ensures) (c.in_ok-add_word-2.ensures ∙ ap (λ w. c.add_word.new.text.items ++ 32 ∷ w) c.bytes-3.ensures)) ∙ line_again (the_view c.detection.inside) c.detection.invariant ∙ ap Ok c.detection.view_is
