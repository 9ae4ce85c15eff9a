use Rattle.std.proofs.Common.{◌≡◌, ◌<◌, suc, sym, ◌∙◌, arith, length, drop}
use Rattle.track_report.proofs.NextWords.{next_of, text_next, pushed, rest_of, not_empty, at_end}
use Rattle.track_report.proofs.reading.read_words.Goals as goal

pub returns-then-is_empty : goal.returns-then-is_empty
returns-then-is_empty c words more count all is =
    let before = c.loop.invariant words more count all is in
    let within : c.loop.counter < length words = omega (arith, count, c.loop-test.true) in
    not_empty words more c.loop.text.now c.loop.counter (next_of words c.loop.counter within all) before.1 (sym c.if-is_empty.ensures)

pub loop-preserved : goal.loop-preserved
loop-preserved c words more count all is =
    let before = c.loop.invariant words more count all is in
    let within : c.loop.counter < length words = omega (arith, count, c.loop-test.true) in
    let next = next_of words c.loop.counter within all in
    let here = text_next words more c.loop.text.now c.loop.counter next before.1 in
    let got = c.next_word.ensures next.word (drop (suc c.loop.counter) words) more next.plain here in
    (c.in_ok-push.ensures.ok ∙ pushed words c.loop.words _ c.loop.counter next before.0 (c.in_ok-new.ensures ∙ got.0), rest_of words more _ c.loop.counter got.1)

pub returns : goal.returns
returns c words more count all is =
    let before = c.loop.invariant words more count all is in
    let end : c.loop.counter ≡ length words = omega (arith, count, c.loop-test.false, c.loop.auto.counter-end) in
    at_end words c.loop.words more c.loop.text.now c.loop.counter end before.0 before.1
