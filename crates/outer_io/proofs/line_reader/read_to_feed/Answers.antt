use Rattle.std.proofs.Common.{refl, arith}
use Rattle.outer_io.proofs.Begun.{start, go_on, at_end, at_limit, at_feed}
use Rattle.outer_io.proofs.line_reader.read_to_feed.Goals as goal

pub loop-count-init : goal.loop-count-init
loop-count-init g c = start _ _ _ _ _ c.requires.begun c.requires.limit refl

pub loop-count-preserved : goal.loop-count-preserved
loop-count-preserved g c = go_on _ c.loop-count.buffer c.read_into.new.buffer c.loop-count.kept c.in-Ok.count c.min-kept.result _ _ _ _ _ c.loop-count.invariant
    c.in-Ok.ensures.front (omega (arith, c.in-Ok.ensures.within)) (omega (arith, c.in-Ok.ensures.within)) c.in-Ok.count-test.1 c.in-Ok.ensures.took c.in_default.ensures c.in-Ok.ensures.faults c.min-kept.ensures

pub returns-in-Ok-eq0 : goal.returns-in-Ok-eq0
returns-in-Ok-eq0 g c = at_end _ c.loop-count.buffer c.read_into.new.buffer c.loop-count.kept c.in-Ok-eq0.field-0 _ _ _ _ _ c.loop-count.invariant
    c.in-Ok-eq0.ensures.front c.in-Ok-eq0.field-0-test c.in-Ok-eq0.ensures.took c.in-Ok-eq0.ensures.faults

pub returns-then-full : goal.returns-then-full
returns-then-full g c = at_limit _ c.loop-count.buffer c.read_into.new.buffer c.loop-count.kept c.in-Ok.count _ _ _ _ _ c.loop-count.invariant
    (omega (arith, c.in-Ok.ensures.within)) (omega (arith, c.in-Ok.ensures.within)) c.if-full.true c.in-Ok.ensures.took c.in-Ok.ensures.faults

pub returns-in-Some : goal.returns-in-Some
returns-in-Some g c = at_feed _ c.loop-count.buffer c.read_into.new.buffer c.loop-count.kept c.in-Ok.count c.in-Some.feed _ _ _ _ _ c.loop-count.invariant
    c.in-Ok.ensures.front (omega (arith, c.in-Ok.ensures.within)) (omega (arith, c.in-Ok.ensures.within)) c.in-Some.ensures.0 c.in-Some.ensures.1 c.in-Some.ensures.2 c.in-Some.ensures.3 c.in-Ok.ensures.took c.in-Ok.ensures.faults
