use Rattle.std.proofs.Common.{◌≡◌, length, arith, ap, ◌∙◌}
use Rattle.std.specs.Result.{IsOk}
use Rattle.std.proofs.lemmas.List.{length_push}
use Rattle.number_register.specs.Numbering.{slot, count_held}
use Rattle.number_register.proofs.Takings.{next_is_fresh, next_within, took_one_more, took_all, let_go_again}
use Rattle.number_register.proofs.taking.take_all.Goals as goal

pub take_in-requires-clause-fresh : goal.take_in-requires-clause-fresh
take_in-requires-clause-fresh c =
    next_is_fresh (slot c.args.register.now) c.args.detections.items c.loop-detection.rest.items c.pop.new.self.items c.loop-detection.numbers.items (slot c.loop-detection.register) c.in-Some.detection
    c.loop-detection.invariant.took c.in-Some.ensures.items c.requires.fresh c.requires.apart

pub loop-detection-preserved : goal.loop-detection-preserved
loop-detection-preserved c =
    let within = next_within (slot c.args.register.now) c.args.detections.items c.loop-detection.rest.items c.pop.new.self.items c.loop-detection.numbers.items (slot c.loop-detection.register) c.in-Some.detection
    c.loop-detection.invariant.took c.in-Some.ensures.items in
    let ok : IsOk c.push.result = c.push.ensures.succeeds (omega (arith, within, c.loop-detection.invariant.room, c.loop-detection.numbers.ok.0)) in
    let items = rw ok at c.push.ensures.items in
    let taken = c.in-Ok.ensures.ok in
    let more = length_push c.loop-detection.numbers.items c.in-Ok.number in
    rw (items, c.give_back.ensures) record {
      took = took_one_more (slot c.args.register.now) c.args.detections.items c.loop-detection.rest.items c.pop.new.self.items c.loop-detection.numbers.items (slot c.loop-detection.register) c.in-Some.detection
          c.loop-detection.invariant.took c.in-Some.ensures.items c.in-Ok.number (slot c.take_in.new.self) taken.0 taken.1;
      count = omega (arith, taken.2, c.loop-detection.invariant.count, more);
      room = omega (arith, c.push.ensures.capacity, c.loop-detection.invariant.room);
    }

pub let_go_all-requires-clause-held : goal.let_go_all-requires-clause-held
let_go_all-requires-clause-held c =
    let again = let_go_again (slot c.args.register.now) c.args.detections.items c.loop-detection.rest.items c.loop-detection.numbers.items (slot c.loop-detection.register) c.loop-detection.invariant.took in
    rw (c.as_slice.ensures.value, c.in-Err.ensures.err) again.0

pub let_go_all-requires-clause-apart : goal.let_go_all-requires-clause-apart
let_go_all-requires-clause-apart c =
    let again = let_go_again (slot c.args.register.now) c.args.detections.items c.loop-detection.rest.items c.loop-detection.numbers.items (slot c.loop-detection.register) c.loop-detection.invariant.took in
    rw c.as_slice.ensures.value again.1

pub returns-in-Err-clause-err : goal.returns-in-Err-clause-err
returns-in-Err-clause-err c =
    let again = let_go_again (slot c.args.register.now) c.args.detections.items c.loop-detection.rest.items c.loop-detection.numbers.items (slot c.loop-detection.register) c.loop-detection.invariant.took in
    let gone = rw (c.in-Err.ensures.err, c.as_slice.ensures.value) at c.let_go_all.ensures.at in
    let same : count_held c.take_in.new.self ≡ count_held c.loop-detection.register = ap count_held c.in-Err.ensures.err in
    (gone ∙ (λ i k. again.2 k i), omega (arith, c.let_go_all.ensures.count, ap length c.as_slice.ensures.value, same, c.loop-detection.invariant.count))

pub returns-clause-ok : goal.returns-clause-ok
returns-clause-ok c =
    let all = took_all (slot c.args.register.now) c.args.detections.items c.loop-detection.rest.items c.loop-detection.numbers.items (slot c.loop-detection.register) c.loop-detection.invariant.took
    (omega (arith, c.in_default.ensures.cases, c.loop-detection.rest.ok.0)) in
    (all.1, omega (arith, all.0, c.loop-detection.invariant.count))
