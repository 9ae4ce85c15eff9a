use Rattle.std.proofs.Common.{◌≡◌, None, Some, arith, ◌∙◌, sym, ap}
use Rattle.miti_text.specs.Observation.{Observation}
use Rattle.std.specs.BinaryHeap.{heap_items}
use Rattle.number_register.specs.Numbering.{slot}
use Rattle.number_register.proofs.Slots.{slot-set, within_from_some, read_is}
use Rattle.number_register.proofs.FreeNumbers.{freed, room_for}
use Rattle.number_register.proofs.Ids.{without}
use Rattle.number_register.proofs.Answered.{on_ok}
use Rattle.number_register.proofs.numbering.Register.let_go.Goals as goal

pub invariant_of-self : goal.invariant_of-self
invariant_of-self c =
    let within = rw (← c.self.view_is) at (within_from_some c.args.self.now c.args.number c.requires.held) in
    let there : slot c.self.inside.slots.items c.args.number ≡ Some c.in-Some.detection =
    read_is c.self.inside.slots.items c.args.number c.index_mut.result.now within c.index_mut.ensures.value ∙ sym c.in-Some.ensures.value in
    let named : c.bytes.result.now ≡ c.in-Some.detection.id = c.bytes.ensures ∙ ap (λ (x : Observation). x.id) c.detection.view_is in
    let struck = rw named at c.strike.ensures in
    let few = room_for c.self.inside.slots.items c.args.number c.in-Some.detection (heap_items c.self.inside.free) c.self.invariant.1 there in
    let pushed = c.push.ensures.succeeds (omega (arith, few, c.self.inside.free.data.ok.0, c.self.inside.slots.ok.0, c.self.invariant.2)) in
    let joins = on_ok c.push.result pushed c.push.ensures.permutation in
    let heap = on_ok c.push.result pushed c.push.ensures.heap_order c.self.invariant.1.order in
    rw c.take.ensures.after (
      without c.self.inside.slots.items c.args.number c.in-Some.detection c.self.inside.ids.by_hash.entries c.self.inside.ids.by_id.entries c.self.invariant.0 there c.strike.new.self.by_hash.entries c.strike.new.self.by_id.entries struck,
      freed c.self.inside.slots.items c.args.number c.in-Some.detection (heap_items c.self.inside.free) (heap_items c.push.new.self) c.self.invariant.1 there joins heap,
      omega (arith, c.push.ensures.capacity, c.self.invariant.2),
    )

pub returns-in-Some-clause-at : goal.returns-in-Some-clause-at
returns-in-Some-clause-at c =
    let within = within_from_some c.args.self.now c.args.number c.requires.held in
    rw (c.take.ensures.after, c.self.view_is) (λ i k. slot-set c.args.self.now c.args.number None within k i)
