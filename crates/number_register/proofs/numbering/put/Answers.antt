use Rattle.std.proofs.Common.{sym, arith, Some}
use Rattle.std.specs.BinaryHeap.{heap_items}
use Rattle.number_register.proofs.FreeNumbers.{popped, put_in_place}
use Rattle.number_register.proofs.numbering.put.Goals as goal

pub index_mut-requires : goal.index_mut-requires
index_mut-requires c =
    let h = popped c.args.slots.now.items c.in-Some.field-0 (heap_items c.args.free.now) (heap_items c.pop.new.self) c.args.number c.requires.free c.requires.least c.in-Some.ensures.permutation (c.in-Some.ensures.heap_order c.requires.free.order) in
    omega (arith, h.0, c.args.slots.now.ok.0)

pub returns-in-Some-clause-items : goal.returns-in-Some-clause-items
returns-in-Some-clause-items c =
    let h = popped c.args.slots.now.items c.in-Some.field-0 (heap_items c.args.free.now) (heap_items c.pop.new.self) c.args.number c.requires.free c.requires.least c.in-Some.ensures.permutation (c.in-Some.ensures.heap_order c.requires.free.order) in
    sym (put_in_place c.args.slots.now.items c.args.number (Some c.args.detection) h.0)

pub returns-in-Some-clause-free : goal.returns-in-Some-clause-free
returns-in-Some-clause-free c =
    let h = popped c.args.slots.now.items c.in-Some.field-0 (heap_items c.args.free.now) (heap_items c.pop.new.self) c.args.number c.requires.free c.requires.least c.in-Some.ensures.permutation (c.in-Some.ensures.heap_order c.requires.free.order) in
    rw (put_in_place c.args.slots.now.items c.args.number (Some c.args.detection) h.0) at (h.1 c.args.detection)
