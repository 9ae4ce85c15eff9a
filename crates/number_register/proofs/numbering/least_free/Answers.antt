use Rattle.std.proofs.Common.{◌<◌, arith, rules, length}
use Rattle.std.specs.BinaryHeap.{heap_items}
use Rattle.number_register.proofs.FreeNumbers.{least_is, top_within, often_first}
use Rattle.number_register.proofs.numbering.least_free.Goals as goal

pub returns-in-Some-clause-least : goal.returns-in-Some-clause-least
returns-in-Some-clause-least c =
    let some : 0 < length (heap_items c.args.free.now) = search rules in
    least_is c.args.slots.now c.in-Some.least.now (heap_items c.args.free.now) c.requires.free (c.in-Some.ensures.greatest c.requires.free.order) (often_first c.in-Some.least.now (heap_items c.args.free.now) some c.in-Some.ensures.lookup)

pub returns-in-Some-clause-within : goal.returns-in-Some-clause-within
returns-in-Some-clause-within c =
    let some : 0 < length (heap_items c.args.free.now) = search rules in
    let h = top_within c.args.slots.now c.in-Some.least.now (heap_items c.args.free.now) c.requires.free (often_first c.in-Some.least.now (heap_items c.args.free.now) some c.in-Some.ensures.lookup) in
    omega arith
