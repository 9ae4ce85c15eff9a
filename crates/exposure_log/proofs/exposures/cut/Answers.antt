use Rattle.std.proofs.Common.{◌≡◌, ◌<◌, ◌-◌, ◌∙◌, arith, rules, length, drop, vec_len}
use Rattle.std.proofs.lemmas.Bool.{eqb-true}
use Rattle.std.proofs.lemmas.List.{length-drop}
use Rattle.exposure_log.proofs.Cutting.{ids_rise, back_rises, back_is_one, taken_off, one_more, all_cut}
use Rattle.exposure_log.proofs.exposures.cut.Goals as goal

pub exposure_of-requires-clause-few : goal.exposure_of-requires-clause-few
exposure_of-requires-clause-few c =
    let few = c.loop-alloc.invariant.few in
    let many : length c.in_ok-last.last.items ≡ length c.loop-alloc.rest.items - c.start_of_last-start.result = rw c.in_ok-last.ensures.taken (length-drop c.start_of_last-start.result c.loop-alloc.rest.items) in
    omega (arith, few, many, c.in_ok-last.last.ok.0)

pub exposure_of-requires-clause-one_exposure : goal.exposure_of-requires-clause-one_exposure
exposure_of-requires-clause-one_exposure c =
    rw c.in_ok-last.ensures.taken (back_is_one c.loop-alloc.rest.items c.start_of_last-start.result (rw c.as_slice.ensures.value at c.start_of_last-start.ensures.within) (rw c.as_slice.ensures.value at c.start_of_last-start.ensures.last))

pub exposure_of-requires-clause-order : goal.exposure_of-requires-clause-order
exposure_of-requires-clause-order c =
    let within : c.start_of_last-start.result < length c.loop-alloc.rest.items = rw c.as_slice.ensures.value at c.start_of_last-start.ensures.within in
    let one = back_is_one c.loop-alloc.rest.items c.start_of_last-start.result within (rw c.as_slice.ensures.value at c.start_of_last-start.ensures.last) in
    rw c.in_ok-last.ensures.taken (ids_rise (drop c.start_of_last-start.result c.loop-alloc.rest.items) one (back_rises c.loop-alloc.rest.items c.start_of_last-start.result within c.loop-alloc.invariant.rising))

pub loop-alloc-preserved : goal.loop-alloc-preserved
loop-alloc-preserved c =
    let within : c.start_of_last-start.result < length c.loop-alloc.rest.items = rw c.as_slice.ensures.value at c.start_of_last-start.ensures.within in
    let x = c.in_ok-exposure_of.ensures in
    let off = taken_off c.loop-alloc.rest.items c.start_of_last-start.result within c.in_ok-exposure_of.field-0 x.1 (x.0 ∙ c.in_ok-last.ensures.taken) (rw c.as_slice.ensures.value at c.start_of_last-start.ensures.other) in
    rw (c.in_ok-last.ensures.kept, c.in_ok-push.ensures.items)
    (one_more c.args.sorted.items c.loop-alloc.rest.items c.loop-alloc.exposures.items c.start_of_last-start.result c.in_ok-exposure_of.field-0 c.loop-alloc.invariant within off)

pub returns : goal.returns
returns c =
    let none : vec_len c.loop-alloc.rest ≡ 0 = eqb-true (vec_len c.loop-alloc.rest) 0 (search rules) in
    rw c.reverse.ensures.items (all_cut c.args.sorted.items c.loop-alloc.rest.items c.loop-alloc.exposures.items c.requires.order (omega (arith, none, c.loop-alloc.rest.ok.0)) c.loop-alloc.invariant)
