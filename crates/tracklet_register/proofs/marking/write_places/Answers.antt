use Rattle.std.proofs.Common.{◌≡◌, ◌<◌, Some, length, get_or, sym, subst, ap, ◌∙◌, w64, arith, rules}
use Rattle.std.proofs.lemmas.Int.{to_z-of_z}
use Rattle.std.proofs.lemmas.List.Elements.{Contains-get_or}
use Rattle.std.proofs.lemmas.Option.{slice_get-get_or, slice_get_within}
use Rattle.std.specs.List.{Contains, slice_get}
use Rattle.tracklet_register.proofs.Marks.{place_at, written_more, written_none}
use Rattle.tracklet_register.proofs.marking.write_places.Goals as goal

pub loop-place-init : goal.loop-place-init
loop-place-init c = written_none c.args.table.now.items _ c.args.numbers.now

pub index_mut-requires : goal.index_mut-requires
index_mut-requires c =
    let number = get_or c.args.numbers.now c.loop-place.place 0 in
    let has : Contains c.args.numbers.now number = Contains-get_or c.args.numbers.now c.loop-place.place 0 c.loop-place-test.true in
    let within : number < length c.loop-place.table.items = subst (λ n. number < n) (sym c.loop-place.invariant.len) (c.requires.within number has) in
    search rules

pub loop-place-preserved : goal.loop-place-preserved
loop-place-preserved c =
    let number = get_or c.args.numbers.now c.loop-place.place 0 in
    let here : slice_get c.args.numbers.now c.loop-place.place ≡ Some number = slice_get-get_or c.args.numbers.now c.loop-place.place 0 c.loop-place-test.true in
    let has : Contains c.args.numbers.now number = Contains-get_or c.args.numbers.now c.loop-place.place 0 c.loop-place-test.true in
    written_more c.args.table.now.items c.loop-place.table.items _ c.args.numbers.now c.loop-place.place number c.requires.once c.loop-place.invariant here has (c.requires.within number has)

pub returns-clause-leads : goal.returns-clause-leads
returns-clause-leads c = λ place number e.
    let within : place < length c.args.numbers.now = slice_get_within c.args.numbers.now place number e in
    let less : place < c.loop-place.place = omega (arith, within, c.loop-place-test.false) in
    c.loop-place.invariant.leads place number less e ∙ ap (λ n. Some (place_at n place)) (to_z-of_z w64 c.args.night c.ranges.night)
