use Rattle.std.proofs.Common.{◌<◌, length, map}
use Rattle.std.proofs.lemmas.List.{length-map}
use Rattle.subset_drop.proofs.Keeping.{judged}
use Rattle.subset_drop.proofs.Steps.{numbers_there}
use Rattle.subset_drop.proofs.dropping.passes.Goals as goal

pub returns : goal.returns
returns c =
    let one = numbers_there c.args.lists.now c.args.place c.index-lists-place.result c.requires.place c.index-lists-place.is in
    let two = numbers_there c.args.lists.now c.args.other c.index-lists-other.result c.requires.other c.index-lists-other.is in
    let says = rw (c.as_slice.ensures.value, c.as_slice-2.ensures.value, one, two) at c.gives_way-gives.ensures in
    let l : c.args.other < length (map (λ list. list.items) c.args.lists.now) = simp length-map c.requires.other in
    judged c.gives_way-gives.result (map (λ list. list.items) c.args.lists.now) c.args.other c.args.place l says
