use Rattle.std.proofs.Common.{◌<◌, length, map}
use Rattle.std.proofs.lemmas.List.{length-map}
use Rattle.subset_drop.proofs.Pairs.{pairs_more}
use Rattle.subset_drop.proofs.Steps.{numbers_there}
use Rattle.subset_drop.proofs.index.pairs_of.Goals as goal

pub loop-place-preserved : goal.loop-place-preserved
loop-place-preserved c =
    let l : c.loop-place.place < length (map (λ list. list.items) c.args.lists.now) = simp length-map c.loop-place-test.true in
    let there = numbers_there c.args.lists.now c.loop-place.place c.index-lists-place.result c.loop-place-test.true c.index-lists-place.is in
    rw (c.in_ok-push_pairs.ensures, c.as_slice.ensures.value, there) (pairs_more (map (λ list. list.items) c.args.lists.now) c.loop-place.place c.loop-place.pairs.items l c.loop-place.invariant)
