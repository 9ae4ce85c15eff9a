use Rattle.std.proofs.Common.{◌≡◌, ◌<◌, length}
use Rattle.std.specs.List.{All}
use Rattle.std.specs.List.Sorted.{IsPermutation}
use Rattle.std.proofs.lemmas.List.Sorted.{All-permutation}
use Rattle.sky_units.specs.Pairs.{below}
use Rattle.box_tree.proofs.Places.{below_within}
use Rattle.box_tree.proofs.tree.Tree.build.Goals as goal

pub root_of-requires-clause-places : goal.root_of-requires-clause-places
root_of-requires-clause-places g c =
    let read : c.as_slice-2.result.now ≡ c.args.items.items = c.as_slice-2.ensures.value in
    let first : c.as_slice.result.now ≡ c.args.items.items = c.as_slice.ensures.value in
    let order : c.as_slice-order.result.now ≡ c.in_ok-ordered.ordered.places.items = c.as_slice-order.ensures.value in
    let given : IsPermutation (below (length c.as_slice.result.now)) c.in_ok-ordered.ordered.places.items = c.in_ok-ordered.ensures in
    let all : All (λ place. place < length c.args.items.items) c.in_ok-ordered.ordered.places.items =
    All-permutation (λ place. place < length c.args.items.items) (below (length c.args.items.items)) c.in_ok-ordered.ordered.places.items (rw first at given) (below_within (length c.args.items.items)) in
    rw (order, read) all
