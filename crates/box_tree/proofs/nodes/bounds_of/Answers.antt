use Rattle.std.proofs.Common.{◌≡◌, take}
use Rattle.std.specs.List.{All}
use Rattle.std.proofs.lemmas.List.{take_all}
use Rattle.box_tree.specs.Nodes.{Lies}
use Rattle.box_tree.proofs.OwnBoxes.{one_more_lies}
use Rattle.box_tree.proofs.nodes.bounds_of.Goals as goal

pub loop-place-preserved : goal.loop-place-preserved
loop-place-preserved g c =
    let t = g.T.Located in
    one_more_lies t.AXES t.lows t.highs c.args.items.now c.args.places.now c.loop-place.place-index c.index-items-place.result c.loop-place.bounds c.own_bounds.result c.joined_bounds-bounds.result
    g.met.T.Located.few_axes.1 c.loop-place-test.true (c.requires c.loop-place.place-index 0 c.loop-place-test.true) c.index-items-place.is c.own_bounds.ensures c.joined_bounds-bounds.ensures.one c.joined_bounds-bounds.ensures.other c.loop-place.invariant

pub returns : goal.returns
returns g c =
    let t = g.T.Located in
    let whole : take c.loop-place.place-index c.args.places.now ≡ c.args.places.now = take_all c.loop-place.place-index c.args.places.now c.loop-place-test.false in
    let all : All (λ place. Lies t.AXES t.lows t.highs c.args.items.now place c.loop-place.bounds) (take c.loop-place.place-index c.args.places.now) = c.loop-place.invariant in
    rw whole at all
