use Rattle.sky_units.proofs.SpotsAtPlaces.{one_more_spot}
use Rattle.sky_units.proofs.placed.spots_at.Goals as goal

pub loop-at-preserved : goal.loop-at-preserved
loop-at-preserved c = rw c.in_ok-push.ensures.items (one_more_spot c.args.spots.now c.args.places.now c.loop-at.at c.index-spots-place.result c.loop-at.found.items c.loop-at-test.true c.requires c.index-spots-place.is c.loop-at.invariant)
