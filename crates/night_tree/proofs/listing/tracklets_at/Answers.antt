use Rattle.std.proofs.Common.{◌∙◌, map, ap}
use Rattle.sky_units.specs.AtPlaces.{spots_at}
use Rattle.night_tree.specs.Nights.{in_order}
use Rattle.night_tree.specs.Tracklets.{IsSet}
use Rattle.night_tree.proofs.NightTracklets.{all_in_order}
use Rattle.night_tree.proofs.Sets.{listed_none, listed_one}
use Rattle.night_tree.proofs.listing.tracklets_at.Goals as goal

pub loop-set-init : goal.loop-set-init
loop-set-init c =
    listed_none (λ set. set.items) c.args.spots.now (in_order c.args.sets.items) c.in_ok-tracklets.tracklets.items c.into_iter-set-iterator.result.rest.items (all_in_order (IsSet c.args.spots.now) c.args.sets.items c.requires)
    (ap (map (λ set. set.items)) c.into_iter-set-iterator.ensures.into_iter_gives.0 ∙ c.in_ok-ordered.ensures) c.in_ok-tracklets.ensures.items

pub loop-set-preserved : goal.loop-set-preserved
loop-set-preserved c =
    let together = c.of_rising.ensures ∙ c.in_ok-together.ensures ∙ ap (spots_at c.args.spots.now) c.as_slice.ensures.value in
    listed_one (λ set. set.items) c.args.spots.now (in_order c.args.sets.items) c.loop-set.tracklets.items c.push.new.self.items c.loop-set.set-iterator.rest.items c.next.new.self.rest.items c.in-Some.set c.of_rising.result c.loop-set.invariant c.in-Some.ensures.steps.0 together c.in_ok-push.ensures.items
