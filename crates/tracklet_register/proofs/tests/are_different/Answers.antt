use Rattle.std.proofs.Common.{take, sym, subst, rules}
use Rattle.std.proofs.lemmas.List.{take_all}
use Rattle.std.specs.List.{Contains}
use Rattle.sky_units.proofs.Steps.{taken}
use Rattle.sky_units.specs.TrackletData.{NightTracklets}
use Rattle.tracklet_register.proofs.Lists.{different_push}
use Rattle.tracklet_register.specs.Replacing.{AreDifferent}
use Rattle.tracklet_register.proofs.tests.are_different.Goals as goal

pub loop-place-preserved : goal.loop-place-preserved
loop-place-preserved c =
    let next = taken c.args.tracklets.now c.loop-place.place c.index-tracklets-place.result c.loop-place-test.true c.index-tracklets-place.is in
    let new : ¬ (Contains (take c.loop-place.place c.args.tracklets.now) c.index-tracklets-place.result) = search rules in
    subst (λ (list : NightTracklets). AreDifferent list) (sym next) (different_push (take c.loop-place.place c.args.tracklets.now) c.index-tracklets-place.result c.loop-place.invariant new)

pub returns : goal.returns
returns c = λ t. subst (λ (list : NightTracklets). AreDifferent list) (take_all c.loop-place.place c.args.tracklets.now c.loop-place-test.false) c.loop-place.invariant
