use Rattle.std.proofs.Common.{◌<◌, length, map, sym, subst, ap, ◌∙◌}
use Rattle.std.proofs.lemmas.List.{take_all}
use Rattle.std.specs.List.{All}
use Rattle.closed_tracks.specs.InOneList.{AreOfSet, tracklets_numbered}
use Rattle.closed_tracks.proofs.Walks.{of_each, one_more_of, within_all}
use Rattle.closed_tracks.proofs.tracks.tracks_of.Goals as goal

pub copies_of-requires : goal.copies_of-requires
copies_of-requires c =
    let set : AreOfSet (map (λ tracklet. tracklet.now) c.args.tracklets.now) c.set-item.result.items = of_each (AreOfSet (map (λ tracklet. tracklet.now) c.args.tracklets.now)) c.args.sets.now c.loop-set.set-index c.set-item.result c.requires c.loop-set-test.true c.set-item.is in
    subst (All (λ number. number < length c.args.tracklets.now)) (sym c.as_slice.ensures.value) (within_all _ c.args.tracklets.now c.set-item.result.items set.within)

pub of_rising-requires : goal.of_rising-requires
of_rising-requires c =
    let set : AreOfSet (map (λ tracklet. tracklet.now) c.args.tracklets.now) c.set-item.result.items = of_each (AreOfSet (map (λ tracklet. tracklet.now) c.args.tracklets.now)) c.args.sets.now c.loop-set.set-index c.set-item.result c.requires c.loop-set-test.true c.set-item.is in
    rw (c.in_ok-copies.ensures, c.as_slice.ensures.value) set.set

pub loop-set-preserved : goal.loop-set-preserved
loop-set-preserved c =
    let track = tracklets_numbered (map (λ tracklet. tracklet.now) c.args.tracklets.now) in
    one_more_of track c.args.sets.now c.loop-set.set-index c.set-item.result c.loop-set.tracks.items _ _ c.loop-set-test.true c.set-item.is
    (c.of_rising.ensures ∙ (c.in_ok-copies.ensures ∙ ap track c.as_slice.ensures.value)) c.in_ok-push.ensures.items c.loop-set.invariant

pub returns : goal.returns
returns c = rw (← take_all c.loop-set.set-index c.args.sets.now c.loop-set-test.false) c.loop-set.invariant
