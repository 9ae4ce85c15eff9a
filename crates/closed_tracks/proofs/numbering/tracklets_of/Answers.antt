use Rattle.std.proofs.Common.{◌++◌, map, refl, ◌∙◌, ap}
use Rattle.night_tree.specs.Nights.{NightData}
use Rattle.closed_tracks.specs.InOneList.{all_tracklets}
use Rattle.closed_tracks.proofs.Walks.{walk_end, walk_more}
use Rattle.closed_tracks.proofs.numbering.tracklets_of.Goals as goal

pub loop-night-preserved : goal.loop-night-preserved
loop-night-preserved c =
    walk_more all_tracklets (λ (night : NightData). night.tracklets) (λ night nights. refl) c.args.nights.now c.loop-night.night-index c.night-item.result _ _ c.loop-night-test.true c.night-item.is
    (c.in_ok-push_tracklets.ensures ∙ ap (λ own. map (λ tracklet. tracklet.now) c.loop-night.tracklets.items ++ own) c.tracklets.ensures)
    c.loop-night.invariant

pub returns : goal.returns
returns c = walk_end all_tracklets refl c.args.nights.now c.loop-night.night-index _ c.loop-night-test.false c.loop-night.invariant
