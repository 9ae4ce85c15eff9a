use Rattle.std.proofs.Common.{◌≡◌, ◌++◌, ◌∷◌, [], ◌↔◌, IsTrue, List, take, sym, ◌∙◌}
use Rattle.std.proofs.lemmas.Bool.{false≢true}
use Rattle.std.proofs.lemmas.List.{take_all}
use Rattle.std.specs.List.{Contains}
use Rattle.sky_units.specs.SpotData.{SpotData}
use Rattle.sky_units.specs.TrackletData.{spots_of}
use Rattle.plain_tracks.specs.Growth.{FitTogether}
use Rattle.plain_tracks.proofs.Steps.{taken, spots_of-push, grown_none, grown_yes, grown_no}
use Rattle.plain_tracks.proofs.growing.push_grown.Goals as goal
use Rattle.plain_tracks.proofs.growing.push_grown.Goals.{then-fit_together+in_ok-set_and+in_ok-push, else-fit_together}

pub loop-tracklet-init : goal.loop-tracklet-init
loop-tracklet-init c = grown_none c.args.settings.now c.args.set.now c.args.grown.now.items

pub fit_together-requires : goal.fit_together-requires
fit_together-requires c =
    let t : List SpotData = c.tracklet-item.result in
    let k : Contains c.args.night.now c.tracklet-item.result = (c.loop-tracklet.tracklet-index, c.loop-tracklet-test.true, sym c.tracklet-item.is) in
    rw (c.as_slice.ensures.value, c.in_ok-spots.ensures, c.spots.ensures.value, ← spots_of-push c.args.set.now c.tracklet-item.result) (c.requires c.tracklet-item.result k)

pub set_and-requires : goal.set_and-requires
set_and-requires c =
    let k : Contains c.args.night.now c.tracklet-item.result = (c.loop-tracklet.tracklet-index, c.loop-tracklet-test.true, sym c.tracklet-item.is) in
    record { rising = (c.requires c.tracklet-item.result k).rising }

pub loop-tracklet-preserved : goal.loop-tracklet-preserved
loop-tracklet-preserved c =
    let night = take c.loop-tracklet.tracklet-index c.args.night.now in
    let more = taken c.args.night.now c.loop-tracklet.tracklet-index c.tracklet-item.result c.loop-tracklet-test.true c.tracklet-item.is in
    let fit : IsTrue c.fit_together.result ↔ FitTogether c.args.settings.now (spots_of (c.args.set.now ++ c.tracklet-item.result ∷ [])) =
    rw (spots_of-push c.args.set.now c.tracklet-item.result, ← c.in_ok-spots.ensures, ← c.as_slice.ensures.value, ← c.spots.ensures.value) c.fit_together.ensures in
    rw more (elim c.if-fit_together.branch [
      | then-fit_together+in_ok-set_and+in_ok-push w ↦
          rw (w.grown-is, w.in_ok-push.ensures.items, w.in_ok-set_and.ensures)
          (grown_yes c.args.settings.now c.args.set.now night c.args.grown.now.items c.loop-tracklet.grown.items c.tracklet-item.result (fit.0 w.if-fit_together.true) c.loop-tracklet.invariant)
      | else-fit_together w ↦
          rw w.grown-is
          (grown_no c.args.settings.now c.args.set.now night c.args.grown.now.items c.loop-tracklet.grown.items c.tracklet-item.result (λ f. false≢true (sym w.if-fit_together.false ∙ fit.1 f)) c.loop-tracklet.invariant)
    ])

pub returns : goal.returns
returns c =
    let all : take c.loop-tracklet.tracklet-index c.args.night.now ≡ c.args.night.now = take_all c.loop-tracklet.tracklet-index c.args.night.now c.loop-tracklet-test.false in
    rw (← all) c.loop-tracklet.invariant
