use Rattle.std.proofs.Common.{◌++◌, IsTrue, true, false, refl, arith}
use Rattle.std.proofs.lemmas.Bool.{false≢true}
use Rattle.sky_units.proofs.RisingLists.{set_first, set_step, set_stop}
use Rattle.sky_units.specs.Arcs.{HaveRisingEpochs}
use Rattle.sky_units.specs.TrackletData.{IsTracklet}
use Rattle.sky_units.proofs.tracklets.follow.Goals as goal
use Rattle.sky_units.proofs.tracklets.follow.Goals.{then-i-gt0+else-not-rise_across, else-i-gt0}

pub returns-then-not-rise_across : goal.returns-then-not-rise_across
returns-then-not-rise_across c =
    let list = c.args.tracklets.now in
    let t = c.index-tracklets-i in
    let b = c.index-tracklets-i-then-i-gt0 in
    let told : HaveRisingEpochs (c.spots.result.now ++ c.spots-spots.result.now) → IsTrue false = c.if-not-rise_across.ensures.1 in
    let apart : ¬ HaveRisingEpochs (b.result ++ t.result) = λ h. false≢true ((rw (c.spots.ensures.value, c.spots-spots.ensures.value) at told) h) in
    (λ h. absurd (false≢true h), λ h. absurd (set_stop list b.result t.result c.loop-i.i (omega arith) (omega arith) b.is t.is apart h))

pub loop-i-preserved : goal.loop-i-preserved
loop-i-preserved c =
    let list = c.args.tracklets.now in
    let t = c.index-tracklets-i in
    let two : IsTracklet t.result = c.spots-spots.ensures.tracklet in
    elim c.if-i-gt0.branch [
      | then-i-gt0+else-not-rise_across w ↦
          (let b = w.index-tracklets-i-then-i-gt0 in
          let one : IsTracklet b.result = w.spots.ensures.tracklet in
          let told : IsTrue true → HaveRisingEpochs (w.spots.result.now ++ c.spots-spots.result.now) = w.if-not-rise_across.ensures.0 in
          let across : HaveRisingEpochs (b.result ++ t.result) = (rw (w.spots.ensures.value, c.spots-spots.ensures.value) at told) refl in
          set_step list b.result t.result c.loop-i.i (omega arith) (omega arith) b.is t.is one across c.loop-i.invariant)
      | else-i-gt0 w ↦ set_first list t.result c.loop-i.i (omega arith) (omega arith) t.is two
    ]
