use Rattle.std.proofs.Common.{◌≡◌, ◌<◌, length, get_or, sym, ap, ◌∙◌, arith}
use Rattle.std.proofs.lemmas.List.{get_or-map, length-map}
use Rattle.std.proofs.lemmas.List.Sums.{sum_by_more}
use Rattle.sky_units.specs.TrackletData.{NightTracklets}
use Rattle.night_tree.specs.Nights.{NightData, tracklets_of_each}
use Rattle.window_incr.proofs.state.tracklet_count.Goals as goal

pub loop-night-preserved : goal.loop-night-preserved
loop-night-preserved c =
    let so_far = c.loop-night.invariant in
    let all = tracklets_of_each c.args.nights.now in
    let within : c.loop-night.night-index < length all = omega (arith, c.loop-night-test.true, length-map c.args.nights.now (λ (night : NightData). night.tracklets)) in
    let more = sum_by_more (λ (night : NightTracklets). length night) all c.loop-night.night-index c.night-item.result.tracklets within in
    let here : c.tracklets.result.now ≡ get_or all c.loop-night.night-index c.night-item.result.tracklets =
    c.tracklets.ensures ∙ ap (λ (night : NightData). night.tracklets) c.night-item.is ∙ sym (get_or-map (λ (night : NightData). night.tracklets) c.args.nights.now c.loop-night.night-index c.night-item.result c.night-item.result.tracklets c.loop-night-test.true) in
    record {
      count = omega (arith, so_far.count, more, ap length here);
      small = omega (arith, so_far.small, c.tracklets.type_inv);
    }

pub overflow_add-count : goal.overflow_add-count
overflow_add-count c =
    let so_far = c.loop-night.invariant in
    omega (arith, so_far.small, c.loop-night-test.true, c.requires, c.tracklets.type_inv)
