use Rattle.std.proofs.Common.{◌≡◌, ◌↔◌, ◌⊎◌, subst, ◌<◌, ◌≤◌, length, take, get_or, sym, ap, ◌∙◌}
use Rattle.std.proofs.lemmas.List.{take_all, get_or-map, length-map}
use Rattle.std.specs.List.{Contains}
use Rattle.sky_units.specs.SettingsData.{AreSettings}
use Rattle.sky_units.specs.TrackletData.{TrackSetData}
use Rattle.night_tree.specs.Nights.{NightData, tracklets_of_each}
use Rattle.plain_tracks.specs.Growth.{IsSomeGrown}
use Rattle.plain_tracks.proofs.Choices.{may_grow}
use Rattle.plain_tracks.proofs.Steps.{none_fit, taken, fitting_more}
use Rattle.plain_tracks.proofs.growing.fitting_sets.Goals as goal

pub loop-night-init : goal.loop-night-init
loop-night-init c = rw c.in_ok-sets.ensures (none_fit c.args.settings.now (subst AreSettings c.settings.view_is c.settings.invariant))

pub grow-requires : goal.grow-requires
grow-requires c =
    let nights = tracklets_of_each c.args.nights.now in
    let l : c.loop-night.night-index < length (tracklets_of_each c.args.nights.now) = simp length-map c.loop-night-test.true in
    let e : c.night-item.result.tracklets ≡ get_or (tracklets_of_each c.args.nights.now) c.loop-night.night-index c.night-item.result.tracklets =
    ap (λ (night : NightData). night.tracklets) c.night-item.is ∙ sym (get_or-map (λ (night : NightData). night.tracklets) c.args.nights.now c.loop-night.night-index c.night-item.result c.night-item.result.tracklets c.loop-night-test.true) in
    λ set k. rw c.tracklets.ensures (may_grow nights c.loop-night.night-index c.night-item.result.tracklets set c.requires l e ((c.loop-night.invariant set).0 k).choice)

pub loop-night-preserved : goal.loop-night-preserved
loop-night-preserved c =
    let nights = tracklets_of_each c.args.nights.now in
    let l : c.loop-night.night-index < length (tracklets_of_each c.args.nights.now) = simp length-map c.loop-night-test.true in
    let e : c.night-item.result.tracklets ≡ get_or (tracklets_of_each c.args.nights.now) c.loop-night.night-index c.night-item.result.tracklets =
    ap (λ (night : NightData). night.tracklets) c.night-item.is ∙ sym (get_or-map (λ (night : NightData). night.tracklets) c.args.nights.now c.loop-night.night-index c.night-item.result c.night-item.result.tracklets c.loop-night-test.true) in
    let more = taken nights c.loop-night.night-index c.night-item.result.tracklets l e in
    let step : (other : TrackSetData) → Contains c.in_ok-sets-2.sets.items other ↔ (Contains c.loop-night.sets.items other ⊎ IsSomeGrown c.args.settings.now c.loop-night.sets.items c.night-item.result.tracklets other) = rw c.tracklets.ensures at c.in_ok-sets-2.ensures in
    rw more (fitting_more c.args.settings.now (take c.loop-night.night-index nights) c.night-item.result.tracklets c.loop-night.sets.items c.in_ok-sets-2.sets.items c.loop-night.invariant step)

pub returns : goal.returns
returns c =
    let l : length (tracklets_of_each c.args.nights.now) ≤ c.loop-night.night-index = simp length-map c.loop-night-test.false in
    let all : take c.loop-night.night-index (tracklets_of_each c.args.nights.now) ≡ tracklets_of_each c.args.nights.now = take_all c.loop-night.night-index (tracklets_of_each c.args.nights.now) l in
    rw (← all) c.loop-night.invariant
