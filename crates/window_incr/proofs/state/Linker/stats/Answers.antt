use Rattle.std.proofs.Common.{List, length, sym, ap, subst, ◌∙◌, arith}
use Rattle.std.specs.List.{sum_by}
use Rattle.sky_units.specs.TrackletData.{NightTracklets}
use Rattle.sky_units.specs.Tracks.{AreMaximalTracks, AreNights}
use Rattle.night_tree.specs.Nights.{NightData, tracklets_of_each}
use Rattle.kept_tracks.specs.KeptFor.{AreKeptFor}
use Rattle.window_incr.specs.LinkerState.{LinkerState}
use Rattle.kept_nights.specs.KeptNights.{RiseByNumber}
use Rattle.kept_nights.proofs.DifferentTracklets.{HaveEachOnce, each_once}
use Rattle.kept_nights.proofs.HeldNights.{in_order_follow}
use Rattle.kept_nights.proofs.KeptNights.{numbers_rise}
use Rattle.window_incr.proofs.ReportLists.{some_listed}
use Rattle.window_incr.proofs.Valid.{few_kept}
use Rattle.window_incr.proofs.state.Linker.stats.Goals as goal

pub maximal-requires-clause-kept : goal.maximal-requires-clause-kept
maximal-requires-clause-kept c = (c.self.inside.settings, subst (λ (nights : List NightData). AreKeptFor c.self.inside.settings nights c.self.inside.kept) (sym c.as_slice.ensures.value) c.self.invariant.3)

pub maximal-requires-clause-follow : goal.maximal-requires-clause-follow
maximal-requires-clause-follow c =
    let s : LinkerState = record { settings = c.self.inside.settings; log = c.self.inside.log } in
    subst AreNights (sym (ap tracklets_of_each (c.as_slice.ensures.value ∙ c.self.invariant.2))) (in_order_follow s c.window.ensures.orderly)

pub maximal-requires-clause-rising : goal.maximal-requires-clause-rising
maximal-requires-clause-rising c = subst RiseByNumber (sym (c.as_slice.ensures.value ∙ c.self.invariant.2)) (numbers_rise (record { settings = c.self.inside.settings; log = c.self.inside.log }))

pub maximal-requires-clause-different : goal.maximal-requires-clause-different
maximal-requires-clause-different c =
    let s : LinkerState = record { settings = c.self.inside.settings; log = c.self.inside.log } in
    subst HaveEachOnce (sym (ap tracklets_of_each (c.as_slice.ensures.value ∙ c.self.invariant.2))) (each_once s c.window.ensures.orderly)

pub tracklet_count-requires : goal.tracklet_count-requires
tracklet_count-requires c =
    few_kept (record { settings = c.self.inside.settings; log = c.self.inside.log }) c.as_slice-2.result.now c.window.ensures.orderly (c.as_slice-2.ensures.value ∙ c.self.invariant.2)

pub returns : goal.returns
returns c =
    let s : LinkerState = record { settings = c.self.inside.settings; log = c.self.inside.log } in
    let nights = ap tracklets_of_each (c.as_slice.ensures.value ∙ c.self.invariant.2) in
    let found = some_listed s c.in_ok-tracks.tracks.items record { shift = c.self.invariant.0; orderly = c.window.ensures.orderly } (subst (λ (nights : List NightTracklets). AreMaximalTracks s.settings nights c.in_ok-tracks.tracks.items) nights (c.in_ok-tracks.ensures c.self.inside.settings (subst (λ (nights : List NightData). AreKeptFor c.self.inside.settings nights c.self.inside.kept) (sym c.as_slice.ensures.value) c.self.invariant.3))) in
    rw (← c.self.view_is) (record {
      exposures = c.exposures.ensures;
      detections = c.detections.ensures;
      tracklets = c.tracklet_count.ensures ∙ ap (λ (nights : List NightData). sum_by (λ (night : NightTracklets). length night) (tracklets_of_each nights)) (c.as_slice-2.ensures.value ∙ c.self.invariant.2);
      list = found.ordered;
      is_list = found.is_list;
      tracks = omega (arith, c.len.ensures, c.in_ok-tracks.tracks.ok, found.as_many);
    })
