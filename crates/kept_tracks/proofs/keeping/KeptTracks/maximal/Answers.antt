use Rattle.std.proofs.Common.{◌≡◌, ℕ, List, sym, subst, ◌∙◌}
use Rattle.std.proofs.lemmas.Result.{IfOk-weaker}
use Rattle.std.specs.List.{All}
use Rattle.closed_tracks.proofs.Kept.{kept_are_maximal}
use Rattle.night_tree.specs.Nights.{tracklets_of_each}
use Rattle.set_grow.specs.Nights.{AreInPlace, NumberedNightData, by_night}
use Rattle.sky_units.specs.SettingsData.{SettingsData}
use Rattle.sky_units.specs.Tracks.{AreMaximalTracks}
use Rattle.subset_drop.specs.Kept.{AreKept}
use Rattle.tracklet_register.proofs.Linking.{in_place}
use Rattle.tracklet_register.specs.Registers.{with_numbers}
use Rattle.kept_tracks.specs.KeptFor.{AreKeptFor}
use Rattle.kept_tracks.specs.Stages.{AreTracksInOrder, HasTracklets}
use Rattle.kept_tracks.proofs.Listed.{all_good, candidates}
use Rattle.kept_tracks.proofs.keeping.KeptTracks.maximal.Goals as goal

pub tracks_of-requires-clause-place : goal.tracks_of-requires-clause-place
tracks_of-requires-clause-place c =
    let k : AreKeptFor c.requires.kept.0 c.args.nights.now (record { register = c.self.inside.register; sets = c.self.inside.sets }) = subst (AreKeptFor c.requires.kept.0 c.args.nights.now) (sym c.self.view_is) c.requires.kept.1 in
    let numbered : c.as_slice.result.now ≡ with_numbers c.self.inside.register.nights c.args.nights.now = c.as_slice.ensures.value ∙ c.in_ok-numbered.ensures in
    subst (λ (list : List NumberedNightData). AreInPlace list c.table-table.result.now) (sym numbered)
    (in_place c.table-table.result.now c.self.inside.register.nights c.args.nights.now (c.table-table.ensures.nights c.args.nights.now) k.numbered c.requires.follow c.requires.rising)

pub tracks_of-requires-clause-sets : goal.tracks_of-requires-clause-sets
tracks_of-requires-clause-sets c =
    let k : AreKeptFor c.requires.kept.0 c.args.nights.now (record { register = c.self.inside.register; sets = c.self.inside.sets }) = subst (AreKeptFor c.requires.kept.0 c.args.nights.now) (sym c.self.view_is) c.requires.kept.1 in
    let numbered : c.as_slice.result.now ≡ with_numbers c.self.inside.register.nights c.args.nights.now = c.as_slice.ensures.value ∙ c.in_ok-numbered.ensures in
    subst (All (HasTracklets (by_night c.as_slice.result.now))) (sym c.sets.ensures)
    (subst (λ (list : List NumberedNightData). All (HasTracklets (by_night list)) c.self.inside.sets) (sym numbered)
    (all_good c.requires.kept.0 c.args.nights.now (record { register = c.self.inside.register; sets = c.self.inside.sets }) k))

pub returns : goal.returns
returns c =
    let numbered : c.as_slice.result.now ≡ with_numbers c.self.inside.register.nights c.args.nights.now = c.as_slice.ensures.value ∙ c.in_ok-numbered.ensures in
    let listed : AreTracksInOrder (by_night (with_numbers c.self.inside.register.nights c.args.nights.now)) c.self.inside.sets c.in_ok-tracks.tracks.items =
    subst (λ (list : List NumberedNightData). AreTracksInOrder (by_night list) c.self.inside.sets c.in_ok-tracks.tracks.items) numbered
    (subst (λ (sets : List (List ℕ)). AreTracksInOrder (by_night c.as_slice.result.now) sets c.in_ok-tracks.tracks.items) c.sets.ensures c.in_ok-tracks.ensures) in
    IfOk-weaker c.drop_subsets.result (λ kept. AreKept c.in_ok-tracks.tracks.items kept.items) (λ list. (settings : SettingsData) → AreKeptFor settings c.args.nights.now c.args.self.now → AreMaximalTracks settings (tracklets_of_each c.args.nights.now) list.items)
    (λ list dropped settings kept.
    let k : AreKeptFor settings c.args.nights.now (record { register = c.self.inside.register; sets = c.self.inside.sets }) = subst (AreKeptFor settings c.args.nights.now) (sym c.self.view_is) kept in
    let place = in_place c.table-table.result.now c.self.inside.register.nights c.args.nights.now (c.table-table.ensures.nights c.args.nights.now) k.numbered c.requires.follow c.requires.rising in
    kept_are_maximal settings (tracklets_of_each c.args.nights.now) c.in_ok-tracks.tracks.items c.requires.follow
    (candidates settings c.args.nights.now (record { register = c.self.inside.register; sets = c.self.inside.sets }) k c.table-table.result.now c.in_ok-tracks.tracks.items c.maximal_tracks_are_closed.ensures place c.requires.different listed)
    list.items dropped) c.drop_subsets.ensures
