use Rattle.std.proofs.Common.{List, ap, subst, rules, of_calls}
use Rattle.std.proofs.lemmas.Fn.{always_returns_same}
use Rattle.sky_units.specs.TrackletData.{NightTracklets}
use Rattle.sky_units.specs.Tracks.{AreMaximalTracks}
use Rattle.night_tree.specs.Nights.{tracklets_of_each}
use Rattle.window_incr.specs.LinkerState.{LinkerState}
use Rattle.window_incr.proofs.Kept.{follow_of, once_of, rise_of}
use Rattle.window_incr.proofs.ReportLists.{put_in_order, rises_of_sorted, set_before, set_ranks}
use Rattle.window_incr.proofs.listing.listed.Goals as goal

pub maximal-requires-clause-kept : goal.maximal-requires-clause-kept
maximal-requires-clause-kept c = (c.requires.0, c.requires.1.sets)

pub maximal-requires-clause-follow : goal.maximal-requires-clause-follow
maximal-requires-clause-follow c = follow_of c.requires.0 c.args.log.now c.args.nights.now c.requires.1.sound.orderly c.requires.1.are

pub maximal-requires-clause-rising : goal.maximal-requires-clause-rising
maximal-requires-clause-rising c = rise_of c.requires.0 c.args.log.now c.args.nights.now c.requires.1.are

pub maximal-requires-clause-different : goal.maximal-requires-clause-different
maximal-requires-clause-different c = once_of c.requires.0 c.args.log.now c.args.nights.now c.requires.1.sound.orderly c.requires.1.are

pub returns : goal.returns
returns c = λ settings r.
    let s : LinkerState = record { settings = settings; log = c.args.log.now } in
    let all : AreMaximalTracks settings (tracklets_of_each c.args.nights.now) c.in_ok-list.list.items = c.in_ok-list.ensures settings r.sets in
    let up = c.in_ok-sort_by.ensures.sorted (set_before s.log) (set_ranks s.log) (always_returns_same _ _ _ (λ a r f k. search (rules, of_calls))) in
    put_in_order s c.in_ok-list.list.items c.sort_by.new.self.items r.sound
    (subst (λ (nights : List NightTracklets). AreMaximalTracks settings nights c.in_ok-list.list.items) (ap tracklets_of_each r.are) all)
    c.in_ok-sort_by.ensures.permutation (rises_of_sorted s.log c.sort_by.new.self.items up)
