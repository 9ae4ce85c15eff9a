use Rattle.std.proofs.Common.{◌<◌, length, arith}
use Rattle.std.proofs.lemmas.List.{length-map}
use Rattle.std.proofs.lemmas.Result.{IfOk-weaker}
use Rattle.night_tree.specs.Nights.{NightData, tracklets_of_each}
use Rattle.sky_units.specs.Tracks.{AreMaximalTracks}
use Rattle.subset_drop.specs.Kept.{AreKept}
use Rattle.closed_tracks.proofs.FewNights.{none_of_few}
use Rattle.closed_tracks.proofs.Kept.{kept_are_maximal}
use Rattle.closed_tracks.proofs.listing.maximal_tracks.Goals as goal

pub returns : goal.returns
returns c =
    IfOk-weaker c.drop_subsets.result (λ kept. AreKept c.in_ok-tracks.tracks.items kept.items) (λ list. AreMaximalTracks c.args.settings.now (tracklets_of_each c.args.nights.now) list.items)
    (λ kept k. kept_are_maximal c.args.settings.now (tracklets_of_each c.args.nights.now) c.in_ok-tracks.tracks.items c.requires.follow c.in_ok-tracks.ensures kept.items k) c.drop_subsets.ensures

pub returns-then-nights-lt-FEWEST_NIGHTS : goal.returns-then-nights-lt-FEWEST_NIGHTS
returns-then-nights-lt-FEWEST_NIGHTS c =
    let few : length (tracklets_of_each c.args.nights.now) < 3 = omega (arith, length-map c.args.nights.now (λ (night : NightData). night.tracklets), c.if-nights-lt-FEWEST_NIGHTS.true) in
    rw c.new.ensures.items (none_of_few c.args.settings.now (tracklets_of_each c.args.nights.now) few)
