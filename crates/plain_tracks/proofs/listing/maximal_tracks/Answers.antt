use Rattle.sky_units.specs.Tracks.{AreMaximalTracks}
use Rattle.night_tree.specs.Nights.{tracklets_of_each}
use Rattle.plain_tracks.proofs.Tracks.{HoldsTracks, tracks_of_fitting, have_different_numbers, if_both, known_by_numbers, maximal_exactly}
use Rattle.plain_tracks.proofs.listing.maximal_tracks.Goals as goal

pub maximal_among-requires : goal.maximal_among-requires
maximal_among-requires c =
    let nights = tracklets_of_each c.args.nights.now in
    let tracks : HoldsTracks c.args.settings.now (tracklets_of_each c.args.nights.now) c.of_three_nights.result.items = tracks_of_fitting c.args.settings.now nights c.in_ok-sets.sets.items c.of_three_nights.result.items c.in_ok-sets.ensures c.of_three_nights.ensures in
    record {
      known = known_by_numbers c.args.settings.now nights c.of_three_nights.result.items c.requires tracks;
      different = have_different_numbers c.args.settings.now nights c.of_three_nights.result.items c.requires tracks;
    }

pub returns : goal.returns
returns c =
    let nights = tracklets_of_each c.args.nights.now in
    let tracks : HoldsTracks c.args.settings.now (tracklets_of_each c.args.nights.now) c.of_three_nights.result.items = tracks_of_fitting c.args.settings.now nights c.in_ok-sets.sets.items c.of_three_nights.result.items c.in_ok-sets.ensures c.of_three_nights.ensures in
    if_both c.maximal_among.result _ _ (λ list. AreMaximalTracks c.args.settings.now (tracklets_of_each c.args.nights.now) list.items)
    (λ list once listed. record {
      once = once;
      listed = λ set.
          let exact = maximal_exactly c.args.settings.now nights c.of_three_nights.result.items c.requires tracks set in
          (λ k. exact.0 ((listed set).0 k), λ m. (listed set).1 (exact.1 m));
    })
    c.maximal_among.ensures.once c.maximal_among.ensures.listed
