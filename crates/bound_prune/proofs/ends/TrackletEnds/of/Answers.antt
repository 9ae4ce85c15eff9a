use Rattle.std.proofs.Common.{◌≡◌, ◌-◌, length, ◌≤ℤ◌, ◌<ℤ◌, ◌∙◌, ap, to_z, of_z, w64, arith}
use Rattle.std.proofs.lemmas.Int.{ints}
use Rattle.std.proofs.lemmas.List.{get_or_read}
use Rattle.sky_units.specs.SettingsData.{SettingsData}
use Rattle.sky_units.specs.SpotData.{SpotData}
use Rattle.sky_units.specs.declared.axis.Axis.TheVariants.{Ra, Dec}
use Rattle.bound_prune.specs.BoxEnds.{boxed}
use Rattle.bound_prune.specs.Boxes.{box_high, box_low, first_of, greatest_rate, last_of, least_rate, no_spot}
use Rattle.bound_prune.proofs.FiveAxes.{each_of_five, no_less}
use Rattle.bound_prune.proofs.OwnBoxes.{ends_are}
use Rattle.bound_prune.proofs.ends.TrackletEnds.of.Goals as goal

pub rates_of-requires-clause-later : goal.rates_of-requires-clause-later
rates_of-requires-clause-later c =
    let two = c.requires.two in
    let first : c.index-spots-0.result ≡ first_of c.args.spots.now = get_or_read c.args.spots.now 0 c.index-spots-0.result (omega (arith, two)) c.index-spots-0.is no_spot in
    let last : c.index-spots-spots.result ≡ last_of c.args.spots.now = get_or_read c.args.spots.now (length c.args.spots.now - 1) c.index-spots-spots.result (omega (arith, two)) c.index-spots-spots.is no_spot in
    rw (first, last) (c.requires.rising 0 (length c.args.spots.now - 1) no_spot (omega (arith, two)) (omega (arith, two)))

pub rates_of-requires-2-clause-later : goal.rates_of-requires-2-clause-later
rates_of-requires-2-clause-later c =
    let two = c.requires.two in
    let first : c.index-spots-0.result ≡ first_of c.args.spots.now = get_or_read c.args.spots.now 0 c.index-spots-0.result (omega (arith, two)) c.index-spots-0.is no_spot in
    let last : c.index-spots-spots.result ≡ last_of c.args.spots.now = get_or_read c.args.spots.now (length c.args.spots.now - 1) c.index-spots-spots.result (omega (arith, two)) c.index-spots-spots.is no_spot in
    rw (first, last) (c.requires.rising 0 (length c.args.spots.now - 1) no_spot (omega (arith, two)) (omega (arith, two)))

pub returns-clause-are : goal.returns-clause-are
returns-clause-are c =
    let two = c.requires.two in
    let first : c.index-spots-0.result ≡ first_of c.args.spots.now = get_or_read c.args.spots.now 0 c.index-spots-0.result (omega (arith, two)) c.index-spots-0.is no_spot in
    let last : c.index-spots-spots.result ≡ last_of c.args.spots.now = get_or_read c.args.spots.now (length c.args.spots.now - 1) c.index-spots-spots.result (omega (arith, two)) c.index-spots-spots.is no_spot in
    let later : (first_of c.args.spots.now).epoch <ℤ (last_of c.args.spots.now).epoch = c.requires.rising 0 (length c.args.spots.now - 1) no_spot (omega (arith, two)) (omega (arith, two)) in
    let ra_kept : to_z w64 (of_z w64 c.first.inside.ra) ≡ c.first.inside.ra = let r = c.first.invariant.ra_in_range in omega (arith, ints) in
    let dec_kept : to_z w64 (of_z w64 c.first.inside.dec) ≡ c.first.inside.dec = let r = c.first.invariant.dec_in_range in omega (arith, ints) in
    let begin_kept : to_z w64 (of_z w64 c.first.inside.epoch) ≡ c.first.inside.epoch = let r = c.first.invariant.epoch_in_range in omega (arith, ints) in
    let end_kept : to_z w64 (of_z w64 c.last.inside.epoch) ≡ c.last.inside.epoch = let r = c.last.invariant.epoch_in_range in omega (arith, ints) in
    let tol_ra_kept : to_z w64 (of_z w64 c.settings.inside.tol_ra) ≡ c.settings.inside.tol_ra = let r = c.settings.invariant.tol_ra_in_range in omega (arith, ints) in
    let tol_dec_kept : to_z w64 (of_z w64 c.settings.inside.tol_dec) ≡ c.settings.inside.tol_dec = let r = c.settings.invariant.tol_dec_in_range in omega (arith, ints) in
    let tol_ra : c.settings.inside.tol_ra ≡ c.args.settings.now.tol_ra = ap (λ (s : SettingsData). s.tol_ra) c.settings.view_is in
    let tol_dec : c.settings.inside.tol_dec ≡ c.args.settings.now.tol_dec = ap (λ (s : SettingsData). s.tol_dec) c.settings.view_is in
    let ra_least : c.rates_of.result.least ≡ least_rate Ra c.args.settings.now.tol_ra (first_of c.args.spots.now) (last_of c.args.spots.now) = rw (tol_ra_kept, tol_ra, first, last) at c.rates_of.ensures.are.least in
    let ra_greatest : c.rates_of.result.greatest ≡ greatest_rate Ra c.args.settings.now.tol_ra (first_of c.args.spots.now) (last_of c.args.spots.now) = rw (tol_ra_kept, tol_ra, first, last) at c.rates_of.ensures.are.greatest in
    let dec_least : c.rates_of-2.result.least ≡ least_rate Dec c.args.settings.now.tol_dec (first_of c.args.spots.now) (last_of c.args.spots.now) = rw (tol_dec_kept, tol_dec, first, last) at c.rates_of-2.ensures.are.least in
    let dec_greatest : c.rates_of-2.result.greatest ≡ greatest_rate Dec c.args.settings.now.tol_dec (first_of c.args.spots.now) (last_of c.args.spots.now) = rw (tol_dec_kept, tol_dec, first, last) at c.rates_of-2.ensures.are.greatest in
    record {
      tracklet = c.requires;
      ra = ra_kept ∙ ap (λ (s : SpotData). s.ra) (c.first.view_is ∙ first);
      dec = dec_kept ∙ ap (λ (s : SpotData). s.dec) (c.first.view_is ∙ first);
      first_epoch = begin_kept ∙ ap (λ (s : SpotData). s.epoch) (c.first.view_is ∙ first);
      last_epoch = end_kept ∙ ap (λ (s : SpotData). s.epoch) (c.last.view_is ∙ last);
      ra_least = ra_least;
      ra_greatest = ra_greatest;
      dec_least = dec_least;
      dec_greatest = dec_greatest;
      order = each_of_five (λ axis. box_low (boxed c.args.spots.now c.args.settings.now.tol_ra c.args.settings.now.tol_dec) axis ≤ℤ box_high (boxed c.args.spots.now c.args.settings.now.tol_ra c.args.settings.now.tol_dec) axis)
          (no_less (first_of c.args.spots.now).ra) (no_less (first_of c.args.spots.now).dec) (omega (arith, ints, later))
          (rw (ra_least, ra_greatest) at c.rates_of.ensures.are.order) (rw (dec_least, dec_greatest) at c.rates_of-2.ensures.are.order);
    }

pub returns-clause-value : goal.returns-clause-value
returns-clause-value c = ends_are (boxed c.args.spots.now c.args.settings.now.tol_ra c.args.settings.now.tol_dec) _ (returns-clause-are c)

pub invariant_of-result : goal.invariant_of-result
invariant_of-result c =
    let ra_kept : to_z w64 (of_z w64 c.first.inside.ra) ≡ c.first.inside.ra = let r = c.first.invariant.ra_in_range in omega (arith, ints) in
    let dec_kept : to_z w64 (of_z w64 c.first.inside.dec) ≡ c.first.inside.dec = let r = c.first.invariant.dec_in_range in omega (arith, ints) in
    let begin_kept : to_z w64 (of_z w64 c.first.inside.epoch) ≡ c.first.inside.epoch = let r = c.first.invariant.epoch_in_range in omega (arith, ints) in
    let end_kept : to_z w64 (of_z w64 c.last.inside.epoch) ≡ c.last.inside.epoch = let r = c.last.invariant.epoch_in_range in omega (arith, ints) in
    record {
      ra = rw ra_kept c.first.invariant.ra_in_range;
      dec = rw dec_kept c.first.invariant.dec_in_range;
      first_epoch = rw begin_kept c.first.invariant.epoch_in_range;
      last_epoch = rw end_kept c.last.invariant.epoch_in_range;
      ra_rates = c.rates_of.ensures.usual;
      dec_rates = c.rates_of-2.ensures.usual;
    }
