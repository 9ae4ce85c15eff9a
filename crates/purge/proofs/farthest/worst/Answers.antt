use Rattle.std.proofs.Common.{◌≡◌, get_or, refl, ◌∙◌, arith}
use Rattle.sky_units.specs.declared.axis.Axis.TheVariants.{Ra, Dec}
use Rattle.purge.specs.Purging.{deviation, deviations}
use Rattle.purge.proofs.Deviations.{deviation_read, deviations_length, worse_step}
use Rattle.purge.proofs.Greatest.{found_last}
use Rattle.purge.proofs.Totals.{small_read}
use Rattle.purge.proofs.farthest.worst.Goals as goal

pub deviation_from-deviation-requires-clause-ra_point : goal.deviation_from-deviation-requires-clause-ra_point
deviation_from-deviation-requires-clause-ra_point c = small_read Ra c.args.spots.now c.index-spots-0.result c.index-spots-at.result c.loop-at.at c.requires.arc c.requires.day c.index-spots-0.is c.loop-at-test.true c.index-spots-at.is

pub deviation_from-deviation-requires-clause-dec_point : goal.deviation_from-deviation-requires-clause-dec_point
deviation_from-deviation-requires-clause-dec_point c = small_read Dec c.args.spots.now c.index-spots-0.result c.index-spots-at.result c.loop-at.at c.requires.arc c.requires.day c.index-spots-0.is c.loop-at-test.true c.index-spots-at.is

pub loop-at-preserved : goal.loop-at-preserved
loop-at-preserved c =
    let ra = c.least_squares-ra.ensures in
    let dec = c.least_squares-dec.ensures in
    let here : c.deviation_from-deviation.result ≡ deviation c.args.spots.now c.index-spots-0.result c.index-spots-at.result = rw (ra.level, ra.slope, ra.scale, dec.level, dec.slope, dec.scale) at c.deviation_from-deviation.ensures in
    let read : c.deviation_from-deviation.result ≡ get_or (deviations c.args.spots.now) c.loop-at.at 0 = here ∙ deviation_read c.args.spots.now c.index-spots-0.result c.index-spots-at.result c.loop-at.at c.index-spots-0.is c.loop-at-test.true c.index-spots-at.is in
    worse_step (deviations c.args.spots.now) c.loop-at.at c.loop-at.found record { at = c.loop-at.at; deviation = c.deviation_from-deviation.result } c.worse-found.result c.worse-found.ensures refl read c.loop-at.invariant

pub returns : goal.returns
returns c =
    let n = deviations_length c.args.spots.now in
    let two = c.requires.two in
    found_last (deviations c.args.spots.now) c.loop-at.at c.loop-at.found.at c.loop-at.found.deviation (omega (arith, n, c.loop-at-test.false, c.loop-at.auto.at-end)) (omega (arith, two, c.loop-at-test.false)) c.loop-at.invariant
