use Rattle.std.proofs.Common.{◌≡◌, pos, ◌+ℤ◌, refl}
use Rattle.std.specs.Int.{int_div_euclid}
use Rattle.sky_units.specs.Reported.{middle_epoch}
use Rattle.quad_fit.proofs.MiddleEpochs.{middle_is, middle_terms}
use Rattle.quad_fit.proofs.reporting.middle_epoch.Goals as goal

pub returns : goal.returns
returns c =
    let terms = middle_terms c.first.inside.epoch c.last.inside.epoch c.first.invariant.epoch_in_range c.last.invariant.epoch_in_range in
    let middle : middle_epoch c.args.spots.now ≡ int_div_euclid (c.index-spots-0.result.epoch +ℤ c.index-spots-spots.result.epoch) (pos 2) = middle_is c.args.spots.now c.index-spots-0.result c.index-spots-spots.result c.requires c.index-spots-0.is c.index-spots-spots.is in
    let is : c.div_euclid.result ≡ int_div_euclid (c.first.inside.epoch +ℤ c.last.inside.epoch) (pos 2) = rw terms.sum_is at c.div_euclid.ensures in
    record { value = rw (is, terms.is, middle, ← c.first.view_is, ← c.last.view_is) refl; range = rw (is, terms.is) terms.range }
