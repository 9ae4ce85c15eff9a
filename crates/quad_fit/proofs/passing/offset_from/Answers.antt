use Rattle.std.proofs.Common.{◌≡◌, ◌-ℤ◌, ◌∙◌, rules, to_z, of_z, w64, arith}
use Rattle.std.proofs.lemmas.Int.{ints}
use Rattle.sky_math.specs.Circle.{wrapped}
use Rattle.sky_units.specs.Ranges.{IsDeclination, IsRightAscension}
use Rattle.quad_fit.proofs.QuadSizes.{dec_fits, dec_read, dec_size, ra_fits, ra_read}
use Rattle.quad_fit.proofs.passing.offset_from.Goals as goal

pub overflow_sub-spot-inside : goal.overflow_sub-spot-inside
overflow_sub-spot-inside c =
    let base : IsRightAscension c.args.base = rw c.in-Ra.is at c.requires in
    ra_fits c.spot.inside.ra c.args.base c.spot.invariant.ra_in_range base

pub wrap-requires-clause-low : goal.wrap-requires-clause-low
wrap-requires-clause-low c =
    let base : IsRightAscension c.args.base = rw c.in-Ra.is at c.requires in
    rw (ra_read c.spot.inside.ra c.args.base c.spot.invariant.ra_in_range base) (omega (arith, ints, c.spot.invariant.ra_in_range.from, base.to))

pub wrap-requires-clause-high : goal.wrap-requires-clause-high
wrap-requires-clause-high c =
    let base : IsRightAscension c.args.base = rw c.in-Ra.is at c.requires in
    rw (ra_read c.spot.inside.ra c.args.base c.spot.invariant.ra_in_range base) (omega (arith, ints, c.spot.invariant.ra_in_range.to, base.from))

pub overflow_sub-result : goal.overflow_sub-result
overflow_sub-result c =
    let base : IsDeclination c.args.base = rw c.in-Dec.is at c.requires in
    dec_fits c.spot.inside.dec c.args.base c.spot.invariant.dec_in_range base

pub returns-in-Ra-clause-value : goal.returns-in-Ra-clause-value
returns-in-Ra-clause-value c =
    let base : IsRightAscension c.args.base = rw c.in-Ra.is at c.requires in
    let d = ra_read c.spot.inside.ra c.args.base c.spot.invariant.ra_in_range base in
    let v : c.wrap.result ≡ wrapped (c.spot.inside.ra -ℤ c.args.base) = rw d at c.wrap.ensures.value in
    let r : to_z w64 (of_z w64 c.wrap.result) ≡ c.wrap.result = search rules in
    rw (c.in-Ra.is, ← c.spot.view_is) (r ∙ v)

pub returns-in-Dec-clause-value : goal.returns-in-Dec-clause-value
returns-in-Dec-clause-value c =
    let base : IsDeclination c.args.base = rw c.in-Dec.is at c.requires in
    rw (c.in-Dec.is, ← c.spot.view_is) (dec_read c.spot.inside.dec c.args.base c.spot.invariant.dec_in_range base)

pub returns-in-Dec-clause-size : goal.returns-in-Dec-clause-size
returns-in-Dec-clause-size c =
    let base : IsDeclination c.args.base = rw c.in-Dec.is at c.requires in
    let d = dec_read c.spot.inside.dec c.args.base c.spot.invariant.dec_in_range base in
    rw d (dec_size c.spot.inside.dec c.args.base c.spot.invariant.dec_in_range base)
