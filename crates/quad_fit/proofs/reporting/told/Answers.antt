use Rattle.std.proofs.Common.{◌≡◌, ◌∙◌, ◌-ℤ◌, List, map, w64, rules, refl, arith}
use Rattle.std.proofs.lemmas.Int.{ints, to_z-of_z}
use Rattle.sky_units.specs.Motion.{acceleration, offset, point_from, tolerance}
use Rattle.sky_units.specs.Reported.{middle_epoch}
use Rattle.sky_units.specs.SpotData.{SpotData}
use Rattle.quad_fit.specs.Curves.{quadratic_of}
use Rattle.quad_fit.specs.Lowering.{IsSeenFrom}
use Rattle.quad_fit.proofs.MiddleEpochs.{middle_near, time_fits, time_read}
use Rattle.quad_fit.proofs.Sizes.{held}
use Rattle.quad_fit.proofs.ReportedOf.{reported_of}
use Rattle.quad_fit.proofs.TightLevels.{tight_level}
use Rattle.quad_fit.proofs.reporting.told.Goals as goal

pub overflow_sub-time : goal.overflow_sub-time
overflow_sub-time c = time_fits c.middle_epoch-start.result c.base.inside.epoch c.middle_epoch-start.ensures.range c.base.invariant.epoch_in_range

pub seen_from-seen-requires-clause-time : goal.seen_from-seen-requires-clause-time
seen_from-seen-requires-clause-time c =
    let near = middle_near c.args.spots.now c.args.base c.requires.arc c.requires.base in
    rw (time_read c.middle_epoch-start.result c.base.inside.epoch c.middle_epoch-start.ensures.range c.base.invariant.epoch_in_range, c.middle_epoch-start.ensures.value) (rw (← c.base.view_is) at near)

pub returns : goal.returns
returns c =
    let spots : List SpotData = c.args.spots.now in
    let first : SpotData = c.index-spots-0.result in
    let start : c.middle_epoch-start.result ≡ middle_epoch spots = c.middle_epoch-start.ensures.value in
    let time : held (held c.middle_epoch-start.result -ℤ held c.base.inside.epoch) ≡ middle_epoch spots -ℤ c.args.base.epoch =
    time_read c.middle_epoch-start.result c.base.inside.epoch c.middle_epoch-start.ensures.range c.base.invariant.epoch_in_range ∙ (rw (start, ← c.base.view_is) refl) in
    let range = c.offset.ensures.range in
    let place : held c.offset.result ≡ offset c.args.axis c.args.base first = to_z-of_z w64 c.offset.result (omega (arith, ints, range.from, range.to)) ∙ c.offset.ensures.value in
    let seen : IsSeenFrom (middle_epoch spots -ℤ c.args.base.epoch) (offset c.args.axis c.args.base first) (quadratic_of c.args.levelled.now.curve) c.seen_from-seen.result = rw (time, place) at c.seen_from-seen.ensures in
    let position_read : held c.position_of.result ≡ c.position_of.result = search rules in
    let start_read : held c.middle_epoch-start.result ≡ c.middle_epoch-start.result = search rules in
    λ settings level.
    reported_of c.args.axis settings spots c.args.base first (quadratic_of c.args.levelled.now.curve) c.seen_from-seen.result c.lowered.result c.requires.arc c.requires.base (omega (arith, c.requires.base.1)) c.index-spots-0.is
    (tight_level (acceleration c.args.axis settings) (tolerance c.args.axis settings) (map (point_from c.args.axis c.args.base) spots) c.args.levelled.now level) seen c.lowered.ensures.lowered
    (c.lowered.ensures.base ∙ position_read ∙ c.position_of.ensures) (c.lowered.ensures.start ∙ start_read ∙ start)
