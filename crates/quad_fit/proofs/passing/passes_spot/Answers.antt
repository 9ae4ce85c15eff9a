use Rattle.std.proofs.Common.{◌≡◌, ◌∙◌, ◌-ℤ◌, pos, to_z, of_z, w64, rules, FitsSigned, ap, refl, arith}
use Rattle.std.proofs.lemmas.Int.{ints, to_z-of_z}
use Rattle.sky_math.specs.Quadratics.{IsWithin, residual}
use Rattle.sky_units.specs.QuadData.{QuadData, quadratic_of}
use Rattle.sky_units.specs.Reported.{offset_from, point_at}
use Rattle.sky_units.specs.SpotData.{SpotData}
use Rattle.quad_fit.proofs.Sizes.{held, held_wide}
use Rattle.quad_fit.proofs.QuadSizes.{bound_terms, time_read, time_size}
use Rattle.quad_fit.proofs.passing.passes_spot.Goals as goal

pub residual_at-residual-requires-clause-time : goal.residual_at-residual-requires-clause-time
residual_at-residual-requires-clause-time c =
    let near : IsWithin (pos 15000000) (c.spot.inside.epoch -ℤ c.quad.inside.start) = rw (← c.quad.view_is, ← c.spot.view_is) at c.requires.near in
    let start : FitsSigned w64 c.quad.inside.start = search rules in
    rw (time_read c.spot.inside.epoch c.quad.inside.start c.spot.invariant.epoch_in_range start near) (time_size c.spot.inside.epoch c.quad.inside.start near)

pub overflow_mul-tol : goal.overflow_mul-tol
overflow_mul-tol c = (bound_terms c.args.tol _ _ _ _ c.quad.invariant c.requires.tol.from (omega (arith, ints, c.requires.tol.to))).fits

pub is_within-requires : goal.is_within-requires
is_within-requires c =
    let terms = bound_terms c.args.tol _ _ _ _ c.quad.invariant c.requires.tol.from (omega (arith, ints, c.requires.tol.to)) in
    rw terms.is terms.not_negative

pub returns : goal.returns
returns c =
    let near : IsWithin (pos 15000000) (c.spot.inside.epoch -ℤ c.quad.inside.start) = rw (← c.quad.view_is, ← c.spot.view_is) at c.requires.near in
    let start : FitsSigned w64 c.quad.inside.start = search rules in
    let time = time_read c.spot.inside.epoch c.quad.inside.start c.spot.invariant.epoch_in_range start near in
    let terms = bound_terms c.args.tol _ _ _ _ c.quad.invariant c.requires.tol.from (omega (arith, ints, c.requires.tol.to)) in
    let base : to_z w64 (of_z w64 c.quad.inside.base) ≡ c.quad.inside.base = search rules in
    let quad : QuadData = c.args.quad.now in
    let spot : SpotData = c.args.spot.now in
    let time_is : held (held c.spot.inside.epoch -ℤ held c.quad.inside.start) ≡ spot.epoch -ℤ quad.start = time ∙ (rw (← c.spot.view_is, ← c.quad.view_is) refl) in
    let seen : c.offset_from-position.result ≡ offset_from c.args.axis c.quad.inside.base spot = rw base at c.offset_from-position.ensures.value in
    let position : held c.offset_from-position.result ≡ c.offset_from-position.result = to_z-of_z w64 c.offset_from-position.result (omega (arith, ints, c.offset_from-position.ensures.size)) in
    let position_is : held c.offset_from-position.result ≡ offset_from c.args.axis quad.base spot = position ∙ seen ∙ ap (λ (q : QuadData). offset_from c.args.axis q.base spot) c.quad.view_is in
    let is : c.residual_at-residual.result ≡ residual (quadratic_of quad) (point_at c.args.axis quad.base quad.start spot) = rw (time_is, position_is) at c.residual_at-residual.ensures in
    let read : held_wide c.residual_at-residual.result ≡ c.residual_at-residual.result = search rules in
    let den : c.quad.inside.den ≡ quad.den = ap (λ (q : QuadData). q.den) c.quad.view_is in
    rw (terms.is, read, is, den) at c.is_within.ensures
