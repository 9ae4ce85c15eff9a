use Rattle.std.proofs.Common.{◌*ℤ◌, ◌<ℤ◌, ◌↔◌, IsTrue, pos, arith}
use Rattle.std.proofs.lemmas.Int.{ints}
use Rattle.sky_math.specs.Quadratics.{IsWithin}
use Rattle.quad_fit.proofs.QuadSizes.{bound_terms, twice_terms}
use Rattle.quad_fit.proofs.passing.is_admitted.Goals as goal

pub is_within-requires : goal.is_within-requires
is_within-requires c =
    let terms = bound_terms c.args.acc _ _ _ _ c.quad.invariant c.requires.from c.requires.to in
    rw terms.is terms.not_negative

pub returns : goal.returns
returns c =
    let terms = bound_terms c.args.acc _ _ _ _ c.quad.invariant c.requires.from c.requires.to in
    let twice = twice_terms _ _ _ _ c.quad.invariant in
    let positive : pos 0 <ℤ c.quad.inside.den = omega (arith, ints, c.quad.invariant.den_in_range.from) in
    let told : IsTrue c.is_within.result ↔ IsWithin (c.args.acc *ℤ c.quad.inside.den) (pos 2000000000000 *ℤ c.quad.inside.q) = rw (terms.is, twice.is) at c.is_within.ensures in
    rw (← c.quad.view_is) (λ h. (positive, told.0 h), λ w. told.1 w.1)
