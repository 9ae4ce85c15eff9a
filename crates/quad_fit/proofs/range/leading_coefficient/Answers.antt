use Rattle.std.proofs.Common.{ap}
use Rattle.sky_units.specs.FracData.{frac_data}
use Rattle.quad_fit.specs.Curves.{CurveData}
use Rattle.quad_fit.proofs.Sizes.{coefficient_terms}
use Rattle.quad_fit.proofs.range.leading_coefficient.Goals as goal

pub invariant_of-result : goal.invariant_of-result
invariant_of-result c = (coefficient_terms _ _ _ _ _ _ c.curve.invariant).is_frac

pub returns : goal.returns
returns c =
    let terms = coefficient_terms _ _ _ _ _ _ c.curve.invariant in
    record { value = rw (terms.num_is, terms.den_is) (ap (λ (k : CurveData). frac_data k.bend k.den) c.curve.view_is); range = terms.is_frac }
