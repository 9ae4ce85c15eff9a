use Rattle.std.proofs.Common.{◌≡◌, w64, ◌∙◌, arith}
use Rattle.std.proofs.lemmas.Int.{ints, to_z-of_z}
use Rattle.sky_units.specs.Motion.{acceleration, tolerance}
use Rattle.quad_fit.proofs.Sizes.{held}
use Rattle.refusal_cert.proofs.Suffices.{AreLimits}
use Rattle.refusal_cert.proofs.Tells.{three_told}
use Rattle.refusal_cert.specs.Coefficients.{AreEnds}
use Rattle.refusal_cert.proofs.threes.admits_three.Goals as goal

pub returns : goal.returns
returns c =
    let most = c.limits_of-acc.ensures.acc_range in
    let room = c.limits_of-acc.ensures.tol_range in
    let acc : held c.limits_of-acc.result.0 ≡ acceleration c.args.axis c.args.settings.now = to_z-of_z w64 c.limits_of-acc.result.0 (omega (arith, ints, most)) ∙ c.limits_of-acc.ensures.acc in
    let tol : held c.limits_of-acc.result.1 ≡ tolerance c.args.axis c.args.settings.now = to_z-of_z w64 c.limits_of-acc.result.1 (omega (arith, ints, room)) ∙ c.limits_of-acc.ensures.tol in
    let limits : AreLimits c.args.axis c.args.settings.now = record { acc = (rw c.limits_of-acc.ensures.acc at most).from; tol = rw c.limits_of-acc.ensures.tol at room } in
    let ends : AreEnds c.args.axis (tolerance c.args.axis c.args.settings.now) c.args.x.now c.args.y.now c.args.z.now c.coefficients_of.result.low c.coefficients_of.result.high = rw tol at c.coefficients_of.ensures in
    let told = three_told c.args.axis c.args.settings.now c.args.x.now c.args.y.now c.args.z.now c.coefficients_of.result.low c.coefficients_of.result.high limits c.requires ends in
    let keep = rw acc at c.keep.ensures in
    (λ h. told.0 (keep.0 h), λ w. keep.1 (told.1 w))
