use Rattle.std.proofs.Common.{◌≡◌, w64, to_z, of_z, IsTrue, map, ◌↔◌, arith, ◌∙◌}
use Rattle.std.specs.List.{All}
use Rattle.std.proofs.lemmas.Int.{ints, to_z-of_z}
use Rattle.sky_math.specs.Quadratics.{IsAdmitted, Passes}
use Rattle.sky_units.specs.Motion.{acceleration, tolerance}
use Rattle.sky_units.specs.QuadData.{quadratic_of}
use Rattle.sky_units.specs.Reported.{point_at}
use Rattle.quad_fit.proofs.passing.passes.Goals as goal

pub returns : goal.returns
returns c =
    let quad = c.args.quad.now in
    let most = c.acceleration_of.ensures.range in
    let room = c.tolerance_of.ensures.range in
    let acc : to_z w64 (of_z w64 c.acceleration_of.result) ≡ acceleration c.args.axis c.args.settings.now = to_z-of_z w64 c.acceleration_of.result (omega (arith, ints, most)) ∙ c.acceleration_of.ensures.value in
    let tol : to_z w64 (of_z w64 c.tolerance_of.result) ≡ tolerance c.args.axis c.args.settings.now = to_z-of_z w64 c.tolerance_of.result (omega (arith, ints, room)) ∙ c.tolerance_of.ensures.value in
    let admitted : IsTrue c.is_admitted.result ↔ IsAdmitted (acceleration c.args.axis c.args.settings.now) (quadratic_of quad) = rw acc at c.is_admitted.ensures in
    let told : IsTrue c.passes_each.result ↔ All (Passes (tolerance c.args.axis c.args.settings.now) (quadratic_of quad)) (map (point_at c.args.axis quad.base quad.start) c.args.spots.now) = rw tol at c.passes_each.ensures in
    (λ h. record { admitted = admitted.0 c.if-not-is_admitted.false; passes = told.0 h }, λ w. told.1 w.passes)
