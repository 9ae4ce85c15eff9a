use Rattle.std.specs.Prelude.{take}
use Rattle.std.specs.List.{All}
use Rattle.sky_math.specs.Quadratics.{Passes}
use Rattle.sky_units.specs.QuadData.{quadratic_of}
use Rattle.sky_units.specs.Reported.{point_at}
use Rattle.quad_fit.proofs.passing.passes_each.Given as goal

abbrev pub invariant-loop-place : goal.invariant-loop-place
invariant-loop-place l = All (λ spot. Passes l.fn.tol (quadratic_of l.quad) (point_at l.axis l.quad.base l.quad.start spot)) (take l.place l.spots)
