use Rattle.std.proofs.Common.{◌≡◌, ◌+◌, ◌↔◌, IsTrue, to_z, of_z, w64, take, refl, sym, subst, arith}
use Rattle.std.specs.List.{All}
use Rattle.std.proofs.lemmas.Bool.{false≢true}
use Rattle.std.proofs.lemmas.Int.{to_z-of_z}
use Rattle.sky_math.specs.Quadratics.{Passes}
use Rattle.sky_units.specs.QuadData.{quadratic_of}
use Rattle.sky_units.specs.Reported.{point_at}
use Rattle.quad_fit.proofs.QuadSpots.{all_seen, not_all, one_more}
use Rattle.quad_fit.proofs.passing.passes_each.Goals as goal

pub returns-then-not-passes_spot : goal.returns-then-not-passes_spot
returns-then-not-passes_spot c =
    let quad = c.args.quad.now in
    let tol : to_z w64 (of_z w64 c.args.tol) ≡ c.args.tol = to_z-of_z w64 c.args.tol c.ranges.tol in
    let told : IsTrue c.passes_spot.result ↔ Passes c.args.tol (quadratic_of quad) (point_at c.args.axis quad.base quad.start c.index-spots-place.result) = rw tol at c.passes_spot.ensures in
    (λ h. absurd (false≢true h), λ w. absurd (not_all (Passes c.args.tol (quadratic_of quad)) (point_at c.args.axis quad.base quad.start) c.args.spots.now c.loop-place.place c.index-spots-place.result c.passes_spot.result c.loop-place-test.true c.index-spots-place.is told c.if-not-passes_spot.true w))

pub loop-place-preserved : goal.loop-place-preserved
loop-place-preserved c =
    let quad = c.args.quad.now in
    let tol : to_z w64 (of_z w64 c.args.tol) ≡ c.args.tol = to_z-of_z w64 c.args.tol c.ranges.tol in
    let before : All (λ spot. Passes c.args.tol (quadratic_of quad) (point_at c.args.axis quad.base quad.start spot)) (take c.loop-place.place c.args.spots.now) = rw tol at c.loop-place.invariant in
    let told : IsTrue c.passes_spot.result ↔ Passes c.args.tol (quadratic_of quad) (point_at c.args.axis quad.base quad.start c.index-spots-place.result) = rw tol at c.passes_spot.ensures in
    let more : All (λ spot. Passes c.args.tol (quadratic_of quad) (point_at c.args.axis quad.base quad.start spot)) (take (c.loop-place.place + 1) c.args.spots.now) = one_more (Passes c.args.tol (quadratic_of quad)) (point_at c.args.axis quad.base quad.start) c.args.spots.now c.loop-place.place c.index-spots-place.result c.passes_spot.result c.loop-place-test.true c.index-spots-place.is told c.if-not-passes_spot.false before in
    subst (λ t. All (λ spot. Passes t (quadratic_of quad) (point_at c.args.axis quad.base quad.start spot)) (take (c.loop-place.place + 1) c.args.spots.now)) (sym tol) more

pub returns : goal.returns
returns c =
    let quad = c.args.quad.now in
    let tol : to_z w64 (of_z w64 c.args.tol) ≡ c.args.tol = to_z-of_z w64 c.args.tol c.ranges.tol in
    let before : All (λ spot. Passes c.args.tol (quadratic_of quad) (point_at c.args.axis quad.base quad.start spot)) (take c.loop-place.place c.args.spots.now) = rw tol at c.loop-place.invariant in
    (λ h. all_seen (Passes c.args.tol (quadratic_of quad)) (point_at c.args.axis quad.base quad.start) c.args.spots.now c.loop-place.place (omega (arith, c.loop-place-test.false)) before, λ w. refl)
