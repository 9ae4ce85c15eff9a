use Rattle.std.proofs.Common.{◌≡◌, ℕ, ◌+◌, pos, ◌*ℤ◌, to_z, of_z, w64, ap, ◌∙◌, arith}
use Rattle.std.proofs.lemmas.Int.{to_z-of_z}
use Rattle.quad_fit.specs.Curves.{CurveData}
use Rattle.quad_fit.proofs.Farthest.{SoFar, so_far_step, so_far_all, so_far_found}
use Rattle.quad_fit.proofs.Sizes.{within_terms}
use Rattle.quad_fit.proofs.exchange.farthest.Goals as goal

pub overflow_mul-tol : goal.overflow_mul-tol
overflow_mul-tol c = (within_terms c.args.tol c.curve.inside.den c.requires c.curve.invariant.den_range).within_fits

pub loop-place-init : goal.loop-place-init
loop-place-init c = λ k d h. absurd (omega arith)

pub loop-place-preserved : goal.loop-place-preserved
loop-place-preserved c =
    let tol : to_z w64 (of_z w64 c.args.tol) ≡ c.args.tol = to_z-of_z w64 c.args.tol c.ranges.tol in
    let seen : SoFar c.args.tol c.args.curve.now c.args.marks.now c.loop-place.place c.loop-place.found = rw tol at c.loop-place.invariant in
    let terms = within_terms c.args.tol c.curve.inside.den c.requires c.curve.invariant.den_range in
    let within : pos c.unsigned_abs-within.result ≡ c.args.tol *ℤ c.args.curve.now.den = ap (λ (n : ℕ). pos n) c.unsigned_abs-within.ensures.value ∙ terms.is ∙ ap (λ (k : CurveData). c.args.tol *ℤ k.den) c.curve.view_is in
    let next : SoFar c.args.tol c.args.curve.now c.args.marks.now (c.loop-place.place + 1) c.farther-found.result = so_far_step c.args.tol c.args.curve.now c.args.marks.now c.loop-place.place c.at.result c.loop-place.found c.farther-found.result c.unsigned_abs-within.result (omega arith) c.at.ensures within seen c.farther-found.ensures in
    rw tol next

pub returns-then-distance_of-within : goal.returns-then-distance_of-within
returns-then-distance_of-within c =
    let tol : to_z w64 (of_z w64 c.args.tol) ≡ c.args.tol = to_z-of_z w64 c.args.tol c.ranges.tol in
    let seen : SoFar c.args.tol c.args.curve.now c.args.marks.now c.loop-place.place c.loop-place.found = rw tol at c.loop-place.invariant in
    let terms = within_terms c.args.tol c.curve.inside.den c.requires c.curve.invariant.den_range in
    let within : pos c.unsigned_abs-within.result ≡ c.args.tol *ℤ c.args.curve.now.den = ap (λ (n : ℕ). pos n) c.unsigned_abs-within.ensures.value ∙ terms.is ∙ ap (λ (k : CurveData). c.args.tol *ℤ k.den) c.curve.view_is in
    let next : SoFar c.args.tol c.args.curve.now c.args.marks.now (c.loop-place.place + 1) c.farther-found.result = so_far_step c.args.tol c.args.curve.now c.args.marks.now c.loop-place.place c.at.result c.loop-place.found c.farther-found.result c.unsigned_abs-within.result (omega arith) c.at.ensures within seen c.farther-found.ensures in
    let far = c.if-distance_of-within.true in
    so_far_found c.args.tol c.args.curve.now c.args.marks.now (c.loop-place.place + 1) c.farther-found.result (λ e. absurd (let z : c.distance_of.result ≡ 0 = c.distance_of.ensures e in omega (arith, z, far))) next

pub returns-after-loop-place : goal.returns-after-loop-place
returns-after-loop-place c =
    let tol : to_z w64 (of_z w64 c.args.tol) ≡ c.args.tol = to_z-of_z w64 c.args.tol c.ranges.tol in
    let seen : SoFar c.args.tol c.args.curve.now c.args.marks.now c.loop-place.place c.loop-place.found = rw tol at c.loop-place.invariant in
    so_far_all c.args.tol c.args.curve.now c.args.marks.now c.loop-place.place c.loop-place.found (omega arith) seen
