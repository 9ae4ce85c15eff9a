use Rattle.std.proofs.Common.{◌≡◌, to_z, of_z, w64}
use Rattle.std.specs.Prelude.{IsTrue, ◌↔◌}
use Rattle.std.specs.List.{All}
use Rattle.std.proofs.lemmas.Int.{to_z-of_z}
use Rattle.sky_math.specs.Quadratics.{IsAdmitted, Passes}
use Rattle.quad_fit.specs.Curves.{quadratic_of}
use Rattle.quad_fit.specs.Levels.{IsBent}
use Rattle.quad_fit.specs.References.{IsLevelled, IsOutsideOf, NonePasses}
use Rattle.quad_fit.proofs.LevelSteps.{IsState, bend_sinks, still_bent, not_admitted}
use Rattle.quad_fit.proofs.levelling.level_triple.Goals as goal

pub loop-triple-init : goal.loop-triple-init
loop-triple-init c =
    let tol : to_z w64 (of_z w64 c.args.tol) ≡ c.args.tol = to_z-of_z w64 c.args.tol c.ranges.tol in
    let first : IsState c.args.tol c.args.up c.args.marks.now c.args.start.now c.levelled_curve-curve.result = record { is = c.requires.triple; levelled = rw tol at c.levelled_curve-curve.ensures.levelled; range = c.levelled_curve-curve.ensures.range } in
    rw tol (first, c.requires.bent)

pub returns-in_default : goal.returns-in_default
returns-in_default c =
    let tol : to_z w64 (of_z w64 c.args.tol) ≡ c.args.tol = to_z-of_z w64 c.args.tol c.ranges.tol in
    let state : IsState c.args.tol c.args.up c.args.marks.now c.loop-triple.triple c.loop-triple.curve × IsBent c.args.tol c.args.up c.loop-triple.triple = rw tol at c.loop-triple.invariant in
    let acc : to_z w64 (of_z w64 c.args.acc) ≡ c.args.acc = to_z-of_z w64 c.args.acc c.ranges.acc in
    let test : IsTrue c.is_admitted.result ↔ IsAdmitted c.args.acc (quadratic_of c.loop-triple.curve) = rw acc at c.is_admitted.ensures in
    let passes : All (Passes c.args.tol (quadratic_of c.loop-triple.curve)) c.args.marks.now = rw tol at c.in_default.ensures in
    record { admitted = test.0 c.loop-triple-test.true; passes = passes; rests = (state.0.is, state.1, state.0.levelled) }

pub returns-in_err-triple : goal.returns-in_err-triple
returns-in_err-triple c =
    let tol : to_z w64 (of_z w64 c.args.tol) ≡ c.args.tol = to_z-of_z w64 c.args.tol c.ranges.tol in
    let state : IsState c.args.tol c.args.up c.args.marks.now c.loop-triple.triple c.loop-triple.curve × IsBent c.args.tol c.args.up c.loop-triple.triple = rw tol at c.loop-triple.invariant in
    let limit = c.requires.tol in
    let outside : IsOutsideOf c.args.tol c.loop-triple.curve c.args.marks.now c.in-Some.outside = rw tol at c.in-Some.ensures in
    let none : NonePasses c.args.tol c.args.marks.now = c.in_err-triple.ensures c.args.tol c.loop-triple.curve c.args.marks.now limit.from c.requires.marks state.0.is state.0.levelled outside in
    rw c.from_residual.ensures (λ w. none w.0 w.1.0 w.2)

pub levelled_curve-curve-requires-in-loop-triple-clause-triple : goal.levelled_curve-curve-requires-in-loop-triple-clause-triple
levelled_curve-curve-requires-in-loop-triple-clause-triple c =
    let tol : to_z w64 (of_z w64 c.args.tol) ≡ c.args.tol = to_z-of_z w64 c.args.tol c.ranges.tol in
    let state : IsState c.args.tol c.args.up c.args.marks.now c.loop-triple.triple c.loop-triple.curve × IsBent c.args.tol c.args.up c.loop-triple.triple = rw tol at c.loop-triple.invariant in
    let limit = c.requires.tol in
    let outside : IsOutsideOf c.args.tol c.loop-triple.curve c.args.marks.now c.in-Some.outside = rw tol at c.in-Some.ensures in
    let next = c.in_ok-triple.ensures c.args.tol c.loop-triple.curve c.args.marks.now limit.from c.requires.marks state.0.is state.0.levelled outside in
    next.0.is

pub loop-triple-smaller : goal.loop-triple-smaller
loop-triple-smaller c =
    let tol : to_z w64 (of_z w64 c.args.tol) ≡ c.args.tol = to_z-of_z w64 c.args.tol c.ranges.tol in
    let state : IsState c.args.tol c.args.up c.args.marks.now c.loop-triple.triple c.loop-triple.curve × IsBent c.args.tol c.args.up c.loop-triple.triple = rw tol at c.loop-triple.invariant in
    let limit = c.requires.tol in
    let outside : IsOutsideOf c.args.tol c.loop-triple.curve c.args.marks.now c.in-Some.outside = rw tol at c.in-Some.ensures in
    let next = c.in_ok-triple.ensures c.args.tol c.loop-triple.curve c.args.marks.now limit.from c.requires.marks state.0.is state.0.levelled outside in
    let levelled : IsLevelled c.args.tol c.args.up c.in_ok-triple.triple c.levelled_curve-curve-in-loop-triple.result = rw tol at c.levelled_curve-curve-in-loop-triple.ensures.levelled in
    bend_sinks c.args.tol c.args.up c.args.marks.now c.loop-triple.triple c.in_ok-triple.triple c.loop-triple.curve c.levelled_curve-curve-in-loop-triple.result state.0 next.1 levelled c.levelled_curve-curve-in-loop-triple.ensures.range

pub loop-triple-preserved : goal.loop-triple-preserved
loop-triple-preserved c =
    let tol : to_z w64 (of_z w64 c.args.tol) ≡ c.args.tol = to_z-of_z w64 c.args.tol c.ranges.tol in
    let state : IsState c.args.tol c.args.up c.args.marks.now c.loop-triple.triple c.loop-triple.curve × IsBent c.args.tol c.args.up c.loop-triple.triple = rw tol at c.loop-triple.invariant in
    let limit = c.requires.tol in
    let outside : IsOutsideOf c.args.tol c.loop-triple.curve c.args.marks.now c.in-Some.outside = rw tol at c.in-Some.ensures in
    let next = c.in_ok-triple.ensures c.args.tol c.loop-triple.curve c.args.marks.now limit.from c.requires.marks state.0.is state.0.levelled outside in
    let levelled : IsLevelled c.args.tol c.args.up c.in_ok-triple.triple c.levelled_curve-curve-in-loop-triple.result = rw tol at c.levelled_curve-curve-in-loop-triple.ensures.levelled in
    let following : IsState c.args.tol c.args.up c.args.marks.now c.in_ok-triple.triple c.levelled_curve-curve-in-loop-triple.result = record { is = next.0; levelled = levelled; range = c.levelled_curve-curve-in-loop-triple.ensures.range } in
    rw tol (following, still_bent c.args.tol c.args.up c.args.marks.now c.loop-triple.triple c.in_ok-triple.triple c.loop-triple.curve state.0 state.1 next.0 next.1)

pub returns : goal.returns
returns c =
    let tol : to_z w64 (of_z w64 c.args.tol) ≡ c.args.tol = to_z-of_z w64 c.args.tol c.ranges.tol in
    let state : IsState c.args.tol c.args.up c.args.marks.now c.loop-triple.triple c.loop-triple.curve × IsBent c.args.tol c.args.up c.loop-triple.triple = rw tol at c.loop-triple.invariant in
    let acc : to_z w64 (of_z w64 c.args.acc) ≡ c.args.acc = to_z-of_z w64 c.args.acc c.ranges.acc in
    let limit = c.requires.acc in
    let test : IsTrue c.is_admitted.result ↔ IsAdmitted c.args.acc (quadratic_of c.loop-triple.curve) = rw acc at c.is_admitted.ensures in
    not_admitted c.args.acc c.args.tol c.args.up c.args.marks.now c.loop-triple.triple c.loop-triple.curve c.is_admitted.result limit.from state.0 state.1 c.loop-triple-test.false test
