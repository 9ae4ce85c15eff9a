use Rattle.std.proofs.Common.{◌≡◌, to_z, of_z, w64}
use Rattle.std.specs.List.{All}
use Rattle.std.proofs.lemmas.Int.{to_z-of_z}
use Rattle.sky_math.specs.Quadratics.{Passes}
use Rattle.quad_fit.specs.Curves.{quadratic_of}
use Rattle.quad_fit.specs.References.{IsLevelled, IsOutsideOf, NonePasses}
use Rattle.quad_fit.proofs.Exchanges.{levelled_is_least, suits_among}
use Rattle.quad_fit.proofs.LevelSteps.{IsState, bend_sinks}
use Rattle.quad_fit.proofs.levelling.extreme.Goals as goal

pub loop-outside-init : goal.loop-outside-init
loop-outside-init c =
    let tol : to_z w64 (of_z w64 c.args.tol) ≡ c.args.tol = to_z-of_z w64 c.args.tol c.ranges.tol in
    let limit = c.requires.tol in
    let first : IsState c.args.tol c.args.up c.args.marks.now c.args.start.now c.levelled_curve-curve.result = record { is = c.requires.triple; levelled = rw tol at c.levelled_curve-curve.ensures.levelled; range = c.levelled_curve-curve.ensures.range } in
    rw tol first

pub returns-in_err-triple : goal.returns-in_err-triple
returns-in_err-triple c =
    let tol : to_z w64 (of_z w64 c.args.tol) ≡ c.args.tol = to_z-of_z w64 c.args.tol c.ranges.tol in
    let limit = c.requires.tol in
    let state : IsState c.args.tol c.args.up c.args.marks.now c.loop-outside.triple c.loop-outside.curve = rw tol at c.loop-outside.invariant in
    let outside : IsOutsideOf c.args.tol c.loop-outside.curve c.args.marks.now c.in-Some.outside = rw tol at c.in-Some.ensures in
    let none : NonePasses c.args.tol c.args.marks.now = c.in_err-triple.ensures c.args.tol c.loop-outside.curve c.args.marks.now limit.from c.requires.marks state.is state.levelled outside in
    rw c.from_residual.ensures none

pub levelled_curve-curve-requires-in-Some-clause-triple : goal.levelled_curve-curve-requires-in-Some-clause-triple
levelled_curve-curve-requires-in-Some-clause-triple c =
    let tol : to_z w64 (of_z w64 c.args.tol) ≡ c.args.tol = to_z-of_z w64 c.args.tol c.ranges.tol in
    let limit = c.requires.tol in
    let state : IsState c.args.tol c.args.up c.args.marks.now c.loop-outside.triple c.loop-outside.curve = rw tol at c.loop-outside.invariant in
    let outside : IsOutsideOf c.args.tol c.loop-outside.curve c.args.marks.now c.in-Some.outside = rw tol at c.in-Some.ensures in
    let next = c.in_ok-triple.ensures c.args.tol c.loop-outside.curve c.args.marks.now limit.from c.requires.marks state.is state.levelled outside in
    next.0.is

pub loop-outside-smaller : goal.loop-outside-smaller
loop-outside-smaller c =
    let tol : to_z w64 (of_z w64 c.args.tol) ≡ c.args.tol = to_z-of_z w64 c.args.tol c.ranges.tol in
    let limit = c.requires.tol in
    let state : IsState c.args.tol c.args.up c.args.marks.now c.loop-outside.triple c.loop-outside.curve = rw tol at c.loop-outside.invariant in
    let outside : IsOutsideOf c.args.tol c.loop-outside.curve c.args.marks.now c.in-Some.outside = rw tol at c.in-Some.ensures in
    let next = c.in_ok-triple.ensures c.args.tol c.loop-outside.curve c.args.marks.now limit.from c.requires.marks state.is state.levelled outside in
    let levelled : IsLevelled c.args.tol c.args.up c.in_ok-triple.triple c.levelled_curve-curve-in-Some.result = rw tol at c.levelled_curve-curve-in-Some.ensures.levelled in
    bend_sinks c.args.tol c.args.up c.args.marks.now c.loop-outside.triple c.in_ok-triple.triple c.loop-outside.curve c.levelled_curve-curve-in-Some.result state next.1 levelled c.levelled_curve-curve-in-Some.ensures.range

pub loop-outside-preserved : goal.loop-outside-preserved
loop-outside-preserved c =
    let tol : to_z w64 (of_z w64 c.args.tol) ≡ c.args.tol = to_z-of_z w64 c.args.tol c.ranges.tol in
    let limit = c.requires.tol in
    let state : IsState c.args.tol c.args.up c.args.marks.now c.loop-outside.triple c.loop-outside.curve = rw tol at c.loop-outside.invariant in
    let outside : IsOutsideOf c.args.tol c.loop-outside.curve c.args.marks.now c.in-Some.outside = rw tol at c.in-Some.ensures in
    let next = c.in_ok-triple.ensures c.args.tol c.loop-outside.curve c.args.marks.now limit.from c.requires.marks state.is state.levelled outside in
    let levelled : IsLevelled c.args.tol c.args.up c.in_ok-triple.triple c.levelled_curve-curve-in-Some.result = rw tol at c.levelled_curve-curve-in-Some.ensures.levelled in
    let following : IsState c.args.tol c.args.up c.args.marks.now c.in_ok-triple.triple c.levelled_curve-curve-in-Some.result = record { is = next.0; levelled = levelled; range = c.levelled_curve-curve-in-Some.ensures.range } in
    rw tol following

pub returns : goal.returns
returns c =
    let tol : to_z w64 (of_z w64 c.args.tol) ≡ c.args.tol = to_z-of_z w64 c.args.tol c.ranges.tol in
    let limit = c.requires.tol in
    let state : IsState c.args.tol c.args.up c.args.marks.now c.loop-outside.triple c.loop-outside.curve = rw tol at c.loop-outside.invariant in
    let passes : All (Passes c.args.tol (quadratic_of c.loop-outside.curve)) c.args.marks.now = rw tol at c.in_default.ensures in
    record { passes = passes; is_extreme = λ a b p suits. levelled_is_least c.args.tol a b c.args.up c.loop-outside.triple c.loop-outside.curve state.levelled (suits_among c.args.tol a b c.args.marks.now c.loop-outside.triple c.requires.marks.rise state.is suits) }
