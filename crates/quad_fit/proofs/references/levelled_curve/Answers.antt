use Rattle.std.proofs.Common.{◌≡◌, neg_ℤ, w64, ap, ◌∙◌, arith}
use Rattle.std.proofs.lemmas.Int.{ints, to_z-of_z}
use Rattle.sky_math.specs.Quadratics.{Point}
use Rattle.quad_fit.specs.References.{signed}
use Rattle.quad_fit.proofs.LevelCurves.{levelled_of, sum_same}
use Rattle.quad_fit.proofs.Sizes.{held, bend_sum_fits, curve_terms}
use Rattle.quad_fit.proofs.references.levelled_curve.Goals as goal

pub overflow_add-result : goal.overflow_add-result
overflow_add-result c = bend_sum_fits c.bend_of-bend.result c.slack_of-slack.result c.bend_of-bend.ensures.size c.slack_of-slack.ensures.size

pub invariant_of-result : goal.invariant_of-result
invariant_of-result c =
    (curve_terms c.start_of.result c.slope_of.result c.bend_of-bend.result c.slack_of-slack.result c.stretch_of-den.result _ _ _ _ c.start_of.ensures.size c.slope_of.ensures.size c.bend_of-bend.ensures.size c.slack_of-slack.ensures.size c.stretch_of-den.ensures.size c.first.invariant c.middle.invariant).is_curve

pub returns : goal.returns
returns c =
    let terms = curve_terms c.start_of.result c.slope_of.result c.bend_of-bend.result c.slack_of-slack.result c.stretch_of-den.result _ _ _ _ c.start_of.ensures.size c.slope_of.ensures.size c.bend_of-bend.ensures.size c.slack_of-slack.ensures.size c.stretch_of-den.ensures.size c.first.invariant c.middle.invariant in
    let tol : held c.args.tol ≡ c.args.tol = to_z-of_z w64 c.args.tol c.ranges.tol in
    let lean : held c.lean_of-lean.result ≡ neg_ℤ (signed c.args.up c.args.tol) = to_z-of_z w64 c.lean_of-lean.result (omega (arith, ints, c.lean_of-lean.ensures.size)) ∙ (rw tol at c.lean_of-lean.ensures.value) in
    record {
      levelled = (
          levelled_of c.args.tol c.args.up c.args.triple.now (held c.lean_of-lean.result) _ _ _ _ _ _ lean
          (terms.start_is ∙ c.start_of.ensures.value)
          (terms.slope_is ∙ c.slope_of.ensures.value)
          (terms.bend_is ∙ sum_same _ _ _ _ c.bend_of-bend.ensures.value c.slack_of-slack.ensures.value)
          (terms.den_is ∙ c.stretch_of-den.ensures.value)
          (terms.first_is ∙ ap (λ (x : Point). x.time) c.first.view_is)
          (terms.second_is ∙ ap (λ (x : Point). x.time) c.middle.view_is)
          );
      range = terms.is_curve;
    }
