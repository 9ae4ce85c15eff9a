use Rattle.std.proofs.Common.{◌+ℤ◌, ◌-ℤ◌, ◌≡◌, ◌∷◌, [], w64, refl}
use Rattle.std.proofs.lemmas.Int.{to_z-of_z}
use Rattle.quad_fit.proofs.Sizes.{held}
use Rattle.refusal_cert.specs.Coefficients.{AreEnds}
use Rattle.refusal_cert.proofs.Parts.{both_brief, front_of, rest_of}
use Rattle.refusal_cert.proofs.Terms.{end_terms}
use Rattle.refusal_cert.proofs.coefficients.coefficients_of.Goals as goal

pub step_between-first-requires : goal.step_between-first-requires
step_between-first-requires c = front_of (c.args.x.now ∷ c.args.y.now ∷ []) (c.args.z.now ∷ []) c.requires.arc

pub step_between-second-requires : goal.step_between-second-requires
step_between-second-requires c = rest_of c.args.x.now (c.args.y.now ∷ c.args.z.now ∷ []) c.requires.arc

pub bend_of-bend-requires : goal.bend_of-bend-requires
bend_of-bend-requires c =
    let brief = both_brief c.args.axis c.args.x.now c.args.y.now c.args.z.now _ _ c.requires.arc c.step_between-first.ensures c.step_between-second.ensures in
    brief

pub slack_of-slack-requires-clause-brief : goal.slack_of-slack-requires-clause-brief
slack_of-slack-requires-clause-brief c =
    let brief = both_brief c.args.axis c.args.x.now c.args.y.now c.args.z.now _ _ c.requires.arc c.step_between-first.ensures c.step_between-second.ensures in
    brief

pub stretch_of-den-requires : goal.stretch_of-den-requires
stretch_of-den-requires c =
    let brief = both_brief c.args.axis c.args.x.now c.args.y.now c.args.z.now _ _ c.requires.arc c.step_between-first.ensures c.step_between-second.ensures in
    brief

pub overflow_sub-result : goal.overflow_sub-result
overflow_sub-result c =
    let terms = end_terms c.bend_of-bend.result c.slack_of-slack.result c.stretch_of-den.result c.bend_of-bend.ensures.size c.slack_of-slack.ensures.size c.stretch_of-den.ensures.size in
    terms.low_fits

pub overflow_add-result : goal.overflow_add-result
overflow_add-result c =
    let terms = end_terms c.bend_of-bend.result c.slack_of-slack.result c.stretch_of-den.result c.bend_of-bend.ensures.size c.slack_of-slack.ensures.size c.stretch_of-den.ensures.size in
    terms.high_fits

pub invariant_of-result : goal.invariant_of-result
invariant_of-result c =
    let terms = end_terms c.bend_of-bend.result c.slack_of-slack.result c.stretch_of-den.result c.bend_of-bend.ensures.size c.slack_of-slack.ensures.size c.stretch_of-den.ensures.size in
    rw (terms.low_is, terms.den_is) terms.low_frac

pub invariant_of-result-2 : goal.invariant_of-result-2
invariant_of-result-2 c =
    let terms = end_terms c.bend_of-bend.result c.slack_of-slack.result c.stretch_of-den.result c.bend_of-bend.ensures.size c.slack_of-slack.ensures.size c.stretch_of-den.ensures.size in
    rw (terms.high_is, terms.den_is) terms.high_frac

pub returns : goal.returns
returns c =
    let terms = end_terms c.bend_of-bend.result c.slack_of-slack.result c.stretch_of-den.result c.bend_of-bend.ensures.size c.slack_of-slack.ensures.size c.stretch_of-den.ensures.size in
    let tol : held c.args.tol ≡ c.args.tol = to_z-of_z w64 c.args.tol c.ranges.tol in
    let ends : AreEnds c.args.axis c.args.tol c.args.x.now c.args.y.now c.args.z.now (record { num = c.bend_of-bend.result -ℤ c.slack_of-slack.result; den = c.stretch_of-den.result }) (record { num = c.bend_of-bend.result +ℤ c.slack_of-slack.result; den = c.stretch_of-den.result }) = record {
      low_is = rw (c.bend_of-bend.ensures.value, c.slack_of-slack.ensures.value, c.stretch_of-den.ensures.value, c.step_between-first.ensures, c.step_between-second.ensures, tol) refl;
      high_is = rw (c.bend_of-bend.ensures.value, c.slack_of-slack.ensures.value, c.stretch_of-den.ensures.value, c.step_between-first.ensures, c.step_between-second.ensures, tol) refl;
    } in
    rw (terms.low_is, terms.high_is, terms.den_is) ends
