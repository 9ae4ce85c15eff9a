use Rattle.refusal_cert.proofs.Terms.{AreSteps, slack_terms}
use Rattle.refusal_cert.proofs.coefficients.slack_of.Goals as goal

pub overflow_mul-result : goal.overflow_mul-result
overflow_mul-result c =
    let steps : AreSteps c.s.inside.time c.s.inside.rise c.t.inside.time c.t.inside.rise = record { first = c.s.invariant; second = c.t.invariant; brief = rw (← c.s.view_is, ← c.t.view_is) at c.requires.brief } in
    (slack_terms c.args.tol _ _ _ _ c.requires.tol steps).slack_fits

pub returns-clause-value : goal.returns-clause-value
returns-clause-value c =
    let steps : AreSteps c.s.inside.time c.s.inside.rise c.t.inside.time c.t.inside.rise = record { first = c.s.invariant; second = c.t.invariant; brief = rw (← c.s.view_is, ← c.t.view_is) at c.requires.brief } in
    rw (← c.s.view_is, ← c.t.view_is) (slack_terms c.args.tol _ _ _ _ c.requires.tol steps).is

pub returns-clause-size : goal.returns-clause-size
returns-clause-size c =
    let steps : AreSteps c.s.inside.time c.s.inside.rise c.t.inside.time c.t.inside.rise = record { first = c.s.invariant; second = c.t.invariant; brief = rw (← c.s.view_is, ← c.t.view_is) at c.requires.brief } in
    let terms = slack_terms c.args.tol _ _ _ _ c.requires.tol steps in
    rw terms.is terms.size
