use Rattle.refusal_cert.proofs.Terms.{AreSteps, stretch_terms}
use Rattle.refusal_cert.proofs.coefficients.stretch_of.Goals as goal

pub overflow_mul-result-2 : goal.overflow_mul-result-2
overflow_mul-result-2 c =
    let steps : AreSteps c.s.inside.time c.s.inside.rise c.t.inside.time c.t.inside.rise = record { first = c.s.invariant; second = c.t.invariant; brief = rw (← c.s.view_is, ← c.t.view_is) at c.requires } in
    (stretch_terms _ _ _ _ steps).stretch_fits

pub returns-clause-value : goal.returns-clause-value
returns-clause-value c =
    let steps : AreSteps c.s.inside.time c.s.inside.rise c.t.inside.time c.t.inside.rise = record { first = c.s.invariant; second = c.t.invariant; brief = rw (← c.s.view_is, ← c.t.view_is) at c.requires } in
    rw (← c.s.view_is, ← c.t.view_is) (stretch_terms _ _ _ _ steps).is

pub returns-clause-size : goal.returns-clause-size
returns-clause-size c =
    let steps : AreSteps c.s.inside.time c.s.inside.rise c.t.inside.time c.t.inside.rise = record { first = c.s.invariant; second = c.t.invariant; brief = rw (← c.s.view_is, ← c.t.view_is) at c.requires } in
    let terms = stretch_terms _ _ _ _ steps in
    rw terms.is terms.range
