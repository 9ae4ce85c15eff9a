use Rattle.refusal_cert.proofs.Terms.{AreSteps, bend_terms}
use Rattle.refusal_cert.proofs.coefficients.bend_of.Goals as goal

pub overflow_sub-result : goal.overflow_sub-result
overflow_sub-result c =
    let steps : AreSteps c.s.inside.time c.s.inside.rise c.t.inside.time c.t.inside.rise = record { first = c.s.invariant; second = c.t.invariant; brief = rw (← c.s.view_is, ← c.t.view_is) at c.requires } in
    (bend_terms _ _ _ _ steps).bend_fits

pub returns-clause-value : goal.returns-clause-value
returns-clause-value c =
    let steps : AreSteps c.s.inside.time c.s.inside.rise c.t.inside.time c.t.inside.rise = record { first = c.s.invariant; second = c.t.invariant; brief = rw (← c.s.view_is, ← c.t.view_is) at c.requires } in
    rw (← c.s.view_is, ← c.t.view_is) (bend_terms _ _ _ _ steps).is

pub returns-clause-size : goal.returns-clause-size
returns-clause-size c =
    let steps : AreSteps c.s.inside.time c.s.inside.rise c.t.inside.time c.t.inside.rise = record { first = c.s.invariant; second = c.t.invariant; brief = rw (← c.s.view_is, ← c.t.view_is) at c.requires } in
    let terms = bend_terms _ _ _ _ steps in
    rw terms.is terms.size
