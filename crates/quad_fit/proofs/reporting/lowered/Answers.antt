use Rattle.quad_fit.specs.Lowering.{IsDivisorOf}
use Rattle.std.proofs.Common.{subst, sym}
use Rattle.sky_math.specs.Quadratics.{Quadratic}
use Rattle.quad_fit.proofs.LoweredTerms.{divisor_terms, quotient_terms, small_fits}
use Rattle.quad_fit.proofs.reporting.lowered.Goals as goal

pub overflow_cast-divisor : goal.overflow_cast-divisor
overflow_cast-divisor c = small_fits c.divisor_of-divisor.result c.divisor_of-divisor.ensures.size

pub quotient-requires-clause-positive : goal.quotient-requires-clause-positive
quotient-requires-clause-positive c =
    let f : Quadratic = record { p = c.seen.inside.p; v = c.seen.inside.v; q = c.seen.inside.q; d = c.seen.inside.den } in
    let is : IsDivisorOf f c.divisor_of-divisor.result = subst (λ (g : Quadratic). IsDivisorOf g c.divisor_of-divisor.result) (sym c.seen.view_is) c.divisor_of-divisor.ensures.value in
    (divisor_terms f c.divisor_of-divisor.result c.seen.invariant is).positive

pub quotient-requires-clause-divides : goal.quotient-requires-clause-divides
quotient-requires-clause-divides c =
    let f : Quadratic = record { p = c.seen.inside.p; v = c.seen.inside.v; q = c.seen.inside.q; d = c.seen.inside.den } in
    let is : IsDivisorOf f c.divisor_of-divisor.result = subst (λ (g : Quadratic). IsDivisorOf g c.divisor_of-divisor.result) (sym c.seen.view_is) c.divisor_of-divisor.ensures.value in
    (divisor_terms f c.divisor_of-divisor.result c.seen.invariant is).divides_d

pub quotient-requires-2-clause-positive : goal.quotient-requires-2-clause-positive
quotient-requires-2-clause-positive c =
    let f : Quadratic = record { p = c.seen.inside.p; v = c.seen.inside.v; q = c.seen.inside.q; d = c.seen.inside.den } in
    let is : IsDivisorOf f c.divisor_of-divisor.result = subst (λ (g : Quadratic). IsDivisorOf g c.divisor_of-divisor.result) (sym c.seen.view_is) c.divisor_of-divisor.ensures.value in
    (divisor_terms f c.divisor_of-divisor.result c.seen.invariant is).positive

pub quotient-requires-2-clause-divides : goal.quotient-requires-2-clause-divides
quotient-requires-2-clause-divides c =
    let f : Quadratic = record { p = c.seen.inside.p; v = c.seen.inside.v; q = c.seen.inside.q; d = c.seen.inside.den } in
    let is : IsDivisorOf f c.divisor_of-divisor.result = subst (λ (g : Quadratic). IsDivisorOf g c.divisor_of-divisor.result) (sym c.seen.view_is) c.divisor_of-divisor.ensures.value in
    (divisor_terms f c.divisor_of-divisor.result c.seen.invariant is).divides_p

pub quotient-requires-3-clause-positive : goal.quotient-requires-3-clause-positive
quotient-requires-3-clause-positive c =
    let f : Quadratic = record { p = c.seen.inside.p; v = c.seen.inside.v; q = c.seen.inside.q; d = c.seen.inside.den } in
    let is : IsDivisorOf f c.divisor_of-divisor.result = subst (λ (g : Quadratic). IsDivisorOf g c.divisor_of-divisor.result) (sym c.seen.view_is) c.divisor_of-divisor.ensures.value in
    (divisor_terms f c.divisor_of-divisor.result c.seen.invariant is).positive

pub quotient-requires-3-clause-divides : goal.quotient-requires-3-clause-divides
quotient-requires-3-clause-divides c =
    let f : Quadratic = record { p = c.seen.inside.p; v = c.seen.inside.v; q = c.seen.inside.q; d = c.seen.inside.den } in
    let is : IsDivisorOf f c.divisor_of-divisor.result = subst (λ (g : Quadratic). IsDivisorOf g c.divisor_of-divisor.result) (sym c.seen.view_is) c.divisor_of-divisor.ensures.value in
    (divisor_terms f c.divisor_of-divisor.result c.seen.invariant is).divides_v

pub quotient-requires-4-clause-positive : goal.quotient-requires-4-clause-positive
quotient-requires-4-clause-positive c =
    let f : Quadratic = record { p = c.seen.inside.p; v = c.seen.inside.v; q = c.seen.inside.q; d = c.seen.inside.den } in
    let is : IsDivisorOf f c.divisor_of-divisor.result = subst (λ (g : Quadratic). IsDivisorOf g c.divisor_of-divisor.result) (sym c.seen.view_is) c.divisor_of-divisor.ensures.value in
    (divisor_terms f c.divisor_of-divisor.result c.seen.invariant is).positive

pub quotient-requires-4-clause-divides : goal.quotient-requires-4-clause-divides
quotient-requires-4-clause-divides c =
    let f : Quadratic = record { p = c.seen.inside.p; v = c.seen.inside.v; q = c.seen.inside.q; d = c.seen.inside.den } in
    let is : IsDivisorOf f c.divisor_of-divisor.result = subst (λ (g : Quadratic). IsDivisorOf g c.divisor_of-divisor.result) (sym c.seen.view_is) c.divisor_of-divisor.ensures.value in
    (divisor_terms f c.divisor_of-divisor.result c.seen.invariant is).divides_q

pub invariant_of-result : goal.invariant_of-result
invariant_of-result c =
    let f : Quadratic = record { p = c.seen.inside.p; v = c.seen.inside.v; q = c.seen.inside.q; d = c.seen.inside.den } in
    let is : IsDivisorOf f c.divisor_of-divisor.result = subst (λ (g : Quadratic). IsDivisorOf g c.divisor_of-divisor.result) (sym c.seen.view_is) c.divisor_of-divisor.ensures.value in
    let terms = quotient_terms f c.divisor_of-divisor.result c.quotient-2.result c.quotient-3.result c.quotient-4.result c.quotient.result c.seen.invariant is c.quotient-2.ensures c.quotient-3.ensures c.quotient-4.ensures c.quotient.ensures in
    rw (terms.p_is, terms.v_is, terms.q_is, terms.d_is) terms.quad

pub returns-clause-lowered : goal.returns-clause-lowered
returns-clause-lowered c =
    let f : Quadratic = record { p = c.seen.inside.p; v = c.seen.inside.v; q = c.seen.inside.q; d = c.seen.inside.den } in
    let is : IsDivisorOf f c.divisor_of-divisor.result = subst (λ (g : Quadratic). IsDivisorOf g c.divisor_of-divisor.result) (sym c.seen.view_is) c.divisor_of-divisor.ensures.value in
    let terms = quotient_terms f c.divisor_of-divisor.result c.quotient-2.result c.quotient-3.result c.quotient-4.result c.quotient.result c.seen.invariant is c.quotient-2.ensures c.quotient-3.ensures c.quotient-4.ensures c.quotient.ensures in
    rw (terms.p_is, terms.v_is, terms.q_is, terms.d_is, ← c.seen.view_is) terms.lowered
