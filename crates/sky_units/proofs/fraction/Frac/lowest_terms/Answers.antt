use Rattle.sky_units.proofs.Fractions.{divisor_facts, quotient_facts}
use Rattle.sky_units.proofs.fraction.Frac.lowest_terms.Goals as goal

pub overflow_cast-divisor : goal.overflow_cast-divisor
overflow_cast-divisor c =
    (divisor_facts c.self.inside.num c.self.inside.den c.common_divisor-divisor.result _ _ c.self.invariant c.unsigned_abs.ensures.value c.unsigned_abs-2.ensures.value c.common_divisor-divisor.ensures).fits

pub quotient-requires-clause-positive : goal.quotient-requires-clause-positive
quotient-requires-clause-positive c =
    (divisor_facts c.self.inside.num c.self.inside.den c.common_divisor-divisor.result _ _ c.self.invariant c.unsigned_abs.ensures.value c.unsigned_abs-2.ensures.value c.common_divisor-divisor.ensures).positive

pub quotient-requires-clause-divides : goal.quotient-requires-clause-divides
quotient-requires-clause-divides c =
    (divisor_facts c.self.inside.num c.self.inside.den c.common_divisor-divisor.result _ _ c.self.invariant c.unsigned_abs.ensures.value c.unsigned_abs-2.ensures.value c.common_divisor-divisor.ensures).divides_num

pub quotient-requires-2-clause-positive : goal.quotient-requires-2-clause-positive
quotient-requires-2-clause-positive c =
    (divisor_facts c.self.inside.num c.self.inside.den c.common_divisor-divisor.result _ _ c.self.invariant c.unsigned_abs.ensures.value c.unsigned_abs-2.ensures.value c.common_divisor-divisor.ensures).positive

pub quotient-requires-2-clause-divides : goal.quotient-requires-2-clause-divides
quotient-requires-2-clause-divides c =
    (divisor_facts c.self.inside.num c.self.inside.den c.common_divisor-divisor.result _ _ c.self.invariant c.unsigned_abs.ensures.value c.unsigned_abs-2.ensures.value c.common_divisor-divisor.ensures).divides_den

pub invariant_of-result : goal.invariant_of-result
invariant_of-result c =
    (quotient_facts c.self.inside.num c.self.inside.den c.common_divisor-divisor.result c.quotient.result c.quotient-2.result c.self.invariant
    (divisor_facts c.self.inside.num c.self.inside.den c.common_divisor-divisor.result _ _ c.self.invariant c.unsigned_abs.ensures.value c.unsigned_abs-2.ensures.value c.common_divisor-divisor.ensures)
    c.quotient.ensures c.quotient-2.ensures).range

pub returns-clause-value : goal.returns-clause-value
returns-clause-value c =
    rw (← c.self.view_is) (quotient_facts c.self.inside.num c.self.inside.den c.common_divisor-divisor.result c.quotient.result c.quotient-2.result c.self.invariant
    (divisor_facts c.self.inside.num c.self.inside.den c.common_divisor-divisor.result _ _ c.self.invariant c.unsigned_abs.ensures.value c.unsigned_abs-2.ensures.value c.common_divisor-divisor.ensures)
    c.quotient.ensures c.quotient-2.ensures).value

pub returns-clause-lowest : goal.returns-clause-lowest
returns-clause-lowest c =
    (quotient_facts c.self.inside.num c.self.inside.den c.common_divisor-divisor.result c.quotient.result c.quotient-2.result c.self.invariant
    (divisor_facts c.self.inside.num c.self.inside.den c.common_divisor-divisor.result _ _ c.self.invariant c.unsigned_abs.ensures.value c.unsigned_abs-2.ensures.value c.common_divisor-divisor.ensures)
    c.quotient.ensures c.quotient-2.ensures).lowest

pub returns-clause-range : goal.returns-clause-range
returns-clause-range c =
    (quotient_facts c.self.inside.num c.self.inside.den c.common_divisor-divisor.result c.quotient.result c.quotient-2.result c.self.invariant
    (divisor_facts c.self.inside.num c.self.inside.den c.common_divisor-divisor.result _ _ c.self.invariant c.unsigned_abs.ensures.value c.unsigned_abs-2.ensures.value c.common_divisor-divisor.ensures)
    c.quotient.ensures c.quotient-2.ensures).range
