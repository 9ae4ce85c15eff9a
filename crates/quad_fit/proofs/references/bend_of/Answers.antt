use Rattle.std.proofs.Common.{pos, ◌-ℤ◌, ◌<ℤ◌}
use Rattle.quad_fit.proofs.Sizes.{bend_terms}
use Rattle.quad_fit.proofs.references.bend_of.Goals as goal

pub overflow_mul-result : goal.overflow_mul-result
overflow_mul-result c =
    let before : c.x.inside.time <ℤ c.y.inside.time = rw (← c.x.view_is, ← c.y.view_is) at c.requires.before in
    let after : c.y.inside.time <ℤ c.z.inside.time = rw (← c.y.view_is, ← c.z.view_is) at c.requires.after in
    let brief : (c.z.inside.time -ℤ c.x.inside.time) <ℤ pos 30000000 = rw (← c.x.view_is, ← c.z.view_is) at c.requires.brief in
    (bend_terms _ _ _ _ _ _ c.x.invariant c.y.invariant c.z.invariant before after brief).left_fits

pub overflow_mul-result-2 : goal.overflow_mul-result-2
overflow_mul-result-2 c =
    let before : c.x.inside.time <ℤ c.y.inside.time = rw (← c.x.view_is, ← c.y.view_is) at c.requires.before in
    let after : c.y.inside.time <ℤ c.z.inside.time = rw (← c.y.view_is, ← c.z.view_is) at c.requires.after in
    let brief : (c.z.inside.time -ℤ c.x.inside.time) <ℤ pos 30000000 = rw (← c.x.view_is, ← c.z.view_is) at c.requires.brief in
    (bend_terms _ _ _ _ _ _ c.x.invariant c.y.invariant c.z.invariant before after brief).right_fits

pub overflow_sub-result-5 : goal.overflow_sub-result-5
overflow_sub-result-5 c =
    let before : c.x.inside.time <ℤ c.y.inside.time = rw (← c.x.view_is, ← c.y.view_is) at c.requires.before in
    let after : c.y.inside.time <ℤ c.z.inside.time = rw (← c.y.view_is, ← c.z.view_is) at c.requires.after in
    let brief : (c.z.inside.time -ℤ c.x.inside.time) <ℤ pos 30000000 = rw (← c.x.view_is, ← c.z.view_is) at c.requires.brief in
    (bend_terms _ _ _ _ _ _ c.x.invariant c.y.invariant c.z.invariant before after brief).bend_fits

pub returns : goal.returns
returns c =
    let before : c.x.inside.time <ℤ c.y.inside.time = rw (← c.x.view_is, ← c.y.view_is) at c.requires.before in
    let after : c.y.inside.time <ℤ c.z.inside.time = rw (← c.y.view_is, ← c.z.view_is) at c.requires.after in
    let brief : (c.z.inside.time -ℤ c.x.inside.time) <ℤ pos 30000000 = rw (← c.x.view_is, ← c.z.view_is) at c.requires.brief in
    let terms = bend_terms _ _ _ _ _ _ c.x.invariant c.y.invariant c.z.invariant before after brief in
    record { value = rw (← c.x.view_is, ← c.y.view_is, ← c.z.view_is) terms.is; size = rw terms.is terms.size }
