use Rattle.std.proofs.Common.{pos, ◌-ℤ◌, ◌<ℤ◌}
use Rattle.quad_fit.proofs.Sizes.{slack_terms}
use Rattle.quad_fit.proofs.references.slack_of.Goals as goal

pub overflow_mul-result : goal.overflow_mul-result
overflow_mul-result c =
    let rising : c.x.inside.time <ℤ c.z.inside.time = rw (← c.x.view_is, ← c.z.view_is) at c.requires.rising in
    let brief : (c.z.inside.time -ℤ c.x.inside.time) <ℤ pos 30000000 = rw (← c.x.view_is, ← c.z.view_is) at c.requires.brief in
    (slack_terms c.args.lean _ _ _ _ c.requires.lean c.x.invariant c.z.invariant rising brief).slack_fits

pub returns : goal.returns
returns c =
    let rising : c.x.inside.time <ℤ c.z.inside.time = rw (← c.x.view_is, ← c.z.view_is) at c.requires.rising in
    let brief : (c.z.inside.time -ℤ c.x.inside.time) <ℤ pos 30000000 = rw (← c.x.view_is, ← c.z.view_is) at c.requires.brief in
    let terms = slack_terms c.args.lean _ _ _ _ c.requires.lean c.x.invariant c.z.invariant rising brief in
    record { value = rw (← c.x.view_is, ← c.z.view_is) terms.is; size = rw terms.is terms.size }
