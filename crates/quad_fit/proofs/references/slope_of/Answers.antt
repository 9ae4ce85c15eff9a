use Rattle.std.proofs.Common.{◌≡◌, refl, to_z, of_z, w64, pos, ◌-ℤ◌, ◌<ℤ◌}
use Rattle.std.proofs.lemmas.Int.{to_z-of_z}
use Rattle.quad_fit.proofs.Sizes.{slope_terms}
use Rattle.quad_fit.proofs.references.slope_of.Goals as goal

pub overflow_mul-result : goal.overflow_mul-result
overflow_mul-result c =
    let before : c.x.inside.time <ℤ c.y.inside.time = rw (← c.x.view_is, ← c.y.view_is) at c.requires.before in
    let after : c.y.inside.time <ℤ c.z.inside.time = rw (← c.y.view_is, ← c.z.view_is) at c.requires.after in
    let brief : (c.z.inside.time -ℤ c.x.inside.time) <ℤ pos 30000000 = rw (← c.x.view_is, ← c.z.view_is) at c.requires.brief in
    (slope_terms c.rise_of.result _ _ _ _ _ _ c.rise_of.ensures.size c.x.invariant c.y.invariant c.z.invariant before after brief).times_fit

pub overflow_mul-result-2 : goal.overflow_mul-result-2
overflow_mul-result-2 c =
    let before : c.x.inside.time <ℤ c.y.inside.time = rw (← c.x.view_is, ← c.y.view_is) at c.requires.before in
    let after : c.y.inside.time <ℤ c.z.inside.time = rw (← c.y.view_is, ← c.z.view_is) at c.requires.after in
    let brief : (c.z.inside.time -ℤ c.x.inside.time) <ℤ pos 30000000 = rw (← c.x.view_is, ← c.z.view_is) at c.requires.brief in
    (slope_terms c.rise_of.result _ _ _ _ _ _ c.rise_of.ensures.size c.x.invariant c.y.invariant c.z.invariant before after brief).slope_fits

pub returns : goal.returns
returns c =
    let before : c.x.inside.time <ℤ c.y.inside.time = rw (← c.x.view_is, ← c.y.view_is) at c.requires.before in
    let after : c.y.inside.time <ℤ c.z.inside.time = rw (← c.y.view_is, ← c.z.view_is) at c.requires.after in
    let brief : (c.z.inside.time -ℤ c.x.inside.time) <ℤ pos 30000000 = rw (← c.x.view_is, ← c.z.view_is) at c.requires.brief in
    let lean : to_z w64 (of_z w64 c.args.lean) ≡ c.args.lean = to_z-of_z w64 c.args.lean c.ranges.lean in
    let terms = slope_terms c.rise_of.result _ _ _ _ _ _ c.rise_of.ensures.size c.x.invariant c.y.invariant c.z.invariant before after brief in
    record { value = rw (terms.is, c.rise_of.ensures.value, lean, ← c.x.view_is, ← c.y.view_is, ← c.z.view_is) refl; size = rw terms.is terms.size }
