use Rattle.std.proofs.Common.{◌<ℤ◌, ◌∷◌, [], arith, refl}
use Rattle.refusal_cert.proofs.Parts.{IsLater, later_of}
use Rattle.refusal_cert.proofs.Terms.{step_terms}
use Rattle.refusal_cert.proofs.coefficients.step_between.Goals as goal

pub invariant_of-result : goal.invariant_of-result
invariant_of-result c =
    let l : IsLater c.args.axis c.args.from.now c.args.to.now = later_of c.args.axis (c.args.from.now ∷ c.args.to.now ∷ []) 0 1 c.args.from.now c.requires (omega arith) (omega arith) in
    let later : c.from.inside.epoch <ℤ c.to.inside.epoch = rw (← c.from.view_is, ← c.to.view_is) at l.later in
    let brief = rw (← c.from.view_is, ← c.to.view_is) at l.brief in
    let near = rw (← c.offset.ensures.value) at l.near in
    (step_terms _ _ _ c.from.invariant.epoch_in_range c.to.invariant.epoch_in_range later brief near.0 near.1).is_step

pub returns : goal.returns
returns c =
    let l : IsLater c.args.axis c.args.from.now c.args.to.now = later_of c.args.axis (c.args.from.now ∷ c.args.to.now ∷ []) 0 1 c.args.from.now c.requires (omega arith) (omega arith) in
    let later : c.from.inside.epoch <ℤ c.to.inside.epoch = rw (← c.from.view_is, ← c.to.view_is) at l.later in
    let brief = rw (← c.from.view_is, ← c.to.view_is) at l.brief in
    let near = rw (← c.offset.ensures.value) at l.near in
    let terms = step_terms _ _ _ c.from.invariant.epoch_in_range c.to.invariant.epoch_in_range later brief near.0 near.1 in
    rw (terms.time_is, terms.rise_is, ← c.offset.ensures.value, ← c.from.view_is, ← c.to.view_is) refl
