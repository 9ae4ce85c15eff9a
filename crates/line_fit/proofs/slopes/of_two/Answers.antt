use Rattle.std.proofs.Common.{pos, ◌+ℤ◌, ◌-ℤ◌, ◌≤ℤ◌, ◌<ℤ◌, refl, arith}
use Rattle.std.proofs.lemmas.Int.{ints}
use Rattle.line_fit.proofs.Bounds.{bound_terms, two_filled}
use Rattle.line_fit.proofs.slopes.of_two.Goals as goal

pub invariant_of-result : goal.invariant_of-result
invariant_of-result c =
    let later : c.from.inside.epoch <ℤ c.to.inside.epoch = rw (← c.from.view_is, ← c.to.view_is) at c.requires.later in
    let day : (c.to.inside.epoch -ℤ c.from.inside.epoch) ≤ℤ pos 1000000 = rw (← c.from.view_is, ← c.to.view_is) at c.requires.day in
    let t = bound_terms c.args.tol c.offset-moved.result c.from.inside.epoch c.to.inside.epoch c.requires.tol c.offset-moved.ensures.range c.from.invariant.epoch_in_range c.to.invariant.epoch_in_range later day in
    rw (t.low_is, t.under_is) t.low_slope

pub invariant_of-result-2 : goal.invariant_of-result-2
invariant_of-result-2 c =
    let later : c.from.inside.epoch <ℤ c.to.inside.epoch = rw (← c.from.view_is, ← c.to.view_is) at c.requires.later in
    let day : (c.to.inside.epoch -ℤ c.from.inside.epoch) ≤ℤ pos 1000000 = rw (← c.from.view_is, ← c.to.view_is) at c.requires.day in
    let t = bound_terms c.args.tol c.offset-moved.result c.from.inside.epoch c.to.inside.epoch c.requires.tol c.offset-moved.ensures.range c.from.invariant.epoch_in_range c.to.invariant.epoch_in_range later day in
    rw (t.high_is, t.under_is) t.high_slope

pub returns-clause-filled : goal.returns-clause-filled
returns-clause-filled c =
    let later : c.from.inside.epoch <ℤ c.to.inside.epoch = rw (← c.from.view_is, ← c.to.view_is) at c.requires.later in
    let day : (c.to.inside.epoch -ℤ c.from.inside.epoch) ≤ℤ pos 1000000 = rw (← c.from.view_is, ← c.to.view_is) at c.requires.day in
    let t = bound_terms c.args.tol c.offset-moved.result c.from.inside.epoch c.to.inside.epoch c.requires.tol c.offset-moved.ensures.range c.from.invariant.epoch_in_range c.to.invariant.epoch_in_range later day in
    rw (t.low_is, t.high_is, t.under_is) (two_filled c.offset-moved.result (c.args.tol +ℤ c.args.tol) (c.to.inside.epoch -ℤ c.from.inside.epoch) (let tol = c.requires.tol in omega (arith, ints)) (omega (arith, ints)))

pub returns-clause-low : goal.returns-clause-low
returns-clause-low c =
    let later : c.from.inside.epoch <ℤ c.to.inside.epoch = rw (← c.from.view_is, ← c.to.view_is) at c.requires.later in
    let day : (c.to.inside.epoch -ℤ c.from.inside.epoch) ≤ℤ pos 1000000 = rw (← c.from.view_is, ← c.to.view_is) at c.requires.day in
    let t = bound_terms c.args.tol c.offset-moved.result c.from.inside.epoch c.to.inside.epoch c.requires.tol c.offset-moved.ensures.range c.from.invariant.epoch_in_range c.to.invariant.epoch_in_range later day in
    rw (t.low_is, t.under_is, ← c.offset-moved.ensures.value, ← c.from.view_is, ← c.to.view_is) refl

pub returns-clause-high : goal.returns-clause-high
returns-clause-high c =
    let later : c.from.inside.epoch <ℤ c.to.inside.epoch = rw (← c.from.view_is, ← c.to.view_is) at c.requires.later in
    let day : (c.to.inside.epoch -ℤ c.from.inside.epoch) ≤ℤ pos 1000000 = rw (← c.from.view_is, ← c.to.view_is) at c.requires.day in
    let t = bound_terms c.args.tol c.offset-moved.result c.from.inside.epoch c.to.inside.epoch c.requires.tol c.offset-moved.ensures.range c.from.invariant.epoch_in_range c.to.invariant.epoch_in_range later day in
    rw (t.high_is, t.under_is, ← c.offset-moved.ensures.value, ← c.from.view_is, ← c.to.view_is) refl
