use Rattle.std.proofs.Common.{◌≡◌, ◌+◌, ◌/◌, ◌∙◌, arith}
use Rattle.collapse.proofs.Filing.{none_filed}
use Rattle.collapse.proofs.strips.empty_strips.Goals as goal

pub returns : goal.returns
returns c =
    let few = c.loop.auto.counter-end in
    let all = c.loop-test.false in
    let e : c.loop.counter ≡ 180000000 / c.args.grid.width + 1 = omega (arith, few, all) in
    none_filed (λ list. list.items) c.loop.strips.items c.args.grid.width (c.loop.invariant.0 ∙ e) c.loop.invariant.1
