use Rattle.std.proofs.Common.{◌≡◌, pos, ◌≤ℤ◌, ◌<ℤ◌, ◌∙◌, SFits, to_z, of_z, w64, arith}
use Rattle.std.specs.Int.{w128}
use Rattle.std.proofs.lemmas.Int.{ints}
use Rattle.bound_prune.proofs.Cuts.{longest_leads, shortest_leads, wide_plain}
use Rattle.bound_prune.proofs.ways.farthest.Goals as goal

pub returns-then-rates-ge0 : goal.returns-then-rates-ge0
returns-then-rates-ge0 c =
    let fits : SFits w64 c.args.rates = c.ranges.rates in
    let from = c.requires.from in
    let order = c.requires.order in
    let to = c.requires.to in
    let rates : to_z w128 (of_z w128 (to_z w64 (of_z w64 c.args.rates))) ≡ c.args.rates = omega (arith, ints) in
    let time : to_z w128 (of_z w128 (to_z w64 (of_z w64 c.args.times.now.longest))) ≡ c.args.times.now.longest = omega (arith, ints) in
    let up : pos 0 ≤ℤ c.args.rates = grind (arith, ints, c.if-rates-ge0.true) in
    rw (rates, time) (wide_plain c.args.rates c.args.times.now.longest fits (record { from = omega (arith, ints); to = to }) ∙ longest_leads c.args.rates c.args.times.now.shortest c.args.times.now.longest up order)

pub returns-else-rates-ge0 : goal.returns-else-rates-ge0
returns-else-rates-ge0 c =
    let fits : SFits w64 c.args.rates = c.ranges.rates in
    let from = c.requires.from in
    let order = c.requires.order in
    let to = c.requires.to in
    let rates : to_z w128 (of_z w128 (to_z w64 (of_z w64 c.args.rates))) ≡ c.args.rates = omega (arith, ints) in
    let time : to_z w128 (of_z w128 (to_z w64 (of_z w64 c.args.times.now.shortest))) ≡ c.args.times.now.shortest = omega (arith, ints) in
    let down : c.args.rates <ℤ pos 0 = grind (arith, ints, c.if-rates-ge0.false) in
    rw (rates, time) (wide_plain c.args.rates c.args.times.now.shortest fits (record { from = from; to = omega (arith, ints) }) ∙ shortest_leads c.args.rates c.args.times.now.shortest c.args.times.now.longest down order)
