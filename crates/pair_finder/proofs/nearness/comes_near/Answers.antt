use Rattle.std.proofs.Common.{◌≡◌, pos, neg_ℤ, ◌-ℤ◌, to_z, of_z, w64, arith}
use Rattle.std.proofs.lemmas.Int.{ints}
use Rattle.std.specs.Int.Signed.{le_z}
use Rattle.pair_finder.specs.Pruning.{least_difference, greatest_difference}
use Rattle.pair_finder.proofs.Choices.{the_second}
use Rattle.pair_finder.proofs.nearness.comes_near.Goals as goal

pub returns : goal.returns
returns c =
    let opposite : to_z w64 (of_z w64 (pos 0 -ℤ to_z w64 (of_z w64 c.args.reach))) ≡ neg_ℤ c.args.reach = omega (arith, ints) in
    let plain : to_z w64 (of_z w64 c.args.reach) ≡ c.args.reach = omega (arith, ints) in
    let first : c.is_at_most.result ≡ le_z (least_difference c.args.a.now c.args.b.now 1) c.args.reach = rw plain at c.is_at_most.ensures in
    let second : c.is_at_least.result ≡ le_z (neg_ℤ c.args.reach) (greatest_difference c.args.a.now c.args.b.now 1) = rw opposite at c.is_at_least.ensures in
    rw second (the_second (le_z (least_difference c.args.a.now c.args.b.now 1) c.args.reach) (le_z (neg_ℤ c.args.reach) (greatest_difference c.args.a.now c.args.b.now 1)) (cc))
