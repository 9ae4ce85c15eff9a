use Rattle.std.proofs.Common.{◌≡◌, pos, neg_ℤ, ◌-ℤ◌, to_z, of_z, w64, arith}
use Rattle.std.proofs.lemmas.Int.{ints}
use Rattle.std.specs.Int.Signed.{le_z}
use Rattle.sky_math.specs.Circle.{full_turn}
use Rattle.pair_finder.specs.Pruning.{least_difference, greatest_difference}
use Rattle.pair_finder.proofs.Choices.{both_near, from_behind, from_ahead}
use Rattle.pair_finder.proofs.nearness.comes_near_round.Goals as goal

pub returns-then-is_at_least : goal.returns-then-is_at_least
returns-then-is_at_least c =
    let plain : to_z w64 (of_z w64 c.args.reach) ≡ c.args.reach = omega (arith, ints) in
    let first : c.is_at_most.result ≡ le_z (least_difference c.args.a.now c.args.b.now 2) c.args.reach = rw plain at c.is_at_most.ensures in
    let opposite : to_z w64 (of_z w64 (pos 0 -ℤ to_z w64 (of_z w64 c.args.reach))) ≡ neg_ℤ c.args.reach = omega (arith, ints) in
    let second : c.is_at_least.result ≡ le_z (neg_ℤ c.args.reach) (greatest_difference c.args.a.now c.args.b.now 2) = rw opposite at c.is_at_least.ensures in
    both_near (le_z (least_difference c.args.a.now c.args.b.now 2) c.args.reach) (le_z (neg_ℤ c.args.reach) (greatest_difference c.args.a.now c.args.b.now 2)) (le_z (full_turn -ℤ c.args.reach) (greatest_difference c.args.a.now c.args.b.now 2)) (le_z (least_difference c.args.a.now c.args.b.now 2) (c.args.reach -ℤ full_turn)) (cc) (cc)

pub is_at_most-requires-then-is_at_most-clause-limit : goal.is_at_most-requires-then-is_at_most-clause-limit
is_at_most-requires-then-is_at_most-clause-limit c = record { from = omega (arith, ints); to = omega (arith, ints) }

pub returns-then-is_at_most : goal.returns-then-is_at_most
returns-then-is_at_most c =
    let plain : to_z w64 (of_z w64 c.args.reach) ≡ c.args.reach = omega (arith, ints) in
    let first : c.is_at_most.result ≡ le_z (least_difference c.args.a.now c.args.b.now 2) c.args.reach = rw plain at c.is_at_most.ensures in
    let opposite : to_z w64 (of_z w64 (pos 0 -ℤ to_z w64 (of_z w64 c.args.reach))) ≡ neg_ℤ c.args.reach = omega (arith, ints) in
    let second : c.is_at_least.result ≡ le_z (neg_ℤ c.args.reach) (greatest_difference c.args.a.now c.args.b.now 2) = rw opposite at c.is_at_least.ensures in
    let turned : to_z w64 (of_z w64 (to_z w64 (of_z w64 c.args.reach) -ℤ pos 360000000)) ≡ c.args.reach -ℤ full_turn = omega (arith, ints) in
    let third : c.is_at_most-then-is_at_most.result ≡ le_z (least_difference c.args.a.now c.args.b.now 2) (c.args.reach -ℤ full_turn) = rw turned at c.is_at_most-then-is_at_most.ensures in
    rw third (from_behind (le_z (least_difference c.args.a.now c.args.b.now 2) c.args.reach) (le_z (neg_ℤ c.args.reach) (greatest_difference c.args.a.now c.args.b.now 2)) (le_z (full_turn -ℤ c.args.reach) (greatest_difference c.args.a.now c.args.b.now 2)) (le_z (least_difference c.args.a.now c.args.b.now 2) (c.args.reach -ℤ full_turn)) (cc) (cc))

pub returns : goal.returns
returns c =
    let plain : to_z w64 (of_z w64 c.args.reach) ≡ c.args.reach = omega (arith, ints) in
    let first : c.is_at_most.result ≡ le_z (least_difference c.args.a.now c.args.b.now 2) c.args.reach = rw plain at c.is_at_most.ensures in
    let turned : to_z w64 (of_z w64 (pos 360000000 -ℤ to_z w64 (of_z w64 c.args.reach))) ≡ full_turn -ℤ c.args.reach = omega (arith, ints) in
    let fourth : c.is_at_least-2.result ≡ le_z (full_turn -ℤ c.args.reach) (greatest_difference c.args.a.now c.args.b.now 2) = rw turned at c.is_at_least-2.ensures in
    rw fourth (from_ahead c.args.reach (least_difference c.args.a.now c.args.b.now 2) (greatest_difference c.args.a.now c.args.b.now 2) (cc))
