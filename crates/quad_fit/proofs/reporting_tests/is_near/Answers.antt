use Rattle.std.proofs.Common.{◌≡◌, ◌-ℤ◌, pos, neg_ℤ, true, w64, FitsSigned, arith}
use Rattle.std.proofs.lemmas.Int.{ints}
use lib.Signed.{le_z}
use Rattle.quad_fit.proofs.Sizes.{held, held_wide}
use Rattle.quad_fit.proofs.reporting_tests.is_near.Goals as goal

pub returns-then-away-geminus15000000 : goal.returns-then-away-geminus15000000
returns-then-away-geminus15000000 c =
    let fits : FitsSigned w64 c.args.epoch = c.ranges.epoch in
    let away : held_wide (held_wide (held c.spot.inside.epoch) -ℤ held_wide (held c.args.epoch)) ≡ c.spot.inside.epoch -ℤ c.args.epoch = omega (arith, ints, c.spot.invariant.epoch_in_range.from, c.spot.invariant.epoch_in_range.to) in
    let low : le_z (neg_ℤ (pos 15000000)) (c.spot.inside.epoch -ℤ c.args.epoch) ≡ true = rw away at c.if-away-geminus15000000.true in
    rw (← c.spot.view_is, away) (λ (h : le_z (c.spot.inside.epoch -ℤ c.args.epoch) (pos 15000000) ≡ true). (omega (arith, ints, low), omega (arith, ints, h)))
