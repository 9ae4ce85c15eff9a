use Rattle.std.proofs.Common.{◌≡◌, ◌-ℤ◌, to_z, of_z, w64, arith}
use Rattle.std.proofs.lemmas.Int.{ints}
use Rattle.quad_fit.proofs.marks.mark_of.Goals as goal

pub invariant_of-result : goal.invariant_of-result
invariant_of-result c =
    let time : to_z w64 (of_z w64 (to_z w64 (of_z w64 c.spot.inside.epoch) -ℤ to_z w64 (of_z w64 c.base.inside.epoch))) ≡ c.spot.inside.epoch -ℤ c.base.inside.epoch = omega (arith, ints) in
    let position : to_z w64 (of_z w64 c.offset.result) ≡ c.offset.result = omega (arith, ints) in
    rw (time, position, c.offset.ensures.value, ← c.base.view_is, ← c.spot.view_is) (rw (← c.base.view_is, ← c.spot.view_is) at c.requires)

pub returns : goal.returns
returns c =
    let time : to_z w64 (of_z w64 (to_z w64 (of_z w64 c.spot.inside.epoch) -ℤ to_z w64 (of_z w64 c.base.inside.epoch))) ≡ c.spot.inside.epoch -ℤ c.base.inside.epoch = omega (arith, ints) in
    let position : to_z w64 (of_z w64 c.offset.result) ≡ c.offset.result = omega (arith, ints) in
    rw (time, position, c.offset.ensures.value, ← c.base.view_is, ← c.spot.view_is)
