use Rattle.std.proofs.Common.{◌≡◌, ◌++◌, ◌-ℤ◌, length, slice_index_or, ◌-◌, refl, to_z, of_z, w64, arith}
use Rattle.std.proofs.lemmas.Int.{ints}
use Rattle.sky_units.proofs.EpochOrder.{test_of_lt, lt_of_test, short_of_ends, ends_of_short}
use Rattle.sky_units.proofs.arcs.is_short.Goals as goal

pub returns : goal.returns
returns c =
    let spots = c.args.a.now ++ c.args.b.now ++ c.args.c.now in
    let first = c.joined_spot-first in
    let last = c.joined_spot-last in
    let read : to_z w64 (of_z w64 (to_z w64 (of_z w64 c.last.inside.epoch) -ℤ to_z w64 (of_z w64 c.first.inside.epoch))) ≡ c.last.inside.epoch -ℤ c.first.inside.epoch = omega (arith, ints) in
    let same : c.last.inside.epoch -ℤ c.first.inside.epoch ≡ last.result.now.epoch -ℤ first.result.now.epoch = rw (← c.last.view_is, ← c.first.view_is) refl in
    let end : last.result.now ≡ slice_index_or spots (length spots - 1) last.result.now = rw (← c.joined_len-len.ensures) last.ensures in
    rw (read, same) (
      λ h. short_of_ends spots first.result.now last.result.now (omega arith) first.ensures end c.requires (lt_of_test _ _ h),
      λ h. test_of_lt _ _ (ends_of_short spots first.result.now last.result.now (omega arith) first.ensures end h),
    )
