use Rattle.std.proofs.Common.{◌≡◌, to_z, of_z, w64, refl, arith}
use Rattle.std.proofs.lemmas.Int.{ints}
use Rattle.sky_units.proofs.EpochOrder.{test_of_lt, lt_of_test}
use Rattle.sky_units.proofs.RisingLists.{across_of_ends, ends_of_across}
use Rattle.sky_units.proofs.tracklets.rise_across.Goals as goal

pub returns : goal.returns
returns c =
    let before = c.args.before.now in
    let after = c.args.after.now in
    let last = c.index-before-before in
    let first = c.index-after-0 in
    let l : to_z w64 (of_z w64 c.last.inside.epoch) ≡ c.last.inside.epoch = omega (arith, ints) in
    let f : to_z w64 (of_z w64 c.first.inside.epoch) ≡ c.first.inside.epoch = omega (arith, ints) in
    let a : c.last.inside.epoch ≡ last.result.epoch = rw (← c.last.view_is) refl in
    let b : c.first.inside.epoch ≡ first.result.epoch = rw (← c.first.view_is) refl in
    rw (l, f, a, b) (
      λ h. across_of_ends before after last.result first.result c.requires.before c.requires.after last.is first.is (lt_of_test _ _ h),
      λ h. test_of_lt _ _ (ends_of_across before after last.result first.result c.requires.before c.requires.after last.is first.is h),
    )
