use Rattle.std.proofs.Common.{◌≡◌, ◌<◌, ◌≤ℤ◌, ℤ, IsTrue, length, to_z, of_z, w64, arith, rules}
use Rattle.std.specs.Int.Signed.{le_z}
use Rattle.std.proofs.lemmas.Int.{ints}
use Rattle.pair_finder.proofs.NonePaired.{of_one_epoch}
use Rattle.pair_finder.proofs.are_of_one_epoch.Goals as goal

passed : (a b : ℤ) → IsTrue (le_z a b) → a ≤ℤ b
passed a b h = grind (arith, ints)

pub returns : goal.returns
returns c = λ h.
    let inside : c.last.inside.epoch ≤ℤ c.first.inside.epoch =
    let last : to_z w64 (of_z w64 c.last.inside.epoch) ≡ c.last.inside.epoch = omega (arith, ints) in
    let first : to_z w64 (of_z w64 c.first.inside.epoch) ≡ c.first.inside.epoch = omega (arith, ints) in
    rw (last, first) at (passed (to_z w64 (of_z w64 c.last.inside.epoch)) (to_z w64 (of_z w64 c.first.inside.epoch)) h) in
    let some : 0 < length c.args.spots.now = search rules in
    let falls : c.index-spots-spots.result.epoch ≤ℤ c.index-spots-0.result.epoch = rw (← c.last.view_is, ← c.first.view_is) inside in
    of_one_epoch c.args.spots.now c.index-spots-0.result c.index-spots-spots.result c.requires some c.index-spots-0.is c.index-spots-spots.is falls
