use Rattle.std.proofs.Common.{◌≡◌, true, pos, ℤ, ◌-ℤ◌, ◌≤ℤ◌, to_z, of_z, w64, arith}
use Rattle.std.specs.Int.Signed.{le_z}
use Rattle.std.proofs.lemmas.Int.{ints}
use Rattle.bound_prune.proofs.Apart.{kept_none}
use Rattle.bound_prune.proofs.times.kept_difference.Goals as goal

not_above : (from to : ℤ) → le_z to from ≡ true → (to -ℤ from) ≤ℤ pos 0
not_above from to h = grind (arith, ints)

pub returns-then-to-from-clause-value : goal.returns-then-to-from-clause-value
returns-then-to-from-clause-value c =
    let r = c.requires in
    let least = r.from in
    let from : to_z w64 (of_z w64 c.args.from) ≡ c.args.from = omega (arith, ints) in
    let to : to_z w64 (of_z w64 c.args.to) ≡ c.args.to = omega (arith, ints) in
    kept_none c.args.most (c.args.to -ℤ c.args.from) least (not_above c.args.from c.args.to (rw (from, to) at c.if-to-from.true))
