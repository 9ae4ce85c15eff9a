use Rattle.std.proofs.Common.{◌≡◌, ◌∙◌, true, false, pos, neg_ℤ, ℤ, ◌-ℤ◌, ◌≤ℤ◌, to_z, of_z, w64, arith}
use Rattle.std.specs.Int.Signed.{le_z}
use Rattle.std.proofs.lemmas.Int.{ints}
use Rattle.bound_prune.specs.Bounds.{kept_within, two_turns}
use Rattle.bound_prune.proofs.Apart.{kept_ahead, kept_back}
use Rattle.bound_prune.proofs.ways.distance.Goals as goal

not_below : (from to : ℤ) → le_z from to ≡ true → pos 0 ≤ℤ (to -ℤ from)
not_below from to h = grind (arith, ints)

below : (from to : ℤ) → le_z from to ≡ false → pos 0 ≤ℤ (from -ℤ to)
below from to h = grind (arith, ints)

turned : (from to : ℤ) → to -ℤ from ≡ neg_ℤ (from -ℤ to)
turned from to = omega (arith, ints)

pub returns-then-from-to-clause-value : goal.returns-then-from-to-clause-value
returns-then-from-to-clause-value c =
    let from : to_z w64 (of_z w64 c.args.from) ≡ c.args.from = omega (arith, ints) in
    let to : to_z w64 (of_z w64 c.args.to) ≡ c.args.to = omega (arith, ints) in
    let r = c.kept_apart.ensures.range in
    let kept : to_z w64 (of_z w64 c.kept_apart.result) ≡ c.kept_apart.result = omega (arith, ints) in
    let value : c.kept_apart.result ≡ kept_within (pos 0) two_turns (c.args.to -ℤ c.args.from) = rw (from, to) at c.kept_apart.ensures.value in
    kept ∙ value ∙ kept_ahead (c.args.to -ℤ c.args.from) (not_below c.args.from c.args.to (rw (from, to) at c.if-from-to.true))

pub returns-else-from-to-clause-value : goal.returns-else-from-to-clause-value
returns-else-from-to-clause-value c =
    let from : to_z w64 (of_z w64 c.args.from) ≡ c.args.from = omega (arith, ints) in
    let to : to_z w64 (of_z w64 c.args.to) ≡ c.args.to = omega (arith, ints) in
    let r = c.kept_apart-else-from-to.ensures.range in
    let kept : to_z w64 (of_z w64 (pos 0 -ℤ to_z w64 (of_z w64 c.kept_apart-else-from-to.result))) ≡ neg_ℤ c.kept_apart-else-from-to.result = omega (arith, ints) in
    let value : c.kept_apart-else-from-to.result ≡ kept_within (pos 0) two_turns (c.args.from -ℤ c.args.to) = rw (from, to) at c.kept_apart-else-from-to.ensures.value in
    rw (kept, value) (kept_back (c.args.from -ℤ c.args.to) (c.args.to -ℤ c.args.from) (below c.args.from c.args.to (rw (from, to) at c.if-from-to.false)) (turned c.args.from c.args.to))
