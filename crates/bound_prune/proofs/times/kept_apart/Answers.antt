use Rattle.std.proofs.Common.{◌≡◌, ℕ, ◌<◌, ◌≤◌, ◌∙◌, pos, ℤ, ◌-ℤ◌, ◌≤ℤ◌, to_z, of_z, w64, arith}
use Rattle.std.specs.Int.RustNames.{unsigned_abs}
use Rattle.std.proofs.lemmas.Int.{ints}
use Rattle.bound_prune.proofs.Apart.{kept_all, kept_most, size_is}
use Rattle.bound_prune.proofs.times.kept_apart.Goals as goal

at_least : (most : ℤ) (n : ℕ) → unsigned_abs most ≤ n → most ≤ℤ pos n
at_least most n h = omega (arith, ints)

at_most : (most : ℤ) (n : ℕ) → pos 0 ≤ℤ most → n < unsigned_abs most → pos n ≤ℤ most
at_most most n p h = omega (arith, ints)

pub returns-then-abs_diff-most-clause-value : goal.returns-then-abs_diff-most-clause-value
returns-then-abs_diff-most-clause-value c =
    let m = c.requires.most in
    let from = m.from in
    let to = m.to in
    let low : to_z w64 (of_z w64 c.args.low) ≡ c.args.low = omega (arith, ints) in
    let high : to_z w64 (of_z w64 c.args.high) ≡ c.args.high = omega (arith, ints) in
    let most : to_z w64 (of_z w64 c.args.most) ≡ c.args.most = omega (arith, ints) in
    let size : pos c.abs_diff.result ≡ c.args.high -ℤ c.args.low = size_is c.args.low c.args.high c.abs_diff.result c.requires.order (rw (low, high) at c.abs_diff.ensures) in
    let far : c.args.most ≤ℤ pos c.abs_diff.result = at_least c.args.most c.abs_diff.result (rw most at c.if-abs_diff-most.true) in
    most ∙ kept_most c.args.most (c.args.high -ℤ c.args.low) from (rw (← size) far)

pub returns-clause-value : goal.returns-clause-value
returns-clause-value c =
    let m = c.requires.most in
    let from = m.from in
    let to = m.to in
    let low : to_z w64 (of_z w64 c.args.low) ≡ c.args.low = omega (arith, ints) in
    let high : to_z w64 (of_z w64 c.args.high) ≡ c.args.high = omega (arith, ints) in
    let most : to_z w64 (of_z w64 c.args.most) ≡ c.args.most = omega (arith, ints) in
    let size : pos c.abs_diff.result ≡ c.args.high -ℤ c.args.low = size_is c.args.low c.args.high c.abs_diff.result c.requires.order (rw (low, high) at c.abs_diff.ensures) in
    let near : pos c.abs_diff.result ≤ℤ c.args.most = at_most c.args.most c.abs_diff.result from (rw most at c.if-abs_diff-most.false) in
    let kept : to_z w64 (of_z w64 (c.args.high -ℤ c.args.low)) ≡ c.args.high -ℤ c.args.low = omega (arith, ints, size, near) in
    rw (low, high) (kept ∙ kept_all c.args.most (c.args.high -ℤ c.args.low) (omega (arith, ints, size)) (rw size at near))
