use Rattle.std.proofs.Common.{◌≡◌, ◌≤◌, pos, neg_ℤ, ◌-ℤ◌, to_z, of_z, w64, FitsSigned, arith}
use Rattle.std.specs.Int.RustNames.{unsigned_abs}
use Rattle.std.proofs.lemmas.Int.{ints, to_z-of_z}
use Rattle.quad_fit.proofs.references.lean_of.Goals as goal

pub returns-then-up : goal.returns-then-up
returns-then-up c =
    let tol : to_z w64 (of_z w64 c.args.tol) ≡ c.args.tol = to_z-of_z w64 c.args.tol c.ranges.tol in
    let fits : FitsSigned w64 (pos 0 -ℤ c.args.tol) = omega (arith, ints) in
    let read : to_z w64 (of_z w64 (pos 0 -ℤ c.args.tol)) ≡ pos 0 -ℤ c.args.tol = to_z-of_z w64 (pos 0 -ℤ c.args.tol) fits in
    let is : pos 0 -ℤ c.args.tol ≡ neg_ℤ c.args.tol = omega (arith, ints) in
    let size : unsigned_abs (pos 0 -ℤ c.args.tol) ≤ 100000 = omega (arith, ints) in
    record { value = rw (c.if-up.true, tol, read) is; size = rw (tol, read) size }

pub returns-else-up : goal.returns-else-up
returns-else-up c =
    let tol : to_z w64 (of_z w64 c.args.tol) ≡ c.args.tol = to_z-of_z w64 c.args.tol c.ranges.tol in
    let is : c.args.tol ≡ neg_ℤ (neg_ℤ c.args.tol) = omega (arith, ints) in
    let size : unsigned_abs c.args.tol ≤ 100000 = omega (arith, ints) in
    record { value = rw (c.if-up.false, tol) is; size = rw tol size }
