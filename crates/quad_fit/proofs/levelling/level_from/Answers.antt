use Rattle.std.proofs.Common.{◌≡◌, to_z, of_z, w64}
use Rattle.std.proofs.lemmas.Int.{to_z-of_z}
use Rattle.quad_fit.proofs.levelling.level_from.Goals as goal

pub returns-in-Pair : goal.returns-in-Pair
returns-in-Pair c =
    let tol : to_z w64 (of_z w64 c.args.tol) ≡ c.args.tol = to_z-of_z w64 c.args.tol c.ranges.tol in
    let acc : to_z w64 (of_z w64 c.args.acc) ≡ c.args.acc = to_z-of_z w64 c.args.acc c.ranges.acc in
    rw (acc, tol) at c.level_pair.ensures

pub returns-in-Triple : goal.returns-in-Triple
returns-in-Triple c =
    let tol : to_z w64 (of_z w64 c.args.tol) ≡ c.args.tol = to_z-of_z w64 c.args.tol c.ranges.tol in
    let acc : to_z w64 (of_z w64 c.args.acc) ≡ c.args.acc = to_z-of_z w64 c.args.acc c.ranges.acc in
    rw (acc, tol) at c.level_triple.ensures
