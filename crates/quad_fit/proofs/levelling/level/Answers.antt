use Rattle.std.proofs.Common.{◌≡◌, to_z, of_z, w64, arith}
use Rattle.std.proofs.lemmas.Int.{to_z-of_z}
use Rattle.quad_fit.proofs.Exchanges.{ends_pair}
use Rattle.quad_fit.proofs.levelling.level.Goals as goal

pub level_pair-requires-clause-pair : goal.level_pair-requires-clause-pair
level_pair-requires-clause-pair c = ends_pair c.args.marks.now _ c.at.result c.at-2.result c.requires.marks (omega arith) (omega arith) c.at.ensures c.at-2.ensures

pub returns : goal.returns
returns c =
    let tol : to_z w64 (of_z w64 c.args.tol) ≡ c.args.tol = to_z-of_z w64 c.args.tol c.ranges.tol in
    let acc : to_z w64 (of_z w64 c.args.acc) ≡ c.args.acc = to_z-of_z w64 c.args.acc c.ranges.acc in
    rw (acc, tol) at c.level_pair.ensures
