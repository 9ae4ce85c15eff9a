use Rattle.std.proofs.Common.{◌≡◌, pos, ◌+ℤ◌, ◌-ℤ◌, ◌*ℤ◌, to_z, of_z, w64, arith}
use Rattle.std.specs.Int.{w128}
use Rattle.std.proofs.lemmas.Int.{ints}
use Rattle.bound_prune.specs.Bounds.{Reaches}
use Rattle.bound_prune.proofs.Cuts.{tells}
use Rattle.bound_prune.proofs.travel.is_reached.Goals as goal

pub returns : goal.returns
returns c =
    let t = c.requires.tol in
    let d = c.requires.distance in
    let wanted : to_z w128 (of_z w128 (to_z w64 (of_z w64 (pos 2000000 *ℤ to_z w64 (of_z w64 (to_z w64 (of_z w64 c.args.distance) -ℤ to_z w64 (of_z w64 (to_z w64 (of_z w64 c.args.tol) +ℤ to_z w64 (of_z w64 c.args.tol))))))))) ≡ pos 2000000 *ℤ (c.args.distance -ℤ (c.args.tol +ℤ c.args.tol)) = omega (arith, ints) in
    let way : to_z w128 (of_z w128 c.args.way) ≡ c.args.way = omega (arith, ints) in
    rw (wanted, way) (tells (pos 2000000 *ℤ (c.args.distance -ℤ (c.args.tol +ℤ c.args.tol))) c.args.way (Reaches c.args.tol c.args.distance c.args.way) (λ h. h) (λ h. h))
