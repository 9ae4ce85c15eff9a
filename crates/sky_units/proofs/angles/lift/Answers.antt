use Rattle.std.proofs.Common.{◌≡◌, arith, ◌-ℤ◌, to_z, of_z, w64}
use Rattle.std.proofs.lemmas.Int.{ints}
use Rattle.sky_math.specs.Circle.{wrapped}
use Rattle.sky_units.proofs.angles.lift.Goals as goal

pub returns : goal.returns
returns c =
    let d : to_z w64 (of_z w64 (to_z w64 (of_z w64 c.args.ra) -ℤ to_z w64 (of_z w64 c.args.base))) ≡ c.args.ra -ℤ c.args.base = omega (arith, ints) in
    let v : c.wrap.result ≡ wrapped (c.args.ra -ℤ c.args.base) = rw d at c.wrap.ensures.value in
    rw (← v) (omega (arith, ints))
