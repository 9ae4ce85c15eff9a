use Rattle.std.proofs.Common.{◌≡◌, rules, pos, ◌-ℤ◌, to_z, of_z, w64}
use Rattle.sky_math.specs.Circle.{wrapped}
use Rattle.sky_units.proofs.Turning.{wrapped-is}
use Rattle.sky_units.proofs.angles.wrap.Goals as goal

pub returns-clause-turns : goal.returns-clause-turns
returns-clause-turns c =
    let value : to_z w64 (of_z w64 (to_z w64 (of_z w64 c.rem_euclid.result) -ℤ pos 180000000)) ≡ wrapped c.args.d = search rules in
    rw value (wrapped-is c.args.d)
