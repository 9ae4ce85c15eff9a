use Rattle.std.proofs.Common.{◌≡◌, None, arith, to_z, of_z, w64}
use Rattle.std.proofs.lemmas.Int.{ints}
use Rattle.exposure_log.specs.Nights.{listed_of}
use Rattle.exposure_log.proofs.Keeping.{nothing_held}
use Rattle.exposure_log.proofs.Logs.{no_listed}
use Rattle.exposure_log.proofs.log.ExposureLog.set_shift.Goals as goal

pub invariant_of-self : goal.invariant_of-self
invariant_of-self c =
    let shift : to_z w64 (of_z w64 c.args.night_shift) ≡ c.args.night_shift = omega (arith, ints) in
    let early : c.self.inside.window ≡ None = rw (← c.self.view_is) at c.requires.early in
    let nothing = no_listed c.self.inside.nights.shift c.self.inside.window c.self.inside.register (listed_of c.self.inside.nights) early c.self.invariant.2 in
    rw (c.new.ensures, shift) (c.requires.range, rw nothing at c.self.invariant.1, rw early (nothing_held c.args.night_shift))
