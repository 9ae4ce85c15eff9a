use Rattle.std.proofs.Common.{◌≡◌, refl, arith, to_z, of_z, w64}
use Rattle.std.proofs.lemmas.Int.{ints}
use Rattle.exposure_log.specs.Nights.{listed_of}
use Rattle.exposure_log.proofs.Refusing.{counted_night}
use Rattle.exposure_log.proofs.log.ExposureLog.is_night_full.Goals as goal

pub returns : goal.returns
returns c =
    let night : to_z w64 (of_z w64 c.args.night) ≡ c.args.night = omega (arith, ints) in
    let here = rw night at c.of_night.ensures in
    let held = counted_night c.self.inside.register c.self.inside.nights.shift c.args.night (listed_of c.self.inside.nights) c.of_night.result.now here in
    rw (← c.self.view_is, held) refl
