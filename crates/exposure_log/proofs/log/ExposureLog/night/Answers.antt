use Rattle.std.proofs.Common.{◌≡◌, ◌∙◌, ap, subst, arith, to_z, of_z, w64}
use Rattle.std.specs.Result.{IfOk}
use Rattle.std.proofs.lemmas.Int.{ints}
use Rattle.exposure_log.specs.Nights.{listed_of}
use Rattle.exposure_log.proofs.Spots.{spots, night_spots}
use Rattle.exposure_log.proofs.log.ExposureLog.night.Goals as goal

pub returns : goal.returns
returns c =
    let night : to_z w64 (of_z w64 c.args.night) ≡ c.args.night = omega (arith, ints) in
    let here = rw night at c.of_night.ensures in
    let all = ap (spots c.self.inside.register) here ∙ night_spots c.self.inside.register c.self.inside.nights.shift c.args.night (listed_of c.self.inside.nights) in
    rw (← c.self.view_is) (subst (λ z. IfOk c.spots_of.result (λ x. x.items ≡ z)) all c.spots_of.ensures)
