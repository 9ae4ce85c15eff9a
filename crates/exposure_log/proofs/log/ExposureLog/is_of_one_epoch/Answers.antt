use Rattle.std.proofs.Common.{◌≡◌, Less, ◌∙◌, arith, to_z, of_z, w64}
use Rattle.std.proofs.lemmas.Int.{ints}
use Rattle.std.proofs.lemmas.List.Kept.{AllPairs-filter}
use Rattle.exposure_log.specs.Nights.{listed_of}
use Rattle.exposure_log.specs.Numbered.{numbered_cmp}
use Rattle.exposure_log.specs.declared.numbered.NumberedExposure.{NumberedExposure}
use Rattle.exposure_log.proofs.OneEpoch.{night_is_of_one}
use Rattle.exposure_log.proofs.log.ExposureLog.is_of_one_epoch.Goals as goal

pub are_of_one_epoch-requires : goal.are_of_one_epoch-requires
are_of_one_epoch-requires c = rw c.of_night.ensures (AllPairs-filter (λ (g h : NumberedExposure). numbered_cmp h.epoch h.site g ≡ Less) _ _ c.self.invariant.1.in_order)

pub returns : goal.returns
returns c =
    let night : to_z w64 (of_z w64 c.args.night) ≡ c.args.night = omega (arith, ints) in
    let here = rw night at c.of_night.ensures in
    let same = night_is_of_one c.self.inside.register c.self.inside.nights.shift c.args.night (listed_of c.self.inside.nights) c.of_night.result.now here in
    rw (← c.self.view_is) (λ h. same.0 (c.are_of_one_epoch.ensures.0 h), λ h. c.are_of_one_epoch.ensures.1 (same.1 h))
