use Rattle.std.proofs.Common.{◌≡◌, sym, subst, w64, rules}
use mir.Facts.{to_z-of_z}
use mir.Val.{SFits}
use Rattle.sky_math.specs.Night.{night_at}
use Rattle.mops_run.specs.Linking.{IsNearNight}
use Rattle.mops_run.proofs.LeastNights.{night_is_near}
use Rattle.mops_run.proofs.linking.night.Goals as goal

pub returns-clause-near : goal.returns-clause-near
returns-clause-near c =
    let shift_fits : SFits w64 c.settings.inside.night_shift = search rules in
    let epoch_fits : SFits w64 c.detection.inside.epoch = search rules in
    let is : c.night_of.result ≡ night_at c.settings.inside.night_shift c.detection.inside.epoch = simp to_z-of_z at c.night_of.ensures in
    let near : IsNearNight c.night_of.result = subst IsNearNight (sym is) (night_is_near c.settings.inside.night_shift c.detection.inside.epoch c.detection.invariant.epoch c.settings.invariant.night_shift_in_range) in
    let fits : SFits w64 c.night_of.result = search rules in
    simp to_z-of_z near
