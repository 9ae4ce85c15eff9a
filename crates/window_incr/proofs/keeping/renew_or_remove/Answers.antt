use Rattle.std.proofs.Common.{◌≡◌, ap, rules, w64}
use mir.Facts.{to_z-of_z}
use mir.Val.{SFits, to_z, of_z}
use Rattle.sky_math.specs.Night.{night_at}
use Rattle.sky_units.specs.SettingsData.{SettingsData}
use Rattle.window_incr.proofs.keeping.renew_or_remove.Goals as goal

pub renew_night-requires-clause-but : goal.renew_night-requires-clause-but
renew_night-requires-clause-but c =
    let fits_shift : SFits w64 c.settings.inside.night_shift = search rules in
    let fits_epoch : SFits w64 c.args.epoch = c.ranges.epoch in
    let fits_night : SFits w64 c.night_of-number.result = search rules in
    let plain : to_z w64 (of_z w64 c.night_of-number.result) ≡ c.night_of-number.result = simp to_z-of_z in
    let shift : c.settings.inside.night_shift ≡ c.args.settings.now.night_shift = ap (λ (s : SettingsData). s.night_shift) c.settings.view_is in
    let night : c.night_of-number.result ≡ night_at c.settings.inside.night_shift c.args.epoch = simp to_z-of_z at c.night_of-number.ensures in
    rw (plain, night, shift) c.requires.but
