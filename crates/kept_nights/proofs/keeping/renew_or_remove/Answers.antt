use Rattle.std.proofs.Common.{◌≡◌, ℤ, ap, ◌∙◌, rules, w64}
use mir.Facts.{to_z-of_z}
use mir.Val.{SFits}
use Rattle.sky_math.specs.Night.{night_at}
use Rattle.sky_units.specs.SettingsData.{SettingsData}
use Rattle.kept_nights.specs.KeptNights.{night_data, with_night}
use Rattle.kept_nights.specs.LinkerState.{LinkerState}
use Rattle.kept_nights.proofs.keeping.renew_or_remove.Goals as goal

pub returns-clause-nights : goal.returns-clause-nights
returns-clause-nights c =
    let fits_shift : SFits w64 c.settings.inside.night_shift = search rules in
    let fits_epoch : SFits w64 c.args.epoch = c.ranges.epoch in
    let fits_night : SFits w64 c.night_of-night.result = search rules in
    let shift : c.settings.inside.night_shift ≡ c.args.settings.now.night_shift = ap (λ (s : SettingsData). s.night_shift) c.settings.view_is in
    let night : c.night_of-night.result ≡ night_at c.settings.inside.night_shift c.args.epoch = simp to_z-of_z at c.night_of-night.ensures in
    let s : LinkerState = record { settings = c.args.settings.now; log = c.args.log.now } in
    let built : c.renew.new.nights.items ≡ with_night (night_data s c.night_of-night.result) c.args.nights.now.items = simp to_z-of_z at c.in_default.ensures.ok in
    built ∙ ap (λ (n : ℤ). with_night (night_data s n) c.args.nights.now.items) (night ∙ ap (λ (z : ℤ). night_at z c.args.epoch) shift)
