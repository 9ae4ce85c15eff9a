use Rattle.std.proofs.Common.{◌≡◌, ℤ, sym, ap, ◌∙◌, to_z, of_z, w64, arith}
use Rattle.std.proofs.lemmas.Bool.{MatchBool-at_false, MatchBool-at_true}
use Rattle.std.proofs.lemmas.Int.{ints}
use Rattle.sky_math.specs.Night.{night_at}
use Rattle.sky_units.specs.Ranges.{IsEpoch}
use Rattle.sky_units.specs.SettingsData.{SettingsData}
use Rattle.exposure_log.specs.Outcomes.{IsThere}
use Rattle.exposure_log.specs.declared.outcomes.Outcome.TheVariants.{Taken}
use Rattle.kept_nights.specs.LinkerState.{LinkerState}
use Rattle.kept_nights.proofs.Renewal.{built_already, built_now}
use Rattle.kept_nights.proofs.keeping.add_night.Goals as goal

pub returns-then-is_built : goal.returns-then-is_built
returns-then-is_built c = λ before renewed.
    let s : LinkerState = record { settings = c.args.settings.now; log = c.args.log.now } in
    let there : IsThere c.args.log.now.exposures (Taken c.in-Taken.epoch c.in-Taken.field-1 c.in-Taken.field-2) = rw c.in-Taken.is at c.requires.there in
    let range : IsEpoch c.in-Taken.epoch = there.0 in
    let epoch : to_z w64 (of_z w64 c.in-Taken.epoch) ≡ c.in-Taken.epoch = omega (arith, ints, range) in
    let shift : to_z w64 (of_z w64 c.settings.inside.night_shift) ≡ c.settings.inside.night_shift = omega (arith, ints) in
    let back : to_z w64 (of_z w64 c.night_of-number.result) ≡ c.night_of-number.result = omega (arith, ints) in
    let night = rw (epoch, shift) at c.night_of-number.ensures in
    let same : c.settings.inside.night_shift ≡ c.args.log.now.night_shift = ap (λ (s : SettingsData). s.night_shift) c.settings.view_is ∙ sym c.requires.shift in
    let number = back ∙ (night ∙ ap (λ (z : ℤ). night_at z c.in-Taken.epoch) same) in
    let last = rw c.as_slice.ensures.value at (MatchBool-at_true _ _ c.if-is_built.true c.is_built.ensures) in
    rw c.in-Taken.is (built_already s before c.in-Taken.epoch (to_z w64 (of_z w64 c.night_of-number.result)) c.in-Taken.field-1 c.in-Taken.field-2 c.args.changed.now.items renewed number last)

pub returns-in_ok-push-in-Taken : goal.returns-in_ok-push-in-Taken
returns-in_ok-push-in-Taken c = λ before renewed.
    let s : LinkerState = record { settings = c.args.settings.now; log = c.args.log.now } in
    let there : IsThere c.args.log.now.exposures (Taken c.in-Taken.epoch c.in-Taken.field-1 c.in-Taken.field-2) = rw c.in-Taken.is at c.requires.there in
    let range : IsEpoch c.in-Taken.epoch = there.0 in
    let epoch : to_z w64 (of_z w64 c.in-Taken.epoch) ≡ c.in-Taken.epoch = omega (arith, ints, range) in
    let shift : to_z w64 (of_z w64 c.settings.inside.night_shift) ≡ c.settings.inside.night_shift = omega (arith, ints) in
    let back : to_z w64 (of_z w64 c.night_of-number.result) ≡ c.night_of-number.result = omega (arith, ints) in
    let night = rw (epoch, shift) at c.night_of-number.ensures in
    let same : c.settings.inside.night_shift ≡ c.args.log.now.night_shift = ap (λ (s : SettingsData). s.night_shift) c.settings.view_is ∙ sym c.requires.shift in
    let number = back ∙ (night ∙ ap (λ (z : ℤ). night_at z c.in-Taken.epoch) same) in
    let fresh = rw c.as_slice.ensures.value at (MatchBool-at_false _ _ c.if-is_built.false c.is_built.ensures) in
    rw c.in-Taken.is (built_now s before c.in-Taken.epoch (to_z w64 (of_z w64 c.night_of-number.result)) c.in-Taken.field-1 c.in-Taken.field-2 c.args.changed.now.items c.push.new.self.items c.in_ok-built-in-Taken.field-0 renewed fresh there number
    c.in_ok-built-in-Taken.ensures c.in_ok-push-in-Taken.ensures.items)
