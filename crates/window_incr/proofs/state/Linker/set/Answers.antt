use Rattle.std.proofs.Common.{◌≡◌, IfSome, ℕ, ℤ, List, Some, None, refl, sym, ap, subst, ◌∙◌, rules, to_z, of_z, w64}
use mir.Facts.{to_z-of_z}
use mir.Val.{SFits}
use Rattle.std.specs.declared.result.Result.TheVariants.{Ok, Err}
use Rattle.sky_units.specs.Limits.{IsNear}
use Rattle.exposure_log.specs.Held.{LogData}
use Rattle.sky_units.specs.SettingNames.{set_named}
use Rattle.sky_units.specs.SettingsData.{SettingsData}
use Rattle.sky_units.specs.declared.setting_names.SetError.TheVariants.{Late}
use Rattle.window_incr.specs.LinkerState.{LinkerState, after_setting, under}
use Rattle.window_incr.proofs.Kept.{keeps_results, nothing_under}
use Rattle.window_incr.proofs.state.Linker.set.Goals as goal

late_is : (s : LinkerState) (name : List ℕ) (value : ℤ) (settings : SettingsData) (window : ℤ × ℤ) → set_named name value s.settings ≡ Ok settings → s.log.window ≡ Some window → after_setting name value s ≡ Err Late
late_is s name value settings window found set = rw (found, set) refl

set_is : (s : LinkerState) (name : List ℕ) (value : ℤ) (settings : SettingsData) → set_named name value s.settings ≡ Ok settings → s.log.window ≡ None → after_setting name value s ≡ Ok (under s settings)
set_is s name value settings found none = rw (found, none) refl

pub returns-in-Some-clause-cause : goal.returns-in-Some-clause-cause
returns-in-Some-clause-cause c =
    let fits : SFits w64 c.args.value = search rules in
    let found : set_named c.args.name.now c.args.value c.self.inside.settings ≡ Ok c.in_ok-settings.settings = sym (simp to_z-of_z at c.in_ok-settings.ensures) in
    let set : c.self.inside.log.window ≡ Some c.in-Some._window = sym c.in-Some.ensures.value in
    rw (← c.self.view_is) (late_is (record { settings = c.self.inside.settings; log = c.self.inside.log }) c.args.name.now c.args.value c.in_ok-settings.settings c.in-Some._window found set)

abbrev shifted : LogData → ℤ → LogData
shifted log shift = record log { night_shift = shift }

pub returns-clause-ok : goal.returns-clause-ok
returns-clause-ok c =
    let fits_value : SFits w64 c.args.value = search rules in
    let none : c.self.inside.log.window ≡ None = search rules in
    let found : set_named c.args.name.now c.args.value c.self.inside.settings ≡ Ok c.in_ok-settings.settings = sym (simp to_z-of_z at c.in_ok-settings.ensures) in
    let fits : SFits w64 c.settings.inside.night_shift = search rules in
    let shift : to_z w64 (of_z w64 c.settings.inside.night_shift) ≡ c.in_ok-settings.settings.night_shift = simp to_z-of_z (ap (λ (s : SettingsData). s.night_shift) c.settings.view_is) in
    let kept : c.set_shift.new.self ≡ shifted c.self.inside.log c.in_ok-settings.settings.night_shift = c.set_shift.ensures ∙ ap (shifted c.self.inside.log) shift in
    rw (← c.self.view_is, kept) (set_is (record { settings = c.self.inside.settings; log = c.self.inside.log }) c.args.name.now c.args.value c.in_ok-settings.settings found none)

pub returns-in_err-settings-clause-kept : goal.returns-in_err-settings-clause-kept
returns-in_err-settings-clause-kept c = rw (← c.self.view_is) (keeps_results c.self.inside.settings c.self.inside.log c.self.inside.nights.items c.self.inside.kept c.self.invariant.2 c.self.invariant.3)

pub returns-in-Some-clause-kept : goal.returns-in-Some-clause-kept
returns-in-Some-clause-kept c = rw (← c.self.view_is) (keeps_results c.self.inside.settings c.self.inside.log c.self.inside.nights.items c.self.inside.kept c.self.invariant.2 c.self.invariant.3)

pub invariant_of-self : goal.invariant_of-self
invariant_of-self c =
    let none : c.self.inside.log.window ≡ None = search rules in
    let fits : SFits w64 c.settings.inside.night_shift = search rules in
    let shift : to_z w64 (of_z w64 c.settings.inside.night_shift) ≡ c.in_ok-settings.settings.night_shift = simp to_z-of_z (ap (λ (s : SettingsData). s.night_shift) c.settings.view_is) in
    let kept : c.set_shift.new.self ≡ shifted c.self.inside.log c.in_ok-settings.settings.night_shift = c.set_shift.ensures ∙ ap (shifted c.self.inside.log) shift in
    let still : c.set_shift.new.self.window ≡ None = ap (λ (l : LogData). l.window) kept ∙ none in
    let nothing = nothing_under c.self.inside.settings c.in_ok-settings.settings c.self.inside.log c.set_shift.new.self c.self.inside.nights.items c.new.result c.self.invariant.2 none still c.new.ensures in
    (ap (λ (l : LogData). l.night_shift) kept, subst (λ window. IfSome window IsNear) (sym still) tt, nothing.0, nothing.1)

pub returns-clause-kept : goal.returns-clause-kept
returns-clause-kept c =
    let none : c.self.inside.log.window ≡ None = search rules in
    let fits : SFits w64 c.settings.inside.night_shift = search rules in
    let shift : to_z w64 (of_z w64 c.settings.inside.night_shift) ≡ c.in_ok-settings.settings.night_shift = simp to_z-of_z (ap (λ (s : SettingsData). s.night_shift) c.settings.view_is) in
    let kept : c.set_shift.new.self ≡ shifted c.self.inside.log c.in_ok-settings.settings.night_shift = c.set_shift.ensures ∙ ap (shifted c.self.inside.log) shift in
    let still : c.set_shift.new.self.window ≡ None = ap (λ (l : LogData). l.window) kept ∙ none in
    let nothing = nothing_under c.self.inside.settings c.in_ok-settings.settings c.self.inside.log c.set_shift.new.self c.self.inside.nights.items c.new.result c.self.invariant.2 none still c.new.ensures in
    keeps_results c.in_ok-settings.settings c.set_shift.new.self c.self.inside.nights.items c.new.result nothing.0 nothing.1
